pub mod OpenLists
pub mod Steps
pub mod Check
