pub mod Gathering
pub mod Visits
