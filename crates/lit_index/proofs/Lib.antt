pub mod Linked
pub mod Clashes
