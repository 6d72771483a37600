pub mod Text
pub mod Separated
