pub mod Asked
pub mod Outcome
pub mod Output
pub mod Reported
