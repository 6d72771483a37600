pub mod Walk
pub mod Unifiability
pub mod Visits
