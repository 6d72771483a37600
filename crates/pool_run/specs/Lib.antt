pub mod Entries
pub mod Fair
pub mod Values
pub mod Ends
