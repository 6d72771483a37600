pub mod Agreeing
pub mod Decided
pub mod Waiting
pub mod Found
mod Rows
