pub mod Rules
pub mod Steps
pub mod Spelled
pub mod Runs
pub mod Lines
pub mod Commands
pub mod Schedules
pub mod Texts
pub mod Unique
mod Examples
