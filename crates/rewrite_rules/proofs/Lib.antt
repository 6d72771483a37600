pub mod Equal
pub mod Found
pub mod Once
pub mod Stripping
pub mod Sides
pub mod Groups
pub mod WellFormed
pub mod Marks
