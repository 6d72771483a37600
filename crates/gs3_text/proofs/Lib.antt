mod Rows
pub mod Feeds
pub mod Options
pub mod Numbers
pub mod Names
pub mod Quotes
pub mod Spellings
pub mod Terms
pub mod Arguments
pub mod Lines
pub mod Shapes
pub mod Cuts
pub mod Written
pub mod Scans
pub mod Texts
