pub mod Occurrences
pub mod Chain
pub mod Links
pub mod Apart
