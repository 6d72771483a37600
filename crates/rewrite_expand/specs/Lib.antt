pub mod Expansion
pub mod Soundness
pub mod View
