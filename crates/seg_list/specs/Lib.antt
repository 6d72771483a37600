pub mod Chain
pub mod Branching
pub mod Owned
