mod Rows
pub mod Pieces
pub mod Commented
