pub mod Free
pub mod Gives
pub mod Matching
pub mod NoParam
pub mod View
