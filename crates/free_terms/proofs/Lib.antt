pub mod Trees
pub mod Filled
pub mod Params
pub mod Matched
pub mod Injective
