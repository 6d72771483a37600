pub mod StepTree
pub mod Translation
pub mod Counting
pub mod Measures
pub mod Laws
