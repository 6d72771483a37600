pub mod View
pub mod Numbers
pub mod Spans
pub mod Lines
pub mod Sums
pub mod Walked
pub mod Walking
pub mod Answer
