pub mod ReadingLemmas
pub mod Pairs
pub mod Told
