pub mod ClosedTrees
