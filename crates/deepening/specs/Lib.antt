pub mod Depths
pub mod Kept
pub mod Ways
pub mod Rounds
pub mod Endings
pub mod RoundEnds
