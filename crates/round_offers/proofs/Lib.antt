mod Somes
pub mod Places
pub mod ClosingTests
pub mod TreeLaws
pub mod SitesSolved
pub mod RoundLaws
pub mod Everywhere
pub mod Names
pub mod OverTerms
pub mod RuleTerms
pub mod RoundTerms
pub mod RoundOffers
pub mod NamedSegments
mod PlaceRows
pub mod Threads
pub mod Sites
pub mod Attempts
