pub mod Places
pub mod ClosingTests
pub mod OfferTree
pub mod OfferOnce
pub mod RoundTableau
pub mod RoundOffer
pub mod ItemTerms
pub mod Sites
