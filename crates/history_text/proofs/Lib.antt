mod Rows
pub mod Listed
pub mod Comments
pub mod OfferLines
