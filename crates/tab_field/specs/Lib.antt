pub mod PlaceValue
pub mod Join
