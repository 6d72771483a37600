pub mod InPreorder
pub mod Sound
