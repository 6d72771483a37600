pub mod Rising
pub mod Visiting
