pub mod Benched
pub mod CommandLimits
pub mod Told
pub mod Answered
pub mod Plans
pub mod Puts
