pub mod Failing
pub mod Names
pub mod Told
pub mod Valid
