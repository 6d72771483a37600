pub mod ProofText
pub mod Reading
pub mod Spelled
pub mod Scanning
pub mod Answer
