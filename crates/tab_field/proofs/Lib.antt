pub mod Answered
pub mod InRound
pub mod Threads
