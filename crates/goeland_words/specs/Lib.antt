pub mod Table
pub mod Line
pub mod Cut
pub mod Numbers
pub mod Values
pub mod Words
pub mod Command
pub mod Parsed
