-- What the reader has and says of a text while it reads it. Clauses of public functions use none of it.
pub mod Reading
pub mod Text
pub mod Views
pub mod Parsing
pub mod Building
pub mod Verdict
pub mod Adding
pub mod Chunks
