pub mod Bytes
pub mod Tokens
pub mod Reading
pub mod Views
pub mod Refusal
pub mod Lexer
