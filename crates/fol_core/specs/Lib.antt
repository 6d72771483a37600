pub mod Syntax
pub mod View
pub mod Around
pub mod Symbol
pub mod SymbolList
pub mod Spelling
