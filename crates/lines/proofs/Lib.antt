pub mod Runs
pub mod Lexing
pub mod Numerals
pub mod NumberLists
pub mod Names
