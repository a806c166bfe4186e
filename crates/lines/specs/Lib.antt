pub mod Words
pub mod Lexers
pub mod Numbers
pub mod Lists
pub mod Forms
