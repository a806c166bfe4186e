pub mod Squares
pub mod BitCounts
pub mod Erasings
pub mod Examples
pub mod Counting
