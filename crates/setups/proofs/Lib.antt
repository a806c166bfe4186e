pub mod Pieces
pub mod Holding
pub mod Spelling
pub mod Ordering
