pub mod Bare
pub mod Ranges
pub mod Refusals
pub mod Trellises
