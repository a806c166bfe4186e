pub mod Kinds
pub mod Blocks
pub mod Standing
pub mod Samples
pub mod Examples
