pub mod Choices
pub mod Laws
pub mod Traces
pub mod Survivors
pub mod Rows
pub mod Reaches
pub mod Ranks
pub mod Examples
