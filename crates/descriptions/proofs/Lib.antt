pub mod Faults
pub mod Describing
