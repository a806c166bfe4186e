pub mod Tangles
pub mod Distances
pub mod Matrices
pub mod MatrixLaws
