pub mod Matrices
pub mod Grouped
