pub mod Sums
pub mod Elimination
pub mod Mapping
pub mod Turns
pub mod Matrices
