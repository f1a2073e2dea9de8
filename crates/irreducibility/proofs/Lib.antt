pub mod Folding
pub mod Filling
pub mod Decision
