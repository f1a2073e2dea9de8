pub mod Filling
pub mod Flags
