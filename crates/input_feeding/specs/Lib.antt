pub mod Turns
pub mod Marking
