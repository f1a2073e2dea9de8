pub mod Joining
pub mod Powers
