pub mod Doubling
pub mod Following
