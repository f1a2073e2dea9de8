pub mod Blocks
pub mod Calls
pub mod Places
pub mod Readings
