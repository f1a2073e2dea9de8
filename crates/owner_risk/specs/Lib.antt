pub mod Claims
pub mod Calls
