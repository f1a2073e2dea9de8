pub mod Searching
pub mod Claims
