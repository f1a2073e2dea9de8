pub mod Keys
pub mod Claims
pub mod Opened
