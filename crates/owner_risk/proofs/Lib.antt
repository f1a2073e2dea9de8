pub mod Guarantee
pub mod Calls
