pub mod Runs
pub mod Confusions
pub mod Claims
