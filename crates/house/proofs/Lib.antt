pub mod Rows
pub mod House
