pub mod Layout
pub mod Sheets
pub mod Outputs
pub mod Claims
pub mod Answers
pub mod Inner
