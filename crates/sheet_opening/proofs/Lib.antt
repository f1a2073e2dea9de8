pub mod Joining
pub mod Answers
