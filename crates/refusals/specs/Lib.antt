pub mod Refusals
pub mod Lowest
pub mod Answers
