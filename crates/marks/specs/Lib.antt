pub mod Feeding
pub mod PlainMarks
pub mod Answers
