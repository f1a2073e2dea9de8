pub mod Book
pub mod PlainMarks
pub mod Calls
