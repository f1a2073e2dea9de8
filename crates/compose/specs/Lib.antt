pub mod Composing
pub mod PlainMarks
pub mod Grouping
