pub mod Bench
pub mod PlainMarks
pub mod Grouping
pub mod Site
