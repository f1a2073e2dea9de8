pub mod Files
pub mod PlainMarks
pub mod Grouping
pub mod Trimming
pub mod Bursts
pub mod Ends
