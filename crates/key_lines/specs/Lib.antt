pub mod KeyLines
pub mod Deciding
