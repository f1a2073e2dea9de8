pub mod Numerals
pub mod Buffers
