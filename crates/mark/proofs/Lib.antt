pub mod Texts
pub mod Heads
