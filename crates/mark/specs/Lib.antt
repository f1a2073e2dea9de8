pub mod Program
pub mod Heads
