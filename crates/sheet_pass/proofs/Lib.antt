pub mod Passes
mod Turns
