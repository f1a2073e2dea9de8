pub mod Stores
pub mod Fingerprints
pub mod Answers
