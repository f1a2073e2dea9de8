pub mod Forms
pub mod Folding
pub mod House
