pub mod Laid
pub mod Filling
