pub mod Products
pub mod Eights
