pub mod Apart
pub mod Drawing
pub mod Readings
