pub mod RunLaws
pub mod ConfusionLaws
pub mod Guarantee
