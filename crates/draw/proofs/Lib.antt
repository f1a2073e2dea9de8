pub mod Draws
pub mod Drawers
pub mod Fairness
pub mod Evaluation
