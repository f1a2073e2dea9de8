pub mod StepLaws
pub mod Guarantee
pub mod PlainMarks
pub mod Calls
