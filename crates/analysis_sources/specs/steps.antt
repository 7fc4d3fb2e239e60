pub mod Refusing
pub mod ReadingSteps
