pub mod Alike
pub mod Choices
pub mod Targets
pub mod Frames
