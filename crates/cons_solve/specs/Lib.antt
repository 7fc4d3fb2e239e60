pub mod Environments
pub mod Frames
pub mod Solutions
pub mod steps
