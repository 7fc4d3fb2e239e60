pub mod State
pub mod Trail
pub mod Run
pub mod SameNames
pub mod Picked
