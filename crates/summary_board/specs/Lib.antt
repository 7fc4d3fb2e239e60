pub mod Ascending
pub mod BoardValue
pub mod Calls
pub mod DoneValue
pub mod Machine
pub mod Solved
pub mod steps
