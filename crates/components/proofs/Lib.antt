mod Appended
mod Walks
mod Opened
mod Merged
mod Settled
mod Shut
mod Steps
pub mod Graphs
mod Sets
mod Given
mod Positioned
mod Orders
mod Labelled
mod ComponentLists
mod Numbered
mod Finished
mod OneNumbering
pub mod AscendingLists
pub mod Bounded
mod Reaching
mod Existing
