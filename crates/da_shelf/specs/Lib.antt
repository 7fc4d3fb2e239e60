pub mod Counts
pub mod Reads
pub mod ShelfState
pub mod SinkState
pub mod Told
