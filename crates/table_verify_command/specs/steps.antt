pub mod Asked
pub mod Reads
pub mod Judging
