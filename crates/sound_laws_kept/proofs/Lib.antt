mod Again
pub mod Calls
pub mod Folds
pub mod Entries
mod Found
mod FromScratch
pub mod Graphs
mod Groupwise
mod Linking
mod Mixed
mod OfWhole
mod OneAnalysis
pub mod Names
pub mod NothingWritten
mod Rests
mod Scratch
pub mod Shown
mod Solving
mod Tables
pub mod Trees
pub mod Waves
mod Wholes
