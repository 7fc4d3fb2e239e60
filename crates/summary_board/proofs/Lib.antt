pub mod Below
mod BoardTracks
mod Counts
mod Lowering
mod Once
mod Outputs
mod Picks
mod RowLemmas
mod Runs
mod Sets
mod Sounds
mod Tracking
pub mod SolvedLaws
