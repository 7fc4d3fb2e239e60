pub mod Absorbing
pub mod Labels
mod LastRounds
pub mod Latest
pub mod Notes
mod Positions
mod Sameness
pub mod Skipping
mod TakenBefore
pub mod Taking
mod WalkSteps
pub mod Widening
mod Widenings
