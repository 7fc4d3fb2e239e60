mod BottomRows
mod CutTrees
pub mod Inclusions
mod JoinLaws
pub mod Lifts
mod LowTrees
pub mod MadeTrees
pub mod MeetViews
mod Nodes
mod PositionLaws
mod Plains
mod Projections
mod TagWalks
pub mod Views
