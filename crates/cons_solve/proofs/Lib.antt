pub mod ChoiceLaws
mod FrameLaws
mod IndexLaws
mod KeepLaws
pub mod LowLaws
pub mod MemberLaws
pub mod MemberTurns
mod MemoLaws
pub mod OrderLaws
pub mod PlanLaws
mod QueueLaws
mod SettledParts
pub mod SolutionLaws
pub mod TurnLaws
pub mod TurnTrails
mod WaitingLaws
