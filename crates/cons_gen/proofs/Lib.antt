mod ControlExits
mod ExpressionExits
mod FormExits
mod MadeExits
pub mod ResultSlots
mod RowRounds
