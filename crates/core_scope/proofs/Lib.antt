mod Examples
mod Tables
mod InnerBindings
mod States
mod GivesExits
mod ExpressionExits
mod WalkExits
mod PatternExits
mod CheckExits
mod Members
pub mod Orders
pub mod FirstBreaks
pub mod Unbroken
pub mod SpelledLaws
pub mod LabelLaws
pub mod FunctionLaws
pub mod PlaceLaws
mod CheckedLaws
pub mod NameLaws
