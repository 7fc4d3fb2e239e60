mod Constants
mod Each
mod Examples
mod Least
mod Order
mod RuleLaws
pub mod RulesOf
