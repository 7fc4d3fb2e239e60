mod AtLabels
mod Bound
mod Examples
mod Existing
mod Fuel
mod Matches
mod Placed
mod RunsExist
mod Worked
mod WorkedForms
mod WorkedFunctions
mod WorkedPatterns
pub mod FunctionLaws
pub mod LabelLaws
