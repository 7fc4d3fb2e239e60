mod Texts
mod Examples
mod PatternExamples
mod ModuleExamples
mod Look
pub mod Moves
pub mod Places
pub mod Lists
pub mod LeafExits
pub mod AnnotationExits
pub mod ConstantExits
mod ConstantListExits
mod ConstantPartExits
pub mod NotedExits
mod NameExits
mod VariableExits
pub mod Walks
pub mod Arities
