pub mod Trees
pub mod Forms
pub mod Names
pub mod Items
mod NotedTrees
mod SameItems
mod SameForms
mod WithPlaces
mod OneTree
