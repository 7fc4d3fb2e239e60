pub mod ComponentLists
pub mod Ordinals
pub mod Order
pub mod Phases
pub mod Search
pub mod State
