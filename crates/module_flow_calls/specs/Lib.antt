pub mod NodeContext
pub mod Calls
pub mod Escapes
pub mod Functions
pub mod NamedFunctions
pub mod TypeLists
pub mod Unknown
pub mod steps
