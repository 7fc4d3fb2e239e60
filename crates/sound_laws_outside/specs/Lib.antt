pub mod Laws
pub mod Over
pub mod Same
