pub mod Written
pub mod Solving
pub mod Waves
pub mod Laws
