pub mod Options
pub mod Plans
pub mod Puts
pub mod ToldPlans
