pub mod Coverage
mod Handed
pub mod Held
