pub mod CountLaws
mod Examples
mod Search
pub mod ToldReads
mod Written
