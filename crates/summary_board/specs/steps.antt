pub mod Agenda
pub mod Room
pub mod Rows
