pub mod Agreement
pub mod Frame
