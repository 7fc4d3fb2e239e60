mod Agreement
mod Bounds
mod Growth
mod Looking
pub mod Names
mod Numbers
mod Simulation
