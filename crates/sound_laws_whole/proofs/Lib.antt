pub mod Components
pub mod Named
pub mod Tables
pub mod Wholes
