pub mod Building
pub mod Finding
pub mod Walking
