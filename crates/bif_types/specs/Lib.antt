pub mod ArgTypes
pub mod Closures
pub mod Parts
pub mod Results
pub mod Table
