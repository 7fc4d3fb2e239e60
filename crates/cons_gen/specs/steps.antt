pub mod Choosing
pub mod Generating
pub mod Heading
