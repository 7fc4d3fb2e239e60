mod Carrying
pub mod Folding
mod Following
pub mod Members
pub mod One
pub mod Orderless
mod Parts
mod Something
