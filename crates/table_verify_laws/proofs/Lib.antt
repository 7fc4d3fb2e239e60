mod Certified
mod Closed
mod Compared
mod Complete
mod Examples
mod Firsts
mod Fronts
pub mod Listing
mod Named
mod Passes
mod Solved
mod Typings
