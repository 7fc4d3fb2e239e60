mod ApplicationOrder
mod CallOrder
mod Definitions
mod Entered
mod Filtered
mod Listing
mod Zipped
