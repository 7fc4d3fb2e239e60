mod Defining
pub mod Framed
mod Gathering
mod Inferred
mod Knowing
mod Listing
mod Naming
mod Nexts
mod Places
mod Rounding
mod Settled
mod SignatureLaws
mod Steps
mod Taking
mod Turning
mod Widening
mod SameMembers
pub mod SameCallees
