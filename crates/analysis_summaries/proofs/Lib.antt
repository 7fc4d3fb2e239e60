mod Listing
mod Members
mod Closing
mod OneKnown
mod Examples
