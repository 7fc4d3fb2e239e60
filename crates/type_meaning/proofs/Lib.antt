mod Variants
mod Memberships
mod Weights
