-- A count that rose after a call rose in all.
use Rattle.std.proofs.Common.{ℕ, ◌≤◌, inl, inr, arith}
use Rattle.da_shelf.specs.Counts.{Rose}

pub rose_since : (early before now : ℕ) → early ≤ before → Rose before now → Rose early now
rose_since early before now h (inl a) = inl (omega (arith, h, a))
rose_since early before now h (inr a) = inr a
