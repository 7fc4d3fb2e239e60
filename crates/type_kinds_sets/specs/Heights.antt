-- How far one can go down from a set, to a smaller set at each step.
use Rattle.std.specs.Prelude.{◌≡◌, ℕ, zero, suc}

module _ {S : Type 0} (Below : S → S → Type 0) where
  -- the first set is a part of the second, and not all of it
  abbrev pub Under : S → S → Type 0
  Under s t = Below s t × (s ≡ t → ⊥)

  -- from the set one can go down n times
  unfoldable pub Falls : ℕ → S → Type 0
  Falls zero s = Unit {0}
  Falls (suc n) s = (t : S) × (Under t s × Falls n t)
