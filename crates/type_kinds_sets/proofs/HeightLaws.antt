-- How far one can go down from a set.
use Rattle.std.proofs.Common.{◌≡◌, ℕ, zero, suc, ◌≤◌, ◌<◌, ap, arith}
use Rattle.type_kinds_sets.specs.Heights.{Falls}

module _ {S : Type 0} (Below : S → S → Type 0) (height : S → ℕ) where
  -- where each smaller set has a lower height, no chain is longer
  pub falls-bound : ((s t : S) → Below s t → (s ≡ t → ⊥) → height s < height t) → (s : S) (n : ℕ) → Falls Below n s → n ≤ height s
  unfolding Falls
  falls-bound lower s zero f = omega arith
  falls-bound lower s (suc n) f = let less = lower f.0 s f.1.0.0 f.1.0.1 in let rest = falls-bound lower f.0 n f.1.1 in omega arith

  pub down : (n : ℕ) (s t : S) → Below t s → height t < height s → Falls Below n t → Falls Below (suc n) s
  unfolding Falls
  down n s t below less rest = (t, ((below, λ p. let q = ap height p in absurd (omega arith)), rest))

  pub stay : (s : S) → Falls Below 0 s
  unfolding Falls
  stay s = tt
