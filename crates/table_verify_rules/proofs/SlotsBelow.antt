-- When the types of the first slots lie below those of a signature, slot by slot.
use Rattle.std.proofs.Common.{◌≡◌, ℕ, zero, suc, ◌+◌, ◌<◌, ◌≤◌, Bool, true, false, nat_lt, [], ◌∷◌, length, take, refl, subst, arith}
use Rattle.type_lattice.specs.Types.{Below, AreBelow}
use Rattle.cons_tree.specs.Environments.{Types, type_at}

pub each_below : (ts args : Types) → length args ≤ length ts → ((i : ℕ) → i < length args → Below (type_at ts i) (type_at args i)) → AreBelow (take (length args) ts) args
each_below [] [] long each = tt
each_below (t ∷ ts) [] long each = tt
each_below [] (a ∷ args) long each = absurd (omega (arith, long))
each_below (t ∷ ts) (a ∷ args) long each = (each 0 (omega arith), each_below ts args (omega (arith, long)) (λ i l. each (suc i) (omega (arith, l))))

pub at_each : (ts args : Types) (i : ℕ) → i < length args → AreBelow (take (length args) ts) args → Below (type_at ts i) (type_at args i)
at_each ts [] i l h = absurd (omega (arith, l))
at_each [] (a ∷ args) i l h = absurd h
at_each (t ∷ ts) (a ∷ args) zero l h = h.0
at_each (t ∷ ts) (a ∷ args) (suc i) l h = at_each ts args i (omega (arith, l)) h.1

-- what holds up to a number and at it holds up to the next
pub up_to_next : (P : ℕ → Type 0) (n : ℕ) → ((i : ℕ) → i < n → P i) → P n → (i : ℕ) → i < n + 1 → P i
up_to_next P n before here i low = by (nat_lt i n) refl
  where
    by : (b : Bool) → nat_lt i n ≡ b → P i
    by true e = before i (grind (arith, e))
    by false e = subst P (grind (arith, e, low)) here
