-- Environments that are ordered slot by slot, at a slot and after a slot was set.
use Rattle.std.proofs.Common.{ℕ, zero, suc, [], ◌∷◌, set}
use Rattle.type_lattice.specs.Types.{Type4, Below, AreBelow}
use Rattle.cons_tree.specs.Environments.{Types, type_at}

pub at_below : (xs ys : Types) (s : ℕ) → AreBelow xs ys → Below (type_at xs s) (type_at ys s)
at_below [] [] s h = λ v i. i
at_below [] (y ∷ ys) s h = absurd h
at_below (x ∷ xs) [] s h = absurd h
at_below (x ∷ xs) (y ∷ ys) zero h = h.0
at_below (x ∷ xs) (y ∷ ys) (suc s) h = at_below xs ys s h.1

pub set_grows : (xs ys : Types) (s : ℕ) (t u : Type4) → AreBelow xs ys → Below t u → AreBelow (set xs s t) (set ys s u)
set_grows [] [] s t u h k = tt
set_grows [] (y ∷ ys) s t u h k = absurd h
set_grows (x ∷ xs) [] s t u h k = absurd h
set_grows (x ∷ xs) (y ∷ ys) zero t u h k = (k, h.1)
set_grows (x ∷ xs) (y ∷ ys) (suc s) t u h k = (h.0, set_grows xs ys s t u h.1 k)
