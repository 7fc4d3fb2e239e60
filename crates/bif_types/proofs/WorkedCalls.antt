-- Calls worked by hand.
use Rattle.std.proofs.Common.{◌≡◌, ℤ, pos, List, [], ◌∷◌, Some, None, inl, inr, ◌⊎◌, refl, ap, ◌∙◌}
use Rattle.std.specs.Prelude.{codes}
use Rattle.type_kinds_sets.specs.Numbers as numbers
use Rattle.type_kinds_sets.specs.declared.ends.Low.TheVariants.{Min}
use Rattle.type_kinds_sets.specs.declared.ends.High.TheVariants.{Max}
use Rattle.type_kinds.specs.declared.atom.Atom.{Atom}
use Rattle.type_lattice_model.specs.Values.{Value, int, float}
use Rattle.type_lattice.specs.Types.{HasType}
use Rattle.cons_tree.specs.Facts.{TypeFacts}
use Rattle.cons_tree.specs.Named.{integers, floats}
use Rattle.cons_tree.specs.Satisfied.{IsFloat, HaveFloat}
use Rattle.bif_types.specs.declared.bif.ArgKind.TheVariants as a
use Rattle.bif_types.specs.ArgTypes.{type_of}
use Rattle.bif_types.specs.Results.{one_value, two_values, computed, integer_values, Computes, BifMay}

module _ (F : TypeFacts) where
  number : (n : ℤ) → HasType (int n) (type_of a.Number)
  unfolding type_of integers
  number n = F.left integers floats (int n) ((F.ints (numbers.range Min Max) (int n)).1 (ap (λ s. numbers.has s n) (numbers.range-yes Min Max refl)))

  pub sum_is_given : BifMay (codes "+") (two_values (int (pos 1)) (int (pos 2))) (int (pos 3))
  sum_is_given = ((number (pos 1), (number (pos 2), tt)), inl (pos 1 ∷ pos 2 ∷ [], (pos 3, (refl, (refl, refl)))))

-- the integers of two values that are integers
the_integers : (m n : ℤ) (ns : List ℤ) → two_values (int m) (int n) ≡ integer_values ns → m ∷ n ∷ [] ≡ ns
the_integers m n [] e = cc
the_integers m n (x ∷ []) e = cc
the_integers m n (x ∷ y ∷ []) e = cc
the_integers m n (x ∷ y ∷ z ∷ ns) e = cc

-- what is computed of two integers
computed_of : (f : Atom) (m n : ℤ) (v : Value) → Computes f (two_values (int m) (int n)) v → (k : ℤ) × ((computed f (m ∷ n ∷ []) ≡ Some k) × (v ≡ int k))
computed_of f m n v h = (h.1.0, (ap (computed f) (the_integers m n h.0 h.1.1.0) ∙ h.1.1.1.0, h.1.1.1.1))

no_float : (n : ℤ) → IsFloat (int n) → ⊥
no_float n h = by h.1
  where
    by : int n ≡ float h.0 → ⊥
    by e = cc

no_floats : (m n : ℤ) → HaveFloat (two_values (int m) (int n)) → ⊥
no_floats m n (inl h) = no_float m h
no_floats m n (inr (inl h)) = no_float n h
no_floats m n (inr (inr h)) = h

the_one : (m n : ℤ) → Some m ≡ Some n → n ≡ m
the_one m n e = cc

none_is_some : (n : ℤ) → None ≡ Some n → ⊥
none_is_some n e = cc

pub sum_alone : (v : Value) → BifMay (codes "+") (two_values (int (pos 1)) (int (pos 2))) v → v ≡ int (pos 3)
sum_alone v h = by h.1
  where
    by : Computes (codes "+") (two_values (int (pos 1)) (int (pos 2))) v ⊎ (HaveFloat (two_values (int (pos 1)) (int (pos 2))) × IsFloat v) → v ≡ int (pos 3)
    by (inl k) = let r = computed_of (codes "+") (pos 1) (pos 2) v k in r.1.1 ∙ ap int (the_one (pos 3) r.0 r.1.0)
    by (inr k) = absurd (no_floats (pos 1) (pos 2) k.0)

pub no_quotient : (v : Value) → BifMay (codes "div") (two_values (int (pos 7)) (int (pos 0))) v → ⊥
no_quotient v h = let r = computed_of (codes "div") (pos 7) (pos 0) v (h.1.1 refl) in none_is_some r.0 r.1.0

pub never_given : (x v : Value) → BifMay (codes "exit") (one_value x) v → ⊥
never_given x v h = h.1

pub any_given : (x y v : Value) → BifMay (codes "send") (two_values x y) v
any_given x y v = tt
