-- Sums over the entries of a table: they are lower where what stands at each key is lower.
use Rattle.std.proofs.Common.{◌≡◌, ◌≤◌, ℕ, ◌+◌, ◌*◌, true, false, List, [], ◌∷◌, length, Option, Some, None, refl, sym, subst, inl, inr, arith}
use Rattle.std.specs.declared.cmp.Ordering.{Ordering}
use Rattle.std.specs.Ordering.{eq_by_cmp}
use Rattle.std.specs.Cmp.{IsTotalOrder}
use Rattle.std.specs.FinSet.{IsAntisymmetric}
use Rattle.std.proofs.lemmas.Bool.{cases_Bool}
use Rattle.type_kinds_sets.proofs.AscendingLaws as ascending
use Rattle.type_lattice_model.specs.Tables.{EachEntry, all_hold, is_table, find}
use Rattle.type_lattice_model.specs.Ranks.{table_rank}
use Rattle.type_lattice_model.proofs.PlainLaws.{Lower}
use Rattle.type_lattice_model.proofs.TableLaws as tables

-- what the first entry has
abbrev pub first_held : {K X : Type 0} → X → List (K × X) → X
first_held x [] = x
first_held x (e ∷ m) = e.1

-- what stands at a key, if anything does, is below what stands there in the other table
abbrev pub FoundLower : {X : Type 0} → (X → ℕ) → Option X → Option X → Type 0
FoundLower g None y = Unit {0}
FoundLower g (Some x) None = ⊥
FoundLower g (Some x) (Some y) = Lower g x y

module _ {K X : Type 0} {R : K → K → Ordering} (t : IsTotalOrder R) (same : IsAntisymmetric R) (g : X → ℕ) where
  abbrev Each : List (K × X) → List (K × X) → Type 0
  Each m w = (q : K) → FoundLower g (find R m q) (find R w q)

  rest_each : (e d : K × X) (m w : List (K × X)) → is_table R (e ∷ m) ≡ true → eq_by_cmp R e.0 d.0 ≡ true → Each (e ∷ m) (d ∷ w) → Each m w
  rest_each e d m w a s f q = grind (arith, f q, ascending.is_it t same, tables.find-again t same)

  behind_each : (e d : K × X) (m w : List (K × X)) → is_table R (e ∷ m) ≡ true → is_table R (d ∷ w) ≡ true → eq_by_cmp R e.0 d.0 ≡ false → Each (e ∷ m) (d ∷ w) → Each (e ∷ m) w
  behind_each e d m w a b s f q = grind (arith, f q, f e.0, tables.find-first t same, ascending.is_it t same, tables.found-above t same, ascending.below-both_ways t same)

  both_lower : (e d : K × X) (m w : List (K × X)) → eq_by_cmp R e.0 d.0 ≡ true → Each (e ∷ m) (d ∷ w) → Lower (table_rank g) m w → Lower (table_rank g) (e ∷ m) (d ∷ w)
  both_lower e d m w s f r = grind (arith, f e.0, ascending.is_it t same, tables.find-first t same)

  pub sum_lower : (m w : List (K × X)) → is_table R m ≡ true → is_table R w ≡ true → ((q : K) → FoundLower g (find R m q) (find R w q)) → Lower (table_rank g) m w
  sum_lower [] [] a b f = inl refl
  sum_lower [] (d ∷ w) a b f = inr (omega arith)
  sum_lower (e ∷ m) [] a b f = grind (arith, f e.0, tables.find-first t same)
  sum_lower (e ∷ m) (d ∷ w) a b f = elim (cases_Bool (eq_by_cmp R e.0 d.0)) [
    | inl s ↦ both_lower e d m w s f (sum_lower m w (tables.table-rest t same e m a) (tables.table-rest t same d w b) (rest_each e d m w a s f))
    | inr s ↦
        let rest : Lower (table_rank g) (e ∷ m) w = sum_lower (e ∷ m) w a (tables.table-rest t same d w b) (behind_each e d m w a b s f) in
        grind arith
  ]

module _ {K X : Type 0} (g : X → ℕ) where
  -- where no entry has more than b
  pub sum_most : (b : ℕ) (m : List (K × X)) → EachEntry (λ k x. g x ≤ b) m → table_rank g m ≤ length m + length m * b
  sum_most b [] f = omega arith
  sum_most b (e ∷ m) f = grind (arith, f.0, sum_most b m f.1)

  -- where each has the same
  pub sum_same : (ks : List K) (x : X) → table_rank g (all_hold ks x) ≡ length ks + length ks * g x
  sum_same [] x = omega arith
  sum_same (k ∷ ks) x = grind (arith, sum_same ks x)

-- what is found behind the first entry is found in the whole table
pub found_behind : {K X : Type 0} {R : K → K → Ordering} (t : IsTotalOrder R) (same : IsAntisymmetric R) (Q : Option X → Type 0) → (Q None → ⊥) → (e : K × X) (m : List (K × X))
    → is_table R (e ∷ m) ≡ true → (q : K) → Q (find R m q) → Q (find R (e ∷ m) q)
found_behind {R = R} t same Q empty e m a q h = elim (cases_Bool (eq_by_cmp R q e.0)) [
  | inl s ↦ absurd (empty (subst Q (tables.find-again t same e m q a s) h))
  | inr s ↦ subst Q (sym (tables.find-later t same e m q s)) h
]
