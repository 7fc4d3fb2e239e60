-- Turns of a sweep over members, and what stands after it.
use Rattle.std.proofs.Common.{◌≡◌, ℕ, ◌+◌, ◌<◌, ◌≤◌, Bool, true, false, List, length, get_or, Some, refl, sym, ap, ◌∙◌, subst, arith, inl, inr}
use Rattle.std.proofs.lemmas.Bool.{cases_eq}
use Rattle.std.proofs.lemmas.List.{get_or_default}
use Rattle.cons_tree.specs.Constraints.{all_of, constraint, constraints}
use Rattle.cons_tree.specs.Environments.{Types}
use Rattle.cons_tree.specs.Trails.{Trailed}
use Rattle.cons_tree.specs.declared.parts.Constraint.{Constraint}
use Rattle.cons_tree.specs.declared.slots.Slots.{Slots}
use Rattle.cons_solve.specs.Environments.{environments, solution}
use Rattle.cons_solve.specs.Solutions as W
use Rattle.cons_solve.proofs.MemberTurns.{members_stay}
use Rattle.cons_solve.proofs.TurnTrails.{trail_length, trailed_same}
use Rattle.table_verify_sweeps.specs.steps.Turns.{position_of}

pub position_low : (forward : Bool) (count turn : ℕ) → turn < count → position_of forward count turn < count
position_low true count turn l = l
position_low false count turn l = omega (arith, l)

-- each member has a turn
position_twice : (forward : Bool) (count i : ℕ) → i < count → position_of forward count (position_of forward count i) ≡ i
position_twice true count i l = refl
position_twice false count i l = omega (arith, l)

-- a trail that is no longer after two steps isn't after the first one
pub no_longer : (r s t : Slots) → Trailed r s → Trailed s t → length t.trail ≡ length r.trail → (length s.trail ≡ length r.trail) × (length t.trail ≡ length s.trail)
no_longer r s t h k e =
    let a = trail_length r s h in
    let b = trail_length s t k in
    (omega (arith, a, b, e), omega (arith, a, b, e))

-- the members of the turns so far leave the array alone
abbrev pub Stay : Bool → List Constraint → ℕ → Types → Type 0
Stay forward ms n xs = (j : ℕ) → j < n → (x : Constraint) → solution (constraint (get_or ms (position_of forward (length ms) j) x)) xs ≡ Some xs

pub stay_on : (forward : Bool) (ms : List Constraint) (n i : ℕ) (x : Constraint) (r s t : Slots) → Trailed r s → Trailed s t → i ≡ position_of forward (length ms) n → i < length ms → x ≡ get_or ms i x
    → solution (constraint x) s.types ≡ Some t.types → (length s.trail ≡ length r.trail → Stay forward ms n s.types) → length t.trail ≡ length r.trail → Stay forward ms (n + 1) t.types
stay_on forward ms n i x r s t h k e l is q stay d j low y =
    let both = no_longer r s t h k d in
    let same : t.types ≡ s.types = trailed_same s t k both.1 in
    elim (cases_eq j n) [
      | inl now ↦
          let here : x ≡ get_or ms (position_of forward (length ms) j) y = is ∙ get_or_default ms i x y l ∙ ap (λ p. get_or ms p y) (e ∙ ap (position_of forward (length ms)) (sym now)) in
          subst (λ c. solution (constraint c) t.types ≡ Some t.types) here (subst (λ xs. solution (constraint x) xs ≡ Some t.types) (sym same) q)
      | inr other ↦ subst (λ xs. solution (constraint (get_or ms (position_of forward (length ms) j) y)) xs ≡ Some xs) (sym same) (stay both.0 j (omega (arith, low, other)) y)
    ]

module _ (laws : W.Laws environments) where
  pub all_stay : (forward : Bool) (ms : List Constraint) (n : ℕ) (xs : Types) → length ms ≤ n → Stay forward ms n xs → solution (all_of (constraints ms)) xs ≡ Some xs
  all_stay forward ms n xs l stay =
      members_stay laws ms xs (λ i low x. subst (λ p. solution (constraint (get_or ms p x)) xs ≡ Some xs) (position_twice forward (length ms) i low)
      (stay (position_of forward (length ms) i) (let p = position_low forward (length ms) i low in omega (arith, p, l)) x))
