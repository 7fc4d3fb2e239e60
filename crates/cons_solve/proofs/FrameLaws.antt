-- A slot that a constraint doesn't name is left alone, and what stands in it doesn't matter.
use Rattle.std.proofs.Common.{◌≡◌, ℕ, zero, suc, ◌+◌, List, [], ◌∷◌, set, map, Some, None, refl, sym, ap, ◌∙◌, subst, arith}
use Rattle.type_lattice.specs.Types.{Type4, join}
use Rattle.cons_tree.specs.Constraints.{Cons, ConsList, only, all_of, any_of, no_cons, and_cons}
use Rattle.cons_tree.specs.Environments.{Types, State}
use Rattle.cons_tree.specs.Facts.{TypeFacts}
use Rattle.cons_tree.specs.Frames.{IsNone, slots_of, with_slot}
use Rattle.cons_tree.specs.Narrowing.{narrowed}
use Rattle.cons_tree.specs.Trails.{laid}
use Rattle.cons_tree.specs.declared.parts.Part.{Part}
use Rattle.cons_tree.specs.declared.slots.TrailEntry.{TrailEntry}
use Rattle.cons_solve.specs.Environments.{environments, joins, ranks, solution}
use Rattle.cons_solve.specs.Frames.{Free, FreeEach}
use Rattle.cons_solve.specs.Solutions.{on_some, turns}
use Rattle.cons_solve.specs.Solutions as W
use Rattle.cons_solve.specs.steps.Alternatives.{now_of}
use Rattle.cons_solve.specs.steps.Positions.{FreeAll}
use Rattle.cons_solve.proofs.LowLaws.{now_again}
use Rattle.cons_solve.proofs.SolutionLaws as S

abbrev pub Frames : Type 0
Frames = (p : Part) (s : ℕ) (t : Type4) (xs : Types) → IsNone s (slots_of p) → narrowed p (set xs s t) ≡ with_slot s t (narrowed p xs)

module _ (facts : TypeFacts) (frames : Frames) where
  module _ (s : ℕ) (t : Type4) where
    abbrev Same : (Types → State) → Type 0
    Same f = (xs : Types) → f (set xs s t) ≡ with_slot s t (f xs)

    on_same : (r : State) (f : Types → State) → Same f → on_some (with_slot s t r) f ≡ with_slot s t (on_some r f)
    on_same None f k = refl
    on_same (Some xs) f k = k xs

    turns_same : (n : ℕ) (f : Types → State) → Same f → Same (turns n f)
    turns_same zero f k xs = refl
    turns_same (suc n) f k xs =
        ap (λ r. on_some r (turns n f)) (k xs) ∙ on_same (f xs) (turns n f) (λ ys. turns_same n f k ys)

    join_self : join t t ≡ t
    join_self = facts.same (join t t) t (facts.least t t t (λ v h. h) (λ v h. h)) (facts.left t t)

    joins_same : (k : ℕ) (xs ys : Types) → joins (set xs k t) (set ys k t) ≡ set (joins xs ys) k t
    joins_same k [] ys = refl
    joins_same zero (x ∷ xs) [] = refl
    joins_same (suc k) (x ∷ xs) [] = refl
    joins_same zero (x ∷ xs) (y ∷ ys) = ap (λ u. u ∷ joins xs ys) join_self
    joins_same (suc k) (x ∷ xs) (y ∷ ys) = ap (λ zs. join x y ∷ zs) (joins_same k xs ys)

    joined_same : (q r : State) → W.joined environments (with_slot s t q) (with_slot s t r) ≡ with_slot s t (W.joined environments q r)
    joined_same None r = refl
    joined_same (Some xs) None = refl
    joined_same (Some xs) (Some ys) = ap Some (joins_same s xs ys)

    mutual
      reached_same : (n : ℕ) (c : Cons Part) → Free s c → Same (W.reached environments n c)
      reached_same n (only p) d xs = turns_same n (narrowed p) (λ ys. frames p s t ys d) xs
      reached_same n (all_of cs) d xs = turns_same n (W.sweep environments n cs) (λ ys. sweep_same n cs d ys) xs
      reached_same n (any_of cs) d xs = alternatives_same n cs d xs

      sweep_same : (n : ℕ) (cs : ConsList Part) → FreeEach s cs → Same (W.sweep environments n cs)
      sweep_same n no_cons d xs = refl
      sweep_same n (and_cons c cs) d xs =
          ap (λ r. on_some r (W.sweep environments n cs)) (reached_same n c d.0 xs) ∙ on_same (W.reached environments n c xs) (W.sweep environments n cs) (λ ys. sweep_same n cs d.1 ys)

      alternatives_same : (n : ℕ) (cs : ConsList Part) → FreeEach s cs → Same (W.alternatives environments n cs)
      alternatives_same n no_cons d xs = refl
      alternatives_same n (and_cons c cs) d xs =
          ap (λ r. W.joined environments r (W.alternatives environments n cs (set xs s t))) (reached_same n c d.0 xs) ∙ ap (W.joined environments (with_slot s t (W.reached environments n c xs))) (alternatives_same n cs d.1 xs)
          ∙ joined_same (W.reached environments n c xs) (W.alternatives environments n cs xs)

  module _ (laws : W.Laws environments) where
    pub solution_same : (c : Cons Part) (s : ℕ) (t : Type4) (xs : Types) → Free s c → solution c (set xs s t) ≡ with_slot s t (solution c xs)
    solution_same c s t xs d =
        let n = suc (ranks xs + ranks (set xs s t)) in
        sym (S.reached_are environments laws n c (set xs s t) (omega arith)) ∙ reached_same s t n c d xs ∙ ap (with_slot s t) (S.reached_are environments laws n c xs (omega arith))

    stays_solved : (c : Cons Part) (fs : List TrailEntry) (xs : Types) → FreeAll fs c → solution c xs ≡ Some xs → solution c (laid fs xs) ≡ Some (laid fs xs)
    stays_solved c [] xs d h = h
    stays_solved c (f ∷ fs) xs d h =
        solution_same c f.slot f.ty (laid fs xs) d.0 ∙ ap (with_slot f.slot f.ty) (stays_solved c fs xs d.1 h)

    free_now : (c : Cons Part) (fs : List TrailEntry) (xs : Types) → FreeAll fs c → FreeAll (map (now_of xs) fs) c
    free_now c [] xs d = tt
    free_now c (f ∷ fs) xs d = (d.0, free_now c fs xs d.1)

    -- a constraint that was solved stays solved where only slots were lowered that it doesn't name
    pub untouched : (c : Cons Part) (fs : List TrailEntry) (old new : Types) → laid fs new ≡ old → FreeAll fs c → solution c old ≡ Some old → solution c new ≡ Some new
    untouched c fs old new e d h =
        let again : laid (map (now_of new) fs) old ≡ new = ap (laid (map (now_of new) fs)) (sym e) ∙ now_again fs new in
        subst (λ xs. solution c xs ≡ Some xs) again (stays_solved c (map (now_of new) fs) old (free_now c fs new d) h)
