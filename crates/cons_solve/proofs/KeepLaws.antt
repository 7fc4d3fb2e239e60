-- What solving keeps: that no slot is at none, and the assignments that satisfy the constraint.
use Rattle.std.proofs.Common.{◌≡◌, ℕ, zero, suc, Bool, true, false, [], ◌∷◌, Some, None, refl, sym, ◌∙◌, subst, inl, inr, true≢false}
use Rattle.std.proofs.lemmas.Bool.{or_parts, or_from}
use Rattle.cons_tree.proofs.SlotLaws.{at_below}
use Rattle.type_lattice.specs.Types.{Type4, Below, none, is_none, join}
use Rattle.cons_tree.specs.Constraints.{Cons, ConsList, only, all_of, any_of, no_cons, and_cons}
use Rattle.cons_tree.specs.Environments.{Types, State, Assignment, LiesIn, LiesInState}
use Rattle.cons_tree.specs.Facts.{TypeFacts}
use Rattle.cons_tree.specs.Narrowing.{narrowed}
use Rattle.cons_tree.specs.Satisfied.{SatPart, Sat, SatisfiedEach, SatisfiedSome}
use Rattle.cons_tree.specs.Signatures.{has_none}
use Rattle.cons_tree.specs.declared.parts.Part.{Part}
use Rattle.cons_solve.specs.Environments.{environments, joins, ranks, solution}
use Rattle.cons_solve.specs.Solutions.{on_some, turns, greatest}
use Rattle.cons_solve.specs.Solutions as W
use Rattle.cons_solve.proofs.SolutionLaws as S

-- ---- no slot at none

abbrev IsFilled : Types → Type 0
IsFilled xs = has_none xs ≡ false

module _ (facts : TypeFacts) where
  filled_join : (x y : Type4) → is_none x ≡ false → is_none (join x y) ≡ false
  filled_join x y e = by (is_none (join x y)) refl
    where
      by : (b : Bool) → is_none (join x y) ≡ b → b ≡ false
      by true q =
          let under : Below x none = subst (Below x) ((facts.tells_none (join x y)).0 q) (facts.left x y) in
          let is : x ≡ none = facts.same x none under (λ v h. absurd (facts.empty v h)) in
          absurd (true≢false (sym ((facts.tells_none x).1 is) ∙ e))
      by false q = refl

  filled_joins : (xs ys : Types) → IsFilled xs → IsFilled ys → IsFilled (joins xs ys)
  filled_joins [] ys h k = refl
  filled_joins (x ∷ xs) [] h k = refl
  filled_joins (x ∷ xs) (y ∷ ys) h k =
      let p = or_parts (is_none x) (has_none xs) h in
      or_from (is_none (join x y)) (has_none (joins xs ys)) (filled_join x y p.0) (filled_joins xs ys p.1 (or_parts (is_none y) (has_none ys) k).1)

  module _ (laws : W.Laws environments) (lives : (p : Part) (xs ys : Types) → has_none xs ≡ false → narrowed p xs ≡ Some ys → has_none ys ≡ false) where
    filled_part : (p : Part) (xs : Types) → IsFilled xs → W.Holds environments IsFilled (narrowed p xs)
    filled_part p xs h = by (narrowed p xs) refl
      where
        by : (r : State) → narrowed p xs ≡ r → W.Holds environments IsFilled r
        by None e = tt
        by (Some ys) e = lives p xs ys h e

    pub solution_filled : (c : Cons Part) (xs ys : Types) → IsFilled xs → solution c xs ≡ Some ys → IsFilled ys
    solution_filled c xs ys h e =
        subst (W.Holds environments IsFilled) e (S.greatest_keeps environments laws IsFilled filled_part filled_joins c xs h)

-- ---- assignments

module _ (laws : W.Laws environments) (a : Assignment) (part : (p : Part) (xs : Types) → LiesIn a xs → SatPart p a → LiesInState a (narrowed p xs)) where
  lies_on : (r : State) (f : Types → State) → LiesInState a r → ((xs : Types) → LiesIn a xs → LiesInState a (f xs)) → LiesInState a (on_some r f)
  lies_on None f h k = absurd h
  lies_on (Some xs) f h k = k xs h

  lies_turns : (n : ℕ) (f : Types → State) → ((xs : Types) → LiesIn a xs → LiesInState a (f xs)) → (xs : Types) → LiesIn a xs → LiesInState a (turns n f xs)
  lies_turns zero f k xs h = h
  lies_turns (suc n) f k xs h = lies_on (f xs) (turns n f) (k xs h) (λ ys g. lies_turns n f k ys g)

  lies_above : (r s : State) → W.Under environments r s → LiesInState a r → LiesInState a s
  lies_above None s b h = absurd h
  lies_above (Some xs) None b h = b
  lies_above (Some xs) (Some ys) b h = λ s. at_below xs ys s b (a s) (h s)

  mutual
    lies_reached : (n : ℕ) (c : Cons Part) (xs : Types) → LiesIn a xs → Sat c a → LiesInState a (W.reached environments n c xs)
    lies_reached n (only p) xs h k = lies_turns n (narrowed p) (λ ys g. part p ys g k) xs h
    lies_reached n (all_of cs) xs h k = lies_turns n (W.sweep environments n cs) (λ ys g. lies_sweep n cs ys g k) xs h
    lies_reached n (any_of cs) xs h k = lies_some n cs xs h k

    lies_sweep : (n : ℕ) (cs : ConsList Part) (xs : Types) → LiesIn a xs → SatisfiedEach (λ p. SatPart p a) cs → LiesInState a (W.sweep environments n cs xs)
    lies_sweep n no_cons xs h k = h
    lies_sweep n (and_cons c cs) xs h k =
        lies_on (W.reached environments n c xs) (W.sweep environments n cs) (lies_reached n c xs h k.0) (λ ys g. lies_sweep n cs ys g k.1)

    lies_some : (n : ℕ) (cs : ConsList Part) (xs : Types) → LiesIn a xs → SatisfiedSome (λ p. SatPart p a) cs → LiesInState a (W.alternatives environments n cs xs)
    lies_some n no_cons xs h k = k
    lies_some n (and_cons c cs) xs h (inl k) =
        let r = W.reached environments n c xs in
        let s = W.alternatives environments n cs xs in
        lies_above r (W.joined environments r s) (S.join_left environments laws r s xs (S.reached_below environments laws n c xs) (S.alternatives_below environments laws n cs xs)) (lies_reached n c xs h k)
    lies_some n (and_cons c cs) xs h (inr k) =
        let r = W.reached environments n c xs in
        let s = W.alternatives environments n cs xs in
        lies_above s (W.joined environments r s) (S.join_right environments laws r s xs (S.reached_below environments laws n c xs) (S.alternatives_below environments laws n cs xs)) (lies_some n cs xs h k)

  pub lies_in_solution : (c : Cons Part) (xs : Types) → LiesIn a xs → Sat c a → LiesInState a (solution c xs)
  unfolding greatest
  lies_in_solution c xs h k = lies_reached (suc (ranks xs)) c xs h k
