-- A turn with one member of a list, and the list whose members are all solved.
use Rattle.std.proofs.Common.{◌≡◌, ℕ, zero, suc, ◌<◌, List, [], ◌∷◌, length, get_or, Some, None, refl, sym, ap, ◌∙◌, subst, arith}
use Rattle.cons_tree.specs.Constraints.{all_of, constraint, constraints}
use Rattle.cons_tree.specs.Environments.{Types}
use Rattle.cons_tree.specs.declared.parts.Constraint.{Constraint}
use Rattle.cons_solve.specs.Environments.{environments, solution}
use Rattle.cons_solve.specs.Solutions as W
use Rattle.cons_solve.specs.steps.Passes.{passes}
use Rattle.cons_solve.proofs.SolutionLaws as S

module _ (laws : W.Laws environments) where
  each_at : (ms : List Constraint) (i : ℕ) (m : Constraint) (y : Types) → i < length ms → W.SolvesEach environments (constraints ms) y → W.Solves environments (constraint (get_or ms i m)) y
  each_at [] i m y l h = absurd (omega (arith, l))
  each_at (c ∷ ms) zero m y l h = h.0
  each_at (c ∷ ms) (suc i) m y l h = each_at ms i m y (omega (arith, l)) h.1

  member_solved : (ms : List Constraint) (i : ℕ) (m : Constraint) → i < length ms → m ≡ get_or ms i m → (y : Types) → W.SolvesEach environments (constraints ms) y → W.Solves environments (constraint m) y
  member_solved ms i m l is y q = subst (λ c. W.Solves environments (constraint c) y) (sym is) (each_at ms i m y l q)

  pub member_moves : (ms : List Constraint) (i : ℕ) (m : Constraint) (xs ys : Types) → i < length ms → m ≡ get_or ms i m → solution (constraint m) xs ≡ Some ys
      → solution (all_of (constraints ms)) ys ≡ solution (all_of (constraints ms)) xs
  member_moves ms i m xs ys l is h =
      let all = all_of (constraints ms) in
      let best = S.is_greatest environments laws (constraint m) xs in
      sym (S.greatest_is environments laws all xs (solution all ys) (S.moved environments laws (W.Solves environments all) xs ys (solution all ys) (subst (λ r. W.Under environments r (Some xs)) h best.below)
      (λ y b q. subst (W.Under environments (Some y)) h (best.above y b (member_solved ms i m l is y q))) (S.is_greatest environments laws all ys)))

  pub member_dies : (ms : List Constraint) (i : ℕ) (m : Constraint) (xs : Types) → i < length ms → m ≡ get_or ms i m → solution (constraint m) xs ≡ None → solution (all_of (constraints ms)) xs ≡ None
  member_dies ms i m xs l is h =
      let all = all_of (constraints ms) in
      let best = S.is_greatest environments laws (constraint m) xs in
      S.greatest_is environments laws all xs None (S.no_solution environments laws (W.Solves environments all) xs (λ y b q. subst (W.Under environments (Some y)) h (best.above y b (member_solved ms i m l is y q))))

  passes_all : (ms : List Constraint) (xs : Types) → ((j : ℕ) → j < length ms → (x : Constraint) → solution (constraint (get_or ms j x)) xs ≡ Some xs) → passes environments (constraints ms) xs ≡ Some xs
  passes_all [] xs h = refl
  passes_all (m ∷ ms) xs h =
      ap (λ r. W.on_some r (passes environments (constraints ms))) (h 0 (omega arith) m) ∙ passes_all ms xs (λ j l x. h (suc j) (omega (arith, l)) x)

  -- where each member leaves the array alone, the list does
  pub members_stay : (ms : List Constraint) (xs : Types) → ((j : ℕ) → j < length ms → (x : Constraint) → solution (constraint (get_or ms j x)) xs ≡ Some xs) → solution (all_of (constraints ms)) xs ≡ Some xs
  members_stay ms xs h = S.all_stays environments laws (constraints ms) xs (passes_all ms xs h)
