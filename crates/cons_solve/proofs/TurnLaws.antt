-- Turns over an array, by the laws of greatest solutions.
use Rattle.std.proofs.Common.{◌≡◌, Bool, true, Some, None, sym, ap, ◌∙◌, subst}
use Rattle.type_lattice.specs.Types.{AreBelow}
use Rattle.cons_tree.specs.Constraints.{Cons, ConsList, only, any_of}
use Rattle.cons_tree.specs.Environments.{Types}
use Rattle.cons_tree.specs.Narrowing.{narrowed}
use Rattle.cons_tree.specs.Trails.{answer}
use Rattle.cons_tree.specs.declared.parts.Part.{Part}
use Rattle.cons_solve.specs.Environments.{environments, solution}
use Rattle.cons_solve.specs.Solutions as W
use Rattle.cons_solve.specs.steps.Passes.{unions, merged}
use Rattle.cons_solve.proofs.SolutionLaws as S

module _ (laws : W.Laws environments) where
  pub part_dies : (p : Part) (xs : Types) → narrowed p xs ≡ None → solution (only p) xs ≡ None
  part_dies p xs h = S.part_dies environments laws p xs h

  pub part_moves : (p : Part) (xs ys : Types) → narrowed p xs ≡ Some ys → solution (only p) ys ≡ solution (only p) xs
  part_moves p xs ys h = S.part_moves environments laws p xs ys h

  pub part_ends : (p : Part) (xs ys : Types) → narrowed p xs ≡ Some ys → ys ≡ xs → solution (only p) xs ≡ Some ys
  part_ends p xs ys h e = S.part_stays environments laws p xs (h ∙ ap Some e) ∙ ap Some (sym e)

  pub part_once : (p : Part) (xs ys : Types) → narrowed p xs ≡ Some ys → narrowed p ys ≡ Some ys → solution (only p) xs ≡ Some ys
  part_once p xs ys h stays = sym (part_moves p xs ys h) ∙ S.part_stays environments laws p ys stays

  pub any_is : (cs : ConsList Part) (xs : Types) → solution (any_of cs) xs ≡ unions environments cs xs
  any_is cs xs = S.any_is environments laws cs xs

  pub merged_unions : (cs : ConsList Part) (xs : Types) → merged environments None cs xs ≡ unions environments cs xs
  merged_unions cs xs = S.merged_unions environments laws cs xs

  pub solution_below : (c : Cons Part) (xs ys : Types) → solution c xs ≡ Some ys → AreBelow ys xs
  solution_below c xs ys h = subst (λ r. W.Under environments r (Some xs)) h (S.is_greatest environments laws c xs).below

  pub answer_below : (c : Cons Part) (xs ys : Types) (alive : Bool) → solution c xs ≡ answer alive ys → alive ≡ true → AreBelow ys xs
  answer_below c xs ys alive h e = solution_below c xs ys (h ∙ ap (λ b. answer b ys) e)
