-- What is known between two alternatives, where the array is as it was.
use Rattle.std.proofs.Common.{◌≡◌, Bool, true, false, List, Some, None, sym, subst, true≢false}
use Rattle.type_lattice.specs.Types.{AreBelow}
use Rattle.cons_tree.specs.Constraints.{ConsList}
use Rattle.cons_tree.specs.Environments.{Types, State}
use Rattle.cons_tree.specs.Trails.{answer, laid}
use Rattle.cons_tree.specs.declared.parts.Part.{Part}
use Rattle.cons_tree.specs.declared.slots.Slots.{Slots}
use Rattle.cons_solve.specs.Environments.{environments}
use Rattle.cons_solve.specs.steps.Alternatives.{Kept, best_of}
use Rattle.cons_solve.specs.steps.Passes.{merged}
use Rattle.cons_solve.specs.steps.Plans.{Outcome, memos, GoodAny}
use Rattle.cons_solve.specs.declared.plan.Plan.{Plan}

-- the join so far, what is kept of all alternatives, and what the join comes to with those that are left
pub record Between (cs left : ConsList Part) (whole : State) (best : Outcome) (ps : List Plan) (ks : List Outcome) (xs : Types) : Type 0 where
  pub kept : Kept best xs
  pub good : GoodAny cs (memos ps) ks xs
  pub rest : merged environments (best_of best xs) left xs ≡ whole

pub between_as : (cs left : ConsList Part) (whole : State) (b c : Outcome) (ps qs : List Plan) (ks js : List Outcome) (xs ys : Types) → c ≡ b → qs ≡ ps → js ≡ ks → ys ≡ xs → Between cs left whole b ps ks xs
    → Between cs left whole c qs js ys
between_as cs left whole b c ps qs ks js xs ys d e f h k =
    subst (λ x. Between cs left whole c qs js x) (sym h) (subst (λ x. Between cs left whole c qs x xs) (sym f) (subst (λ x. Between cs left whole c x ks xs) (sym e) (subst (λ x. Between cs left whole x ps ks xs) (sym d) k)))

pub same_types : (s t : Slots) → s ≡ t → s.types ≡ t.types
same_types s t e = λ i. (e i).types

pub same_trail : (s t : Slots) → s ≡ t → s.trail ≡ t.trail
same_trail s t e = λ i. (e i).trail

-- what the join is laid to is below the array
pub laid_below : (best : Outcome) (xs ys : Types) (alive : Bool) → Kept best xs → best_of best xs ≡ answer alive ys → alive ≡ true → AreBelow ys xs
laid_below best xs ys false k h e = absurd (true≢false (sym e))
laid_below None xs ys true k h e = absurd cc
laid_below (Some lows) xs ys true k h e = let same : laid lows xs ≡ ys = cc in subst (λ zs. AreBelow zs xs) same k.below
