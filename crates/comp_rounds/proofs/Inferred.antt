-- The signature that is inferred, from what is made of a member.
use Rattle.std.proofs.Common.{◌≡◌, ℕ, Option, Some, replicate, ap, ap₂, ◌∙◌, subst}
use Rattle.std.specs.Option.{IfSome}
use Rattle.type_lattice.specs.Types.{any}
use Rattle.cons_tree.specs.Constraints.{Cons}
use Rattle.cons_tree.specs.declared.parts.Part.{Part}
use Rattle.cons_tree.specs.declared.parts.Sig.{Sig}
use Rattle.cons_solve.specs.Environments.{solution}
use Rattle.cons_gen.specs.Made.{definition_constraint, definition_slots}
use Rattle.cons_gen_rows.specs.Passes.{Knowledge}
use Rattle.comp_rounds.specs.Rounds.{Function, arity, inferred, solved, signature_in}

pub inferred_is : (P : Knowledge) (g : Function) (k : Cons Part) (n m : ℕ) (sig : Sig) → k ≡ definition_constraint P g.home g.parameters g.body → n ≡ definition_slots g.parameters g.body → m ≡ arity g
    → sig ≡ signature_in m (solution k (replicate n any)) → sig ≡ inferred P g
unfolding inferred solved
inferred_is P g k n m sig made slots many is =
    is ∙ ap (λ i. signature_in i (solution k (replicate n any))) many ∙ ap₂ (λ l i. signature_in (arity g) (solution l (replicate i any))) made slots

pub found_is : (found : Option Sig) (sig known : Sig) → found ≡ Some sig → IfSome found (λ s. s ≡ known) → sig ≡ known
found_is found sig known is h = subst (λ o. IfSome o (λ s. s ≡ known)) is h
