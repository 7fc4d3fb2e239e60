-- The definition at a position of an accepted module.
use Rattle.std.proofs.Common.{◌≡◌, ℕ, zero, suc, ◌<◌, List, [], ◌∷◌, length, slice_get, Some, subst}
use Rattle.std.specs.Prelude.{Contains}
use Rattle.std.proofs.lemmas.List.Elements.{Contains-get_or}
use Rattle.std.proofs.lemmas.Option.{get_or_from_slice_get, same_Some}
use Rattle.core_ast.specs.Tree.{all_defs}
use Rattle.core_ast.specs.declared.syntax.Expr.{Expr}
use Rattle.core_ast.specs.declared.syntax.FunDefOf.{FunDefOf}
use Rattle.core_scope.specs.Checked.{module_of}
use Rattle.core_scope.specs.Places.{HaveArity}
use Rattle.core_scope.specs.declared.checked.Checked.{Checked}
use Rattle.comp_rounds.specs.Definitions.{IsDefinition}

pub whole_at : (ds : List (FunDefOf Expr)) (i : ℕ) (d : FunDefOf Expr) → HaveArity (all_defs ds) → slice_get ds i ≡ Some d → length d.fun.params ≡ d.name.arity
whole_at [] i d h e = cc
whole_at (k ∷ ds) zero d h e = subst (λ x. length x.fun.params ≡ x.name.arity) (same_Some k d e) h.0
whole_at (k ∷ ds) (suc i) d h e = whole_at ds i d h.1 e

pub defined_at : (c : Checked) (i : ℕ) (d : FunDefOf Expr) → i < length (module_of c).defs → slice_get (module_of c).defs i ≡ Some d → IsDefinition d
defined_at c i d h e =
    ∣ (c, subst (Contains (module_of c).defs) (get_or_from_slice_get (module_of c).defs i d d e) (Contains-get_or (module_of c).defs i d h)) ∣₁
