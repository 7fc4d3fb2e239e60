-- What is found by the name of a function.
use Rattle.std.proofs.Common.{◌≡◌, ◌&&◌, Bool, true, false, if◌then◌else◌, List, [], ◌∷◌, Some, nat_eq, eqb-true, refl, subst}
use Rattle.std.proofs.lemmas.Option.{same_Some}
use Rattle.type_kinds.proofs.Truths.{second}
use Rattle.type_lattice_model.specs.Values.{Local}
use Rattle.core_ast.specs.declared.syntax.FunName.{FunName}
use Rattle.core_scope.specs.Names.{same_atom}
use Rattle.core_meaning.specs.Programs.{function_named}

pub named_arity : (ds : List Local) (f : FunName) (d : Local) → function_named ds f ≡ Some d → d.arity ≡ f.arity
named_arity [] f d h = absurd cc
named_arity (x ∷ ds) f d h = by (same_atom x.name f.name && nat_eq x.arity f.arity) refl (named_arity ds f d) h
  where
    by : (c : Bool) → (same_atom x.name f.name && nat_eq x.arity f.arity) ≡ c → (function_named ds f ≡ Some d → d.arity ≡ f.arity) → (if c then Some x else function_named ds f) ≡ Some d → d.arity ≡ f.arity
    by true e more q = subst (λ z. z.arity ≡ f.arity) (same_Some _ _ q) (eqb-true x.arity f.arity (second (same_atom x.name f.name) (nat_eq x.arity f.arity) e))
    by false e more q = more q
