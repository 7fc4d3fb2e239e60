-- The state of the walk: what steps one after another come to.
use Rattle.std.proofs.Common.{◌≡◌, List, [], ◌∷◌, ◌++◌, Option, refl, sym}
use Rattle.std.proofs.lemmas.List.{append_assoc, append-nil}
use Rattle.type_kinds.specs.declared.atom.Atom.{Atom}
use Rattle.core_scope.specs.declared.fault.Break.{Break}
use Rattle.core_scope.specs.declared.walk.Walk.{Walk}
use Rattle.core_scope.specs.steps.State.{first_of, earlier, noting, binding}

pub first_of-append : (found : Option Break) (ps qs : List Break) → first_of (first_of found ps) qs ≡ first_of found (ps ++ qs)
first_of-append found [] qs = refl
first_of-append found (p ∷ ps) qs = first_of-append (earlier found p) ps qs

-- Breaks met one after another.
pub noted_twice : (w : Walk) (ps qs : List Break) → noting (noting w ps) qs ≡ noting w (ps ++ qs)
noted_twice w ps qs = λ i. record { variables = w.variables; functions = w.functions; first = first_of-append w.first ps qs i }

-- Bindings one after another.
pub bound_twice : (w : Walk) (xs ys : List Atom) (ps qs : List Break) → binding (binding w xs ps) ys qs ≡ binding w (xs ++ ys) (ps ++ qs)
bound_twice w xs ys ps qs = λ i. record { variables = append_assoc w.variables xs ys i; functions = w.functions; first = first_of-append w.first ps qs i }

pub noted_as_bound : (w : Walk) (ps : List Break) → noting w ps ≡ binding w [] ps
noted_as_bound w ps = sym (λ i. record { variables = append-nil w.variables i; functions = w.functions; first = first_of w.first ps })
