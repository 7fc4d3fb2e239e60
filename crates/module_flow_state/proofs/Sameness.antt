-- What is told to be the same is equal.
use Rattle.std.proofs.Common.{◌≡◌, true, ◌&&◌, nat_eq, List, [], ◌∷◌, Option, Some, None, refl, ap, eqb-true}
use Rattle.std.proofs.lemmas.Bool.{and_parts}
use Rattle.core_scope.specs.Names.{same_function}
use Rattle.core_scope.specs.steps.SameNames.{functions_same}
use Rattle.type_lattice.specs.Inclusion.{is_same, same-equal}
use Rattle.type_lattice.specs.Types.{Type4}
use Rattle.module_flow_state.specs.declared.states.FlowFun.{FlowFun}
use Rattle.module_flow_calls.specs.TypeLists.{are_same}
use Rattle.module_flow_state.specs.steps.Placing.{are_same_parameters, is_same_function}

type_equal : (t u : Type4) → is_same t u ≡ true → t ≡ u
type_equal t u e = (same-equal t u).0 e

pub types_equal : (ts us : List Type4) → are_same ts us ≡ true → ts ≡ us
types_equal [] [] e = refl
types_equal [] (u ∷ us) e = absurd cc
types_equal (t ∷ ts) [] e = absurd cc
types_equal (t ∷ ts) (u ∷ us) e =
    let b = and_parts (is_same t u) (are_same ts us) e in
    let p : t ≡ u = type_equal t u b.0 in
    let q : ts ≡ us = types_equal ts us b.1 in
    λ i. p i ∷ q i

pub parameters_equal : (o p : Option (List Type4)) → are_same_parameters o p ≡ true → o ≡ p
parameters_equal None None e = refl
parameters_equal None (Some us) e = absurd cc
parameters_equal (Some ts) None e = absurd cc
parameters_equal (Some ts) (Some us) e = ap Some (types_equal ts us e)

pub function_equal : (f g : FlowFun) → is_same_function f g ≡ true → f ≡ g
function_equal f g e =
    let a = and_parts ((nat_eq f.label g.label && same_function f.name g.name) && are_same_parameters f.params g.params) (is_same f.result g.result) e in
    let b = and_parts (nat_eq f.label g.label && same_function f.name g.name) (are_same_parameters f.params g.params) a.0 in
    let d = and_parts (nat_eq f.label g.label) (same_function f.name g.name) b.0 in
    let l : f.label ≡ g.label = eqb-true f.label g.label d.0 in
    let n : f.name ≡ g.name = functions_same f.name g.name d.1 in
    let p : f.params ≡ g.params = parameters_equal f.params g.params b.1 in
    let r : f.result ≡ g.result = type_equal f.result g.result a.1 in
    λ i. record { label = l i; name = n i; params = p i; result = r i }
