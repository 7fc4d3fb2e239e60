-- What narrowing rests on: facts of types, each of which is a clause of a law of `type_lattice` or of `type_kinds_sets`.
use Rattle.std.specs.Prelude.{◌≡◌, ◌-◌, ◌↔◌, ℕ, ℤ, pos, suc, Bool, true, false, List, Some, IsTrue}
use Rattle.type_kinds_sets.specs.Names.{Names}
use Rattle.type_kinds_sets.specs.Numbers as numbers
use Rattle.type_kinds_sets.specs.Numbers.{Numbers}
use Rattle.type_lattice_model.specs.Parts.{value_at}
use Rattle.type_lattice_model.specs.Values.{Value, Values, count, int, cons as cons_value, tuple as tuple_value}
use Rattle.type_lattice.specs.Elements.{ints_of, elements_at}
use Rattle.type_lattice.specs.Inclusion.{leq}
use Rattle.type_lattice.specs.Kinds.{HasAtom, HasInt, IsKind, of_kind}
use Rattle.type_lattice.specs.Types.{Type4, HasType, HasTypes, Below, AreBelow, none, any, is_none, meet, join, tuple, cons, project, elem, tail, of_atoms, of_ints}
use Rattle.type_lattice.specs.declared.kinds.Kind.TheVariants.{Float}

pub record TypeFacts : Type 0 where
  pub same : (s t : Type4) → Below s t → Below t s → s ≡ t
  pub empty : (v : Value) → HasType v none → ⊥
  pub every : (v : Value) → HasType v any
  pub both : (s t : Type4) (v : Value) → HasType v (meet s t) ↔ (HasType v s × HasType v t)
  pub left : (s t : Type4) → Below s (join s t)
  pub right : (s t : Type4) → Below t (join s t)
  pub least : (s t u : Type4) → Below s u → Below t u → Below (join s t) u
  pub meet_grows : (s t u w : Type4) → Below s u → Below t w → Below (meet s t) (meet u w)
  pub join_grows : (s t u w : Type4) → Below s u → Below t w → Below (join s t) (join u w)
  pub tuple_grows : (ss ts : List Type4) → AreBelow ss ts → Below (tuple ss) (tuple ts)
  pub cons_grows : (h t i u : Type4) (proper : Bool) → Below h i → Below t u → Below (cons h t proper) (cons i u proper)
  pub project_grows : (s t : Type4) (n i : ℕ) → Below s t → Below (project s n i) (project t n i)
  pub elem_grows : (s t : Type4) → Below s t → Below (elem s) (elem t)
  pub tail_grows : (s t : Type4) → Below s t → Below (tail s) (tail t)
  pub tells_none : (t : Type4) → IsTrue (is_none t) ↔ (t ≡ none)
  pub tells_below : (s t : Type4) → IsTrue (leq s t) ↔ Below s t
  pub atoms : (s : Names) (v : Value) → HasType v (of_atoms s) ↔ HasAtom v s
  pub ints : (s : Numbers) (v : Value) → HasType v (of_ints s) ↔ HasInt v s
  pub floats : (v : Value) → HasType v (of_kind Float) ↔ IsKind Float v
  pub tuple_has : (ts : List Type4) (vs : Values) → HasTypes vs ts → HasType (tuple_value vs) (tuple ts)
  pub cons_has : (h t : Type4) (proper : Bool) (x y : Value) → HasType x h → HasType y t → HasType (cons_value x y) (cons h t proper)
  pub cons_parts : (t : Type4) (x y : Value) → HasType (cons_value x y) t ↔ (HasType x (elem t) × HasType y (tail t))
  pub project_has : (t : Type4) (n i : ℕ) (vs : Values) (v : Value) → HasType (tuple_value vs) t → count vs ≡ n → value_at vs (i - 1) ≡ Some v → HasType v (project t n i)
  pub ints_are : (t : Type4) (n : ℤ) → HasType (int n) t ↔ IsTrue (numbers.has (ints_of t) n)
  pub elements_have : (t : Type4) (s : Numbers) (vs : Values) (i : ℕ) (v : Value) → HasType (tuple_value vs) t → value_at vs i ≡ Some v → IsTrue (numbers.has s (pos (suc i))) → HasType v (elements_at t s)
  pub elements_grow : (t u : Type4) (s w : Numbers) → Below t u → numbers.Below s w → Below (elements_at t s) (elements_at u w)
  pub no_number : (s : Numbers) → numbers.is_none s ≡ true → s ≡ numbers.none
  pub some_number : (s : Numbers) → numbers.is_none s ≡ false → (n : ℤ) × (numbers.has s n ≡ true)
