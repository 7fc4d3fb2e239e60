-- Values that lie in the sets of places, by some rules of a program; and what holds then of closures and of the functions of
-- `letrec`s.
use Rattle.std.specs.Prelude.{◌≡◌, ◌⊎◌, ℕ, ◌+◌, List, [], ◌∷◌, Some}
use Rattle.type_kinds.specs.declared.atom.Atom.{Atom}
use Rattle.core_ast.specs.declared.syntax.VarName.{VarName}
use Rattle.core_ast.specs.Model as m
use Rattle.core_scope.specs.Asks.{one_value}
use Rattle.core_scope.specs.Functions.{LabelledFunction}
use Rattle.type_lattice_model.specs.Values.{Value, Values, no_value, and_value, ValuePairs, Env, no_variable, and_variable, and_frame, Local}
use Rattle.core_meaning.specs.Programs.{Program, function_at, AreAtLabels, locals_of}
use Rattle.core_meaning_values.specs.Functions.{HoldsFunction, HoldFunction, PairsHoldFunction}
use Rattle.fun_flow_sets.specs.Items.{Item, anything, Place, parameter, returned, Rule, flows, item_of}
use Rattle.fun_flow_sets.specs.Rules.{places, rules, rules_of_definitions, in_function, opens}
use Rattle.fun_flow_sets.specs.Scopes.{Scope, no_place, and_place, in_frame, first, rest}
use Rattle.fun_flow_sets.specs.Sets.{May}

module _ (U : Program) (R : Rule → Type 0) where
  -- the set has the item, or `anything`
  abbrev pub MayHave : Place → Item → Type 0
  MayHave p x = May U R p anything ⊎ May U R p x

  -- each function that the value holds is in the set
  abbrev pub IsIn : Place → Value → Type 0
  IsIn p v = (c : Value) → HoldsFunction c v → MayHave p (item_of c)

  abbrev pub AreIn : Place → Values → Type 0
  AreIn p vs = (c : Value) → HoldFunction c vs → MayHave p (item_of c)

  abbrev pub PairsIn : Place → ValuePairs → Type 0
  PairsIn p ps = (c : Value) → PairsHoldFunction c ps → MayHave p (item_of c)

  -- values one by one; where a place is missing, any value may stand
  abbrev pub LieIn : List Place → Values → Type 0
  LieIn ps no_value = Unit {0}
  LieIn ps (and_value v vs) = IsIn (first ps) v × LieIn (rest ps) vs

  -- the same, and there are as many
  abbrev pub LieInEach : List Place → Values → Type 0
  LieInEach [] no_value = Unit {0}
  LieInEach [] (and_value v vs) = ⊥
  LieInEach (p ∷ ps) no_value = ⊥
  LieInEach (p ∷ ps) (and_value v vs) = IsIn p v × LieInEach ps vs

  -- arguments in the sets of the parameters of the function at a label, from the i-th on
  abbrev pub AreArguments : Atom → ℕ → (i : ℕ) → Values → Type 0
  AreArguments home label i no_value = Unit {0}
  AreArguments home label i (and_value v vs) = IsIn (parameter home label i) v × AreArguments home label (i + 1) vs

  -- the value of each variable is in the set of its place, and the same functions are in scope
  pub data Fits : Scope → Env → Type 0 where
    fits_nothing : Fits no_place no_variable
    fits_variable : {x : Atom} {p : Place} {v : Value} {sc : Scope} {env : Env} → IsIn p v → Fits sc env → Fits (and_place x p sc) (and_variable x v env)
    fits_frame : {ls : List Local} {sc : Scope} {env : Env} → Fits sc env → Fits (in_frame ls sc) (and_frame ls env)

  abbrev pub AreRules : List Rule → Type 0
  AreRules [] = Unit {0}
  AreRules (r ∷ rs) = R r × AreRules rs

  -- the rules of a function's body
  abbrev pub body_rules : Atom → ℕ → List VarName → m.Tree → Scope → List Rule
  body_rules home label xs t sc = flows (first (places U home (in_function U home label xs sc) one_value t)) (returned home label) ∷ rules U home (in_function U home label xs sc) one_value t

  -- the function at a label stands in this scope, and its text is among the rules
  abbrev pub StandsAt : Atom → ℕ → Scope → Type 0
  StandsAt home label sc = (c : LabelledFunction) → function_at U home label ≡ Some c → AreRules (body_rules home label c.parameters c.body sc)

  -- Of a closure: what it has captured lies in the sets of the places in which its body sees it, and anyone may enter it with
  -- anything.
  abbrev pub OfClosure : Atom → (label arity : ℕ) → Env → Type 0
  OfClosure home label arity env = ((sc : Scope) × (Fits sc env × StandsAt home label sc)) × AreRules (opens home label 0 arity)

  -- Of the functions of a `letrec`: their texts are among the rules.
  abbrev pub OfFrame : Atom → List Local → Env → Type 0
  OfFrame home ls env = (ds : m.Defs) × ((locals_of ds ≡ ls) × (AreAtLabels U home ds × ((sc : Scope) × (Fits sc env × AreRules (rules_of_definitions U home (in_frame ls sc) ds)))))
