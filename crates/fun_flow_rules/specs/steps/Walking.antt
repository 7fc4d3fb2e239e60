-- The walk through a program: what it knows of what an expression sees, and the rules that it makes.
use Rattle.std.specs.Prelude.{◌≡◌, ◌↔◌, ◌⊎◌, ℕ, List, [], ◌∷◌, ◌++◌, map, Option, Some, None, Result, IfOk}
use Rattle.type_kinds.specs.declared.atom.Atom.{Atom}
use Rattle.type_kinds.specs.declared.memory.Memory.{Memory}
use Rattle.core_ast.specs.declared.syntax.FunName.{FunName}
use Rattle.core_ast.specs.declared.syntax.VarName.{VarName}
use Rattle.core_ast.specs.Model as m
use Rattle.core_ast.specs.Tree.{ClauseParts}
use Rattle.core_scope.specs.Asks.{one_value}
use Rattle.core_scope.specs.Names.{Distinct, same_atom, same_function}
use Rattle.core_scope.specs.declared.ask.Ask.{Ask}
use Rattle.core_meaning.specs.Programs.{Program, module_named}
use Rattle.fun_flow_places.specs.Bindings.{value_of}
use Rattle.fun_flow_places.specs.Naming.{module_names, name_of, place_named, rule_named}
use Rattle.fun_flow_places.specs.Tables.{IsTableOf, label_of}
use Rattle.fun_flow_places.specs.declared.places.FlowPlace.{FlowPlace}
use Rattle.fun_flow_places.specs.declared.places.FlowPlace.TheVariants.{Nowhere}
use Rattle.fun_flow_places.specs.declared.places.FlowRule.{FlowRule}
use Rattle.fun_flow_rules.specs.declared.walk.RuleWalk.{RuleWalk}
use Rattle.fun_flow_sets.specs.Items as s
use Rattle.fun_flow_sets.specs.Rules.{IsAmong, in_function, module_rules, opens_definition, passed_to, places, rules, rules_of_heads, rules_of_pattern}
use Rattle.fun_flow_sets.specs.Scopes.{Scope, definition_of, first, place_of, with_heads, with_pattern}

abbrev pub or_nowhere : Option FlowPlace → FlowPlace
or_nowhere None = Nowhere
or_nowhere (Some p) = p

-- where the values of a variable are
abbrev pub place_in : List (Atom × FlowPlace) → Atom → FlowPlace
place_in bs x = or_nowhere (value_of same_atom bs x)

-- The walk stands in a module of the program, and in this scope.
pub record Sees (U : Program) (home : Atom) (sc : Scope) (w : RuleWalk) : Type 0 where
  pub apart : Distinct (module_names U)
  pub table : IsTableOf U w.table
  pub at_home : name_of U w.home ≡ home
  pub variables : (x : Atom) → place_named U (place_in w.variables x) ≡ place_of sc x
  pub functions : (f : FunName) → value_of same_function w.functions f ≡ label_of (definition_of U home sc f)

-- ---- rules

-- The second rules are the first and those of a text, in whatever order.
abbrev pub Adds : Program → List FlowRule → List FlowRule → List s.Rule → Type 0
Adds U old new rs = (r : s.Rule) → IsAmong (map (rule_named U) new) r ↔ (IsAmong (map (rule_named U) old) r ⊎ IsAmong rs r)

-- the rules of a part of a text, and its places, by the scope in which it stands
abbrev pub Part : Type 0
Part = Program → Atom → Scope → List s.Rule

abbrev pub PlacesOf : Type 0
PlacesOf = Program → Atom → Scope → List s.Place

abbrev pub Binding : Type 0
Binding = Program → Atom → Scope → Scope

abbrev pub no_rules : Part
no_rules U home sc = []

abbrev pub with_rules : RuleWalk → List FlowRule → RuleWalk
with_rules w rs = record w { rules = rs }

abbrev pub with_variables : RuleWalk → List (Atom × FlowPlace) → RuleWalk
with_variables w vs = record w { variables = vs }

-- The walk made the rules of a part, and sees what it saw.
pub record Makes (old new : RuleWalk) (part : Part) : Type 0 where
  pub rest : new ≡ with_rules old new.rules
  pub adds : (U : Program) (home : Atom) (sc : Scope) → Sees U home sc old → Adds U old.rules new.rules (part U home sc)

-- The walk made the rules of a part, and sees its variables inside of what it saw.
pub record Binds (old new : RuleWalk) (part : Part) (bind : Binding) : Type 0 where
  pub rest : new ≡ record old { rules = new.rules; variables = new.variables }
  pub inner : List (Atom × FlowPlace)
  pub outer : new.variables ≡ old.variables ++ inner
  pub adds : (U : Program) (home : Atom) (sc : Scope) → Sees U home sc old → Adds U old.rules new.rules (part U home sc)
  pub sees : (U : Program) (home : Atom) (sc : Scope) → Sees U home sc old → Sees U home (bind U home sc) new

-- So of a pattern of the values at a place.
abbrev pub PatternBinds : RuleWalk → RuleWalk → FlowPlace → m.Pattern → Type 0
PatternBinds old new p t = Binds old new (λ U home sc. rules_of_pattern U home sc (place_named U p) t) (λ U home sc. with_pattern (place_named U p) t sc)

-- These are the places of a part.
abbrev pub Gives : RuleWalk → List FlowPlace → PlacesOf → Type 0
Gives old ps f = (U : Program) (home : Atom) (sc : Scope) → Sees U home sc old → map (place_named U) ps ≡ f U home sc

abbrev pub GivesOne : RuleWalk → FlowPlace → (Program → Atom → Scope → s.Place) → Type 0
GivesOne old p f = (U : Program) (home : Atom) (sc : Scope) → Sees U home sc old → place_named U p ≡ f U home sc

-- The walk made the rules of an expression, and gives its places.
abbrev pub Walks : RuleWalk → RuleWalk → Ask → m.Tree → Result (List FlowPlace) Memory → Type 0
Walks old new k t answer = IfOk answer (λ ps. Makes old new (λ U home sc. rules U home sc k t) × Gives old ps (λ U home sc. places U home sc k t))

-- ---- parts of forms

-- a function's body, and the flow to what the function gives
abbrev pub body_rules : Program → Atom → Scope → ℕ → List VarName → m.Tree → List s.Rule
body_rules U home sc label xs t = s.flows (first (places U home (in_function U home label xs sc) one_value t)) (s.returned home label) ∷ rules U home (in_function U home label xs sc) one_value t

-- an expression whose values are those of the form at a label
abbrev pub joined_rules : Program → Atom → Scope → ℕ → Ask → m.Tree → List s.Rule
joined_rules U home sc label k t = passed_to U home label k (places U home sc k t) ++ rules U home sc k t

-- one clause of the form at a label
abbrev pub clause_rules : Program → Atom → Scope → Ask → ℕ → List s.Place → ClauseParts → List s.Rule
clause_rules U home sc k label qs c =
    rules_of_heads U home sc qs c.patterns ++ (rules U home (with_heads qs c.patterns sc) one_value c.guard ++ joined_rules U home (with_heads qs c.patterns sc) label k c.body)

-- ---- modules

-- the parameters of exported functions may be anything
abbrev pub opened_rules : Program → Atom → Scope → List FunName → List s.Rule
opened_rules U home sc [] = []
opened_rules U home sc (f ∷ fs) = opens_definition home (definition_of U home sc f) ++ opened_rules U home sc fs

-- The walk made the rules of a module of the program, at its position.
pub record WalksModule (old new : RuleWalk) (at : ℕ) (x : m.Module) : Type 0 where
  pub table : new.table ≡ old.table
  pub variables : old.variables ≡ [] → new.variables ≡ []
  pub functions : new.functions ≡ []
  pub adds :
      (U : Program) →
      Distinct (module_names U) →
      IsTableOf U old.table →
      old.variables ≡ [] →
      old.functions ≡ [] →
      name_of U at ≡ x.name →
      module_named U x.name ≡ Some x →
      Adds U old.rules new.rules (module_rules U x)

-- ---- loops

-- What is left to walk completes the whole.
pub record Going (old now : RuleWalk) (left all : Part) : Type 0 where
  pub rest : now ≡ with_rules old now.rules
  pub then : (U : Program) (home : Atom) (sc : Scope) → Sees U home sc old → (rs : List FlowRule) → Adds U now.rules rs (left U home sc) → Adds U old.rules rs (all U home sc)

pub record GoingIn (U : Program) (home : Atom) (sc : Scope) (old now : RuleWalk) (left all : Part) (bind whole : Binding) : Type 0 where
  pub scope : Scope
  pub sees : Sees U home scope now
  pub binds : bind U home scope ≡ whole U home sc
  pub then : (rs : List FlowRule) → Adds U now.rules rs (left U home scope) → Adds U old.rules rs (all U home sc)

-- The same where what was walked is seen by what is left.
pub record Entering (old now : RuleWalk) (left all : Part) (bind whole : Binding) : Type 0 where
  pub rest : now ≡ record old { rules = now.rules; variables = now.variables }
  pub inner : List (Atom × FlowPlace)
  pub outer : now.variables ≡ old.variables ++ inner
  pub going : (U : Program) (home : Atom) (sc : Scope) → Sees U home sc old → GoingIn U home sc old now left all bind whole
