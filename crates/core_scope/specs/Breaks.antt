-- The rules of scopes and degrees (Core Erlang 1.0.3, "Static semantics"): all that a module breaks.
use Rattle.std.specs.Prelude.{ℕ, Bool, true, false, not, ◌||◌, List, [], ◌∷◌, ◌++◌, length, eqb}
use Rattle.type_kinds.specs.declared.atom.Atom.{Atom}
use Rattle.type_kinds.specs.declared.place.Place.{Place}
use Rattle.core_ast.specs.declared.syntax.Mark.{Mark}
use Rattle.core_ast.specs.declared.syntax.VarName.{VarName}
use Rattle.core_ast.specs.declared.syntax.FunName.{FunName}
use Rattle.core_ast.specs.Model as m
use Rattle.core_ast.specs.Lengths.{how_many_patterns}
use Rattle.core_scan.specs.Bytes.{start}
use Rattle.core_scope.specs.declared.ask.Ask.{Ask}
use Rattle.core_scope.specs.declared.ask.Ask.TheVariants.{AnyNumber, Exactly}
use Rattle.core_scope.specs.declared.fault.ScopeRule.{ScopeRule}
use Rattle.core_scope.specs.declared.fault.ScopeRule.TheVariants.{BoundVariables, DistinctVariables, DefinedFunctions, DistinctFunctions, DefinedExports, Degrees}
use Rattle.core_scope.specs.declared.fault.Break.{Break}
use Rattle.core_scope.specs.Names.{has_variable, has_function, bound, bound_by, pattern_bound, patterns_bound, steps_bound, defined_names, Scope, with_variables, with_functions, module_scope}
use Rattle.core_scope.specs.Asks.{one_value, gives, suffices, width}

-- Where the test fails, the rule is broken at the place.
abbrev pub unless : Bool → ScopeRule → Place → List Break
unless true rule place = []
unless false rule place = record { place = place; rule = rule } ∷ []

-- ---- what one node, one name and one number break

-- An expression gives what its place asks for.
abbrev pub degree : Ask → Mark → m.Tree → List Break
degree k mark t = unless (suffices k (gives t)) Degrees mark.place

abbrev pub use_of_variable : Scope → Atom → Place → List Break
use_of_variable s x place = unless (has_variable s.variables x) BoundVariables place

abbrev pub use_of_function : Scope → FunName → Place → List Break
use_of_function s f place = unless (has_function s.functions f) DefinedFunctions place

-- A variable is bound anew: it isn't among those before it in the same patterns or list.
abbrev pub new_variable : (before : List Atom) → Atom → Place → List Break
new_variable before x place = unless (not (has_variable before x)) DistinctVariables place

abbrev pub new_variables : (before : List Atom) → List VarName → List Break
new_variables before [] = []
new_variables before (x ∷ xs) = new_variable before x.name x.place ++ new_variables (before ++ bound x.name) xs

-- No function is defined twice.
abbrev pub new_functions : (before : List FunName) → m.Defs → List Break
new_functions before m.no_def = []
new_functions before (m.and_def f k xs t ds) = unless (not (has_function before f)) DistinctFunctions k.place ++ new_functions (before ++ f ∷ []) ds

-- A fun has as many parameters as its name's arity.
abbrev pub arity_of : FunName → Mark → List VarName → List Break
arity_of f k xs = unless (eqb (length xs) f.arity) Degrees k.place

-- A clause has as many patterns as its place wants.
abbrev pub width_of : ℕ → Mark → m.Patterns → List Break
width_of n k ps = unless (eqb (how_many_patterns ps) n) Degrees k.place

-- A `try` has two catch variables, or three.
abbrev pub catches : Mark → List VarName → List Break
catches k ys = unless (eqb (length ys) 2 || eqb (length ys) 3) Degrees k.place

-- ---- what expressions and patterns break

abbrev mutual
  -- An expression that sees the scope, in a place that asks for k values.
  pub breaks : Scope → Ask → m.Tree → List Break
  breaks s k (m.variable i x) = degree k i (m.variable i x) ++ use_of_variable s x i.place
  breaks s k (m.local i f) = degree k i (m.local i f) ++ use_of_function s f i.place
  breaks s k (m.external i x f) = degree k i (m.external i x f)
  breaks s k (m.literal i l) = degree k i (m.literal i l)
  breaks s k (m.function i xs t) = degree k i (m.function i xs t) ++ new_variables [] xs ++ breaks (with_variables s (bound_by xs)) one_value t
  breaks s k (m.listed i ts t) = degree k i (m.listed i ts t) ++ all_breaks s ts ++ breaks s one_value t
  breaks s k (m.tuple i ts) = degree k i (m.tuple i ts) ++ all_breaks s ts
  breaks s k (m.new_map i ps) = degree k i (m.new_map i ps) ++ pair_breaks s ps
  breaks s k (m.updated_map i ps t) = degree k i (m.updated_map i ps t) ++ pair_breaks s ps ++ breaks s one_value t
  breaks s k (m.binary i ss) = degree k i (m.binary i ss) ++ segment_breaks s ss
  breaks s k (m.values i ts) = degree k i (m.values i ts) ++ all_breaks s ts
  breaks s k (m.chain i ss t) = degree k i (m.chain i ss t) ++ step_breaks s ss ++ breaks (with_variables s (steps_bound ss)) k t
  breaks s k (m.case i t cs) = degree k i (m.case i t cs) ++ breaks s (Exactly (width cs)) t ++ clause_breaks s k (width cs) cs
  breaks s k (m.letrec i ds t) = degree k i (m.letrec i ds t) ++ new_functions [] ds ++ def_breaks (with_functions s (defined_names ds)) ds ++ breaks (with_functions s (defined_names ds)) k t
  breaks s k (m.apply i t ts) = degree k i (m.apply i t ts) ++ breaks s one_value t ++ all_breaks s ts
  breaks s k (m.call i t u ts) = degree k i (m.call i t u ts) ++ breaks s one_value t ++ breaks s one_value u ++ all_breaks s ts
  breaks s k (m.primop i x ts) = degree k i (m.primop i x ts) ++ all_breaks s ts
  breaks s k (m.try i t xs u ys w) =
      degree k i (m.try i t xs u ys w) ++ catches i ys ++ breaks s (Exactly (length xs)) t
      ++ new_variables [] xs ++ breaks (with_variables s (bound_by xs)) k u
      ++ new_variables [] ys ++ breaks (with_variables s (bound_by ys)) k w
  breaks s k (m.receive i cs t u) = degree k i (m.receive i cs t u) ++ clause_breaks s k 1 cs ++ breaks s one_value t ++ breaks s k u
  breaks s k (m.catch i t) = degree k i (m.catch i t) ++ breaks s one_value t

  -- Expressions of each of which one value is asked.
  pub all_breaks : Scope → m.Trees → List Break
  all_breaks s m.no_tree = []
  all_breaks s (m.and_tree t ts) = breaks s one_value t ++ all_breaks s ts

  pub pair_breaks : Scope → m.Pairs → List Break
  pair_breaks s m.no_pair = []
  pair_breaks s (m.and_pair exact key value ps) = breaks s one_value key ++ breaks s one_value value ++ pair_breaks s ps

  pub segment_breaks : Scope → m.Segments → List Break
  segment_breaks s m.no_segment = []
  segment_breaks s (m.and_segment value args ss) = breaks s one_value value ++ all_breaks s args ++ segment_breaks s ss

  -- Steps, each of which sees what those before it bind. The expression of a `let` is asked for as many
  -- values as it has variables, and the first expression of a `do` for any number.
  pub step_breaks : Scope → m.Steps → List Break
  step_breaks s m.no_step = []
  step_breaks s (m.and_let i xs t ss) = breaks s (Exactly (length xs)) t ++ new_variables [] xs ++ step_breaks (with_variables s (bound_by xs)) ss
  step_breaks s (m.and_do i t ss) = breaks s AnyNumber t ++ step_breaks s ss

  -- Clauses with n patterns each. A guard and a body see all that the patterns bind.
  pub clause_breaks : Scope → Ask → ℕ → m.Clauses → List Break
  clause_breaks s k n m.no_clause = []
  clause_breaks s k n (m.and_clause i ps guard t cs) =
      width_of n i ps ++ patterns_breaks s [] ps ++ breaks (with_variables s (patterns_bound ps)) one_value guard
      ++ breaks (with_variables s (patterns_bound ps)) k t ++ clause_breaks s k n cs

  -- Definitions. The body of a fun is asked for one value.
  pub def_breaks : Scope → m.Defs → List Break
  def_breaks s m.no_def = []
  def_breaks s (m.and_def f i xs t ds) = arity_of f i xs ++ new_variables [] xs ++ breaks (with_variables s (bound_by xs)) one_value t ++ def_breaks s ds

  -- A pattern of a clause that stands in the scope, after patterns that bind these. The arguments of a
  -- segment and the key of a pair see the variables around the clause and those that stand before them,
  -- and one value is asked of each.
  pub pattern_breaks : Scope → (before : List Atom) → m.Pattern → List Break
  pattern_breaks s before (m.binds i x) = new_variable before x i.place
  pattern_breaks s before (m.equals i l) = []
  pattern_breaks s before (m.list_of i ps p) = patterns_breaks s before ps ++ pattern_breaks s (before ++ patterns_bound ps) p
  pattern_breaks s before (m.tuple_of i ps) = patterns_breaks s before ps
  pattern_breaks s before (m.map_of i ps) = pat_pair_breaks s before ps
  pattern_breaks s before (m.binary_of i ss) = pat_segment_breaks s before ss
  pattern_breaks s before (m.alias i x p) = new_variable before x.name x.place ++ pattern_breaks s (before ++ bound x.name) p

  pub patterns_breaks : Scope → (before : List Atom) → m.Patterns → List Break
  patterns_breaks s before m.no_pattern = []
  patterns_breaks s before (m.and_pattern p ps) = pattern_breaks s before p ++ patterns_breaks s (before ++ pattern_bound p) ps

  pub pat_pair_breaks : Scope → (before : List Atom) → m.PatPairs → List Break
  pat_pair_breaks s before m.no_pat_pair = []
  pat_pair_breaks s before (m.and_pat_pair key p ps) = breaks (with_variables s before) one_value key ++ pattern_breaks s before p ++ pat_pair_breaks s (before ++ pattern_bound p) ps

  pub pat_segment_breaks : Scope → (before : List Atom) → m.PatSegments → List Break
  pat_segment_breaks s before m.no_pat_segment = []
  pat_segment_breaks s before (m.and_pat_segment p args ss) =
      pattern_breaks s before p ++ all_breaks (with_variables s (before ++ pattern_bound p)) args
      ++ pat_segment_breaks s (before ++ pattern_bound p) ss

-- ---- what a module breaks

-- The place of the next export; where none is told, the beginning of the text.
abbrev pub next_place : List Place → Place
next_place [] = start
next_place (p ∷ ps) = p

abbrev pub other_places : List Place → List Place
other_places [] = []
other_places (p ∷ ps) = ps

-- Each export is among the functions.
abbrev pub export_breaks : List FunName → (exports : List FunName) → List Place → List Break
export_breaks functions [] places = []
export_breaks functions (f ∷ fs) places = unless (has_function functions f) DefinedExports (next_place places) ++ export_breaks functions fs (other_places places)

abbrev pub module_breaks : m.Module → List Break
module_breaks x = new_functions [] x.defs ++ export_breaks (defined_names x.defs) x.exports x.export_places ++ def_breaks (module_scope x) x.defs
