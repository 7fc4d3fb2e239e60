-- What an expression calls: applications of functions' names, and calls of literal modules and names.
use Rattle.std.specs.Prelude.{Option, Some, None, ℕ, List, [], ◌∷◌, ◌++◌, if◌then◌else◌}
use Rattle.type_kinds.specs.declared.atom.Atom.{Atom}
use Rattle.core_ast.specs.declared.syntax.FunName.{FunName}
use Rattle.core_ast.specs.Model as m
use Rattle.core_ast.specs.Lengths.{how_many}
use Rattle.core_ast.specs.Named.{literal_atom, local_name}
use Rattle.core_scope.specs.Names.{has_function, defined_names}
use Rattle.core_scope.specs.Asks.{function_name}

-- What an application of a function's name or a call by literal names goes to.
pub data CallTarget : Type 0 where
  -- a function that the module defines, with `count` arguments, which may be another number than its arity
  defined : FunName → (count : ℕ) → CallTarget
  -- a function of a `letrec` around it, with `count` arguments
  inner : FunName → (count : ℕ) → CallTarget
  -- a function of a module, by the module's name and its own, which has the number of arguments as its arity
  remote : Atom → FunName → CallTarget

-- ---- the target of one expression

-- Where the operator is a function's name: of a `letrec` around it if it is among those, else of the module.
abbrev pub applied : (locals : List FunName) → (count : ℕ) → (operator : Option FunName) → Option CallTarget
applied locals count None = None
applied locals count (Some f) = Some (if has_function locals f then inner f count else defined f count)

-- Where module and name are both literal atoms.
abbrev pub called : (count : ℕ) → (home name : Option Atom) → Option CallTarget
called count None name = None
called count (Some home) None = None
called count (Some home) (Some name) = Some (remote home (function_name name count))

-- The target of the expression itself, where the functions of the `letrec`s around it have these names.
abbrev pub target_of : (locals : List FunName) → m.Tree → Option CallTarget
target_of locals (m.apply i t ts) = applied locals (how_many ts) (local_name t)
target_of locals (m.call i t u ts) = called (how_many ts) (literal_atom t) (literal_atom u)
target_of locals _ = None

abbrev pub targets_of : Option CallTarget → List CallTarget
targets_of None = []
targets_of (Some target) = target ∷ []

-- ---- the targets of an expression at any depth, in the order of the text

abbrev mutual
  pub targets : (locals : List FunName) → m.Tree → List CallTarget
  targets locals (m.variable i x) = []
  targets locals (m.local i f) = []
  targets locals (m.external i x f) = []
  targets locals (m.literal i l) = []
  targets locals (m.function i xs t) = targets locals t
  targets locals (m.listed i ts t) = all_targets locals ts ++ targets locals t
  targets locals (m.tuple i ts) = all_targets locals ts
  targets locals (m.new_map i ps) = pair_targets locals ps
  targets locals (m.updated_map i ps t) = pair_targets locals ps ++ targets locals t
  targets locals (m.binary i ss) = segment_targets locals ss
  targets locals (m.values i ts) = all_targets locals ts
  targets locals (m.chain i ss t) = step_targets locals ss ++ targets locals t
  targets locals (m.case i t cs) = targets locals t ++ clause_targets locals cs
  targets locals (m.letrec i ds t) = def_targets (locals ++ defined_names ds) ds ++ targets (locals ++ defined_names ds) t
  targets locals (m.apply i t ts) = targets_of (target_of locals (m.apply i t ts)) ++ targets locals t ++ all_targets locals ts
  targets locals (m.call i t u ts) = targets_of (target_of locals (m.call i t u ts)) ++ targets locals t ++ targets locals u ++ all_targets locals ts
  targets locals (m.primop i x ts) = all_targets locals ts
  targets locals (m.try i t xs u ys w) = targets locals t ++ targets locals u ++ targets locals w
  targets locals (m.receive i cs t u) = clause_targets locals cs ++ targets locals t ++ targets locals u
  targets locals (m.catch i t) = targets locals t

  pub all_targets : (locals : List FunName) → m.Trees → List CallTarget
  all_targets locals m.no_tree = []
  all_targets locals (m.and_tree t ts) = targets locals t ++ all_targets locals ts

  pub pair_targets : (locals : List FunName) → m.Pairs → List CallTarget
  pair_targets locals m.no_pair = []
  pair_targets locals (m.and_pair exact key value ps) = targets locals key ++ targets locals value ++ pair_targets locals ps

  pub segment_targets : (locals : List FunName) → m.Segments → List CallTarget
  segment_targets locals m.no_segment = []
  segment_targets locals (m.and_segment value args ss) = targets locals value ++ all_targets locals args ++ segment_targets locals ss

  pub step_targets : (locals : List FunName) → m.Steps → List CallTarget
  step_targets locals m.no_step = []
  step_targets locals (m.and_let i xs t ss) = targets locals t ++ step_targets locals ss
  step_targets locals (m.and_do i t ss) = targets locals t ++ step_targets locals ss

  pub clause_targets : (locals : List FunName) → m.Clauses → List CallTarget
  clause_targets locals m.no_clause = []
  clause_targets locals (m.and_clause i ps guard t cs) = patterns_targets locals ps ++ targets locals guard ++ targets locals t ++ clause_targets locals cs

  -- The bodies of definitions, which see these names.
  pub def_targets : (locals : List FunName) → m.Defs → List CallTarget
  def_targets locals m.no_def = []
  def_targets locals (m.and_def f i xs t ds) = targets locals t ++ def_targets locals ds

  -- Patterns have expressions in the keys of maps and in the arguments of segments.
  pub pattern_targets : (locals : List FunName) → m.Pattern → List CallTarget
  pattern_targets locals (m.binds i x) = []
  pattern_targets locals (m.equals i l) = []
  pattern_targets locals (m.list_of i ps p) = patterns_targets locals ps ++ pattern_targets locals p
  pattern_targets locals (m.tuple_of i ps) = patterns_targets locals ps
  pattern_targets locals (m.map_of i ps) = pat_pair_targets locals ps
  pattern_targets locals (m.binary_of i ss) = pat_segment_targets locals ss
  pattern_targets locals (m.alias i x p) = pattern_targets locals p

  pub patterns_targets : (locals : List FunName) → m.Patterns → List CallTarget
  patterns_targets locals m.no_pattern = []
  patterns_targets locals (m.and_pattern p ps) = pattern_targets locals p ++ patterns_targets locals ps

  pub pat_pair_targets : (locals : List FunName) → m.PatPairs → List CallTarget
  pat_pair_targets locals m.no_pat_pair = []
  pat_pair_targets locals (m.and_pat_pair key p ps) = targets locals key ++ pattern_targets locals p ++ pat_pair_targets locals ps

  pub pat_segment_targets : (locals : List FunName) → m.PatSegments → List CallTarget
  pat_segment_targets locals m.no_pat_segment = []
  pat_segment_targets locals (m.and_pat_segment p args ss) = pattern_targets locals p ++ all_targets locals args ++ pat_segment_targets locals ss
