-- The flow of a module: from the functions that anyone may enter, round by round to a state that a round leaves unchanged, and
-- what the walk of that state reports.
use Rattle.std.specs.Prelude.{ℕ, zero, suc, ◌+◌, Bool, false, nat_eq, cond, List, [], ◌∷◌, ◌++◌, length, replicate, Option, Some, None}
use Rattle.std.specs.List.{list_any}
use Rattle.type_kinds.specs.declared.atom.Atom.{Atom}
use Rattle.core_ast.specs.declared.syntax.FunName.{FunName}
use Rattle.core_ast.specs.Model as m
use Rattle.core_scope.specs.Functions.{LabelledFunction, functions_of}
use Rattle.core_scope.specs.Names.{defined_names, has_function}
use Rattle.type_lattice.specs.Types.{Type4, none, any, is_none}
use Rattle.cons_tree.specs.declared.parts.Callee.{Callee}
use Rattle.cons_tree.specs.declared.parts.Callee.TheVariants.{Known, Local, Undefined, Unknown}
use Rattle.warn_list.specs.declared.finding.Finding.{Finding}
use Rattle.warn_list.specs.declared.finding.FindingKind.TheVariants.{NoReturn, NeverCalled}
use Rattle.module_flow_calls.specs.declared.node_context.NodeContext.{NodeContext}
use Rattle.module_flow_calls.specs.NodeContext.{under, at_node}
use Rattle.module_flow_calls.specs.Escapes.{escaping}
use Rattle.module_flow_walk.specs.Findings.{found_in_functions}
use Rattle.module_flow_calls.specs.Functions.{defined_labels}
use Rattle.module_flow_walk.specs.Contributions.{contributions_of_functions}
use Rattle.module_flow_state.specs.Scopes.{outermost}
use Rattle.module_flow_state.specs.States.{FlowState, parameters_of, takes, next_state, joined_rounds}
use Rattle.module_flow_calls.specs.Unknown.{unknown_functions}
use Rattle.module_flow_state.specs.World.{World}

-- what stands under each module and name
abbrev pub Callees : Type 0
Callees = Atom → FunName → Callee

-- ---- where it begins

-- the labels of the exported functions
abbrev pub exported_labels : List FunName → m.Defs → List ℕ
exported_labels exports m.no_def = []
exported_labels exports (m.and_def f i xs t ds) =
    cond (has_function exports f) (i.label ∷ exported_labels exports ds) (exported_labels exports ds)

abbrev pub has_label : List ℕ → ℕ → Bool
has_label ls l = list_any (nat_eq l) ls

-- the functions that anyone may enter: the exported ones, and those that stand as values
abbrev pub open_labels : m.Module → List ℕ
open_labels x = exported_labels x.exports x.defs ++ escaping x.defs

-- A function of this name begins entered with anything if it is open, and else not entered. It has no result yet.
abbrev pub begins_one : List ℕ → LabelledFunction → Option FunName → FlowState
begins_one escaping_labels f None = []
begins_one escaping_labels f (Some name) =
    record {
      label = f.label;
      name = name;
      params = cond (has_label escaping_labels f.label) (Some (replicate (length f.parameters) any)) None;
      result = none;
    } ∷ []

abbrev pub begins : List ℕ → List LabelledFunction → FlowState
begins escaping_labels [] = []
begins escaping_labels (f ∷ fs) = begins_one escaping_labels f f.name ++ begins escaping_labels fs

abbrev pub first_state : m.Module → FlowState
first_state x = begins (open_labels x) (functions_of x)

-- ---- what is reported of the functions themselves

-- whether the lenient signature says that a function gives nothing
abbrev pub gives_nothing : Callee → Bool
gives_nothing (Known summary) = is_none summary.lenient.result
gives_nothing (Local summary) = is_none summary.lenient.result
gives_nothing Undefined = false
gives_nothing Unknown = false

abbrev pub unless_entered : Option (List Type4) → List Finding → List Finding
unless_entered None found = found
unless_entered (Some ts) found = []

-- functions of the module that have no local return, and those that are never called
abbrev pub functions_reported : World → NodeContext → m.Defs → List Finding
functions_reported W a m.no_def = []
functions_reported W a (m.and_def f i xs t ds) =
    cond (gives_nothing (W.callee W.home f)) (at_node (under a i.note) i (NoReturn f)) []
    ++ unless_entered (parameters_of W.state i.label) (at_node (under a i.note) i (NeverCalled f))
    ++ functions_reported W a ds

-- ---- rounds

module _ (callees : Callees) (x : m.Module) where
  -- what a walk in this state knows
  abbrev pub world : FlowState → World
  world st =
      record { callee = callees; home = x.name; names = defined_names x.defs; labels = defined_labels x.defs; state = st }

  -- what a round makes of a state: its join with what a walk of every function that is entered gives
  abbrev pub made_of : FlowState → FlowState
  made_of st = takes st (contributions_of_functions (world st) outermost x.defs)

  abbrev pub after_rounds : ℕ → FlowState
  after_rounds zero = first_state x
  after_rounds (suc k) = next_state k (after_rounds k) (made_of (after_rounds k))

  -- After this many rounds nothing changes: each round behind the first 12 that changes anything widens the parameters or the
  -- result of a function for good.
  abbrev pub last_round : ℕ
  last_round = joined_rounds + (length (first_state x) + length (first_state x))

  abbrev pub last_state : FlowState
  last_state = after_rounds last_round

  -- ---- the report

  abbrev pub around_module : NodeContext
  around_module = under (record { quiet = false; line = None }) x.note

  -- what is found in a state: of the functions, by its walk, and of unknown names
  abbrev pub findings_in : FlowState → List Finding
  findings_in st =
      functions_reported (world st) around_module x.defs
      ++ found_in_functions (world st) around_module outermost x.defs
      ++ unknown_functions callees around_module x.defs

  abbrev pub findings : List Finding
  findings = findings_in last_state
