-- What the laws rest on: facts of texts and of last states, each the clause of a law of a crate below.
use Rattle.std.specs.Prelude.{◌≡◌, ℕ, [], Some, replicate}
use Rattle.core_ast.specs.declared.syntax.Mark.{Mark}
use Rattle.core_ast.specs.Model as m
use Rattle.core_scope.specs.Checked.{tree_of}
use Rattle.core_scope.specs.Functions.{functions_of, function_labels}
use Rattle.core_scope.specs.Labels.{labels_of}
use Rattle.core_scope.specs.Names.{Distinct, Scope, defined_names}
use Rattle.core_scope.specs.Places.{Piece, StandsInModule, HaveArity, piece_breaks}
use Rattle.core_scope.specs.Places.Piece.{expression}
use Rattle.core_scope.specs.declared.ask.Ask.{Ask}
use Rattle.core_scope.specs.declared.checked.Checked.{Checked}
use Rattle.type_lattice.specs.Types.{any}
use Rattle.core_meaning.specs.Programs.{Program, HasModule, AreAtLabels}
use Rattle.module_flow.specs.Flow.{Callees, first_state, last_state, world}
use Rattle.module_flow_walk.specs.Contributions.{contributions_of_functions}
use Rattle.module_flow_state.specs.Scopes.{outermost}
use Rattle.module_flow_state.specs.Settled as flow
use Rattle.module_flow_state.specs.Settled.{AreCounted, GiveCounted, AreWhollyTaken}
use Rattle.module_flow_state.specs.States.{FlowState, parameters_of}

-- what is known of accepted modules, each a clause of a law of `core_scope` or of `core_meaning`
pub record TextFacts : Type 0 where
  pub once : (c : Checked) → Distinct (defined_names (tree_of c).defs)
  pub labels : (c : Checked) → Distinct (labels_of (tree_of c))
  pub functions : (c : Checked) → Distinct (function_labels (functions_of (tree_of c)))
  pub unbroken : (c : Checked) (p : Piece) → StandsInModule (tree_of c) p → piece_breaks p ≡ []
  pub arities : (c : Checked) (s : Scope) (k : Ask) (i : Mark) (ds : m.Defs) (t : m.Tree) → StandsInModule (tree_of c) (expression s k (m.letrec i ds t)) → HaveArity ds
  pub top_arities : (c : Checked) → HaveArity (tree_of c).defs
  pub letrecs : (c : Checked) (U : Program) (s : Scope) (k : Ask) (i : Mark) (ds : m.Defs) (t : m.Tree) → HasModule U (tree_of c) → StandsInModule (tree_of c) (expression s k (m.letrec i ds t)) → AreAtLabels U (tree_of c).name ds
  pub definitions : (c : Checked) (U : Program) → HasModule U (tree_of c) → AreAtLabels U (tree_of c).name (tree_of c).defs

-- what is known of last states, each a clause of a law of `module_flow`
pub record LastFacts : Type 0 where
  pub labels : (callees : Callees) (x : m.Module) → flow.labels_of (last_state callees x) ≡ flow.labels_of (first_state x)
  pub wholly : (callees : Callees) (x : m.Module) (number : ℕ → ℕ) → AreCounted number (first_state x) → ((st : FlowState) → GiveCounted number (contributions_of_functions (world callees x st) outermost x.defs))
      → AreWhollyTaken (last_state callees x) (contributions_of_functions (world callees x (last_state callees x)) outermost x.defs)
  pub opens : (callees : Callees) (x : m.Module) (number : ℕ → ℕ) → AreCounted number (first_state x) → ((st : FlowState) → GiveCounted number (contributions_of_functions (world callees x st) outermost x.defs)) → (l : ℕ)
      → parameters_of (first_state x) l ≡ Some (replicate (number l) any) → parameters_of (last_state callees x) l ≡ Some (replicate (number l) any)
