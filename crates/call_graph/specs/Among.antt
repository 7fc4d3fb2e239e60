-- Which of some functions call which, where each is found by its module's name and its own.
use Rattle.std.specs.Prelude.{◌≡◌, ◌≢◌, ℕ, ◌<◌, Some, List, [], Contains, map, slice_get}
use Rattle.type_kinds.specs.declared.atom.Atom.{Atom}
use Rattle.core_ast.specs.declared.syntax.Expr.{Expr}
use Rattle.core_ast.specs.declared.syntax.FunDefOf.{FunDefOf}
use Rattle.core_ast.specs.declared.syntax.FunName.{FunName}
use Rattle.core_ast.specs.Tree.{tree}
use Rattle.core_scope.specs.Asks.{erlang}
use Rattle.call_graph.specs.Outside.{Called}
use Rattle.call_graph.specs.Targets.{CallTarget, targets}
use Rattle.call_graph.specs.Targets.CallTarget.{defined, inner, remote}

-- A function: its module's name, and its definition.
abbrev pub Placed : Type 0
Placed = Atom × FunDefOf Expr

-- The names by which it is called.
abbrev pub name_of : Placed → Called
name_of f = (f.0, f.1.name)

abbrev pub body_targets : Placed → List CallTarget
body_targets f = targets [] (tree f.1.fun.body)

-- The last of some names that is this one stands at this position.
pub record IsLast (names : List Called) (j : ℕ) (home : Atom) (name : FunName) : Type 0 where
  pub here : slice_get names j ≡ Some (home, name)
  pub last : (k : ℕ) → j < k → slice_get names k ≡ Some (home, name) → ⊥

-- A target in a body of this module goes to the function at this position: of those that have its name, to the last. A call into
-- `erlang` goes to none.
abbrev pub GoesToLast : List Called → (home : Atom) → CallTarget → ℕ → Type 0
GoesToLast names home (defined f n) j = IsLast names j home f
GoesToLast names home (inner f n) j = ⊥
GoesToLast names home (remote h f) j = (h ≢ erlang) × IsLast names j h f

-- The function at one position calls the one at another.
pub record CallsLast (fs : List Placed) (i j : ℕ) : Type 0 where
  pub caller : Placed
  pub stands : slice_get fs i ≡ Some caller
  pub target : CallTarget
  pub called : Contains (body_targets caller) target
  pub goes : GoesToLast (map name_of fs) caller.0 target j
