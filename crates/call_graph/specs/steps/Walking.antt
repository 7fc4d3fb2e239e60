-- The walk through a body: the numbers of the functions that it calls, and the calls that go to none.
use Rattle.std.specs.Prelude.{◌≡◌, ℕ, ◌+◌, ◌⊎◌, Option, Some, None, List, [], ◌∷◌, ◌++◌, Contains}
use Rattle.type_kinds.specs.declared.atom.Atom.{Atom}
use Rattle.core_ast.specs.declared.syntax.FunName.{FunName}
use Rattle.core_ast.specs.declared.syntax.Expr.{Expr}
use Rattle.core_ast.specs.declared.syntax.StepOf.{StepOf}
use Rattle.core_ast.specs.declared.syntax.StepOf.TheVariants.{Let, Do}
use Rattle.call_graph.specs.declared.table.FunctionTable.{FunctionTable}
use Rattle.call_graph.specs.declared.table.Resolved.{Resolved}
use Rattle.call_graph.specs.declared.table.Resolved.TheVariants.{BuiltIn, NotPassed, NotExported, Function}
use Rattle.call_graph.specs.declared.walk.CallWalk.{CallWalk}
use Rattle.call_graph.specs.Targets.{CallTarget, targets}
use Rattle.call_graph.specs.Targets.CallTarget.{defined, inner, remote}
use Rattle.call_graph.specs.Calls.{ModuleFunction}
use Rattle.call_graph.specs.Outside.{Called}
use Rattle.call_graph.specs.Tables.{own_number, resolved}

abbrev pub reached_number : Resolved → List ℕ
reached_number BuiltIn = []
reached_number NotPassed = []
reached_number NotExported = []
reached_number (Function j) = j ∷ []

abbrev pub listed : Option ℕ → List ℕ
listed None = []
listed (Some j) = j ∷ []

-- The function that a target in a body of this module is.
abbrev pub callee : FunctionTable → (home : Atom) → CallTarget → List ℕ
callee table home (defined f n) = listed (own_number table home f)
callee table home (inner f n) = []
callee table home (remote other f) = reached_number (resolved table other f)

abbrev pub callees : FunctionTable → (home : Atom) → List CallTarget → List ℕ
callees table home [] = []
callees table home (t ∷ ts) = callee table home t ++ callees table home ts

-- A call that reaches this, if that is no function.
abbrev pub unreached : Called → Resolved → List Called
unreached c BuiltIn = []
unreached c NotPassed = c ∷ []
unreached c NotExported = c ∷ []
unreached c (Function j) = []

-- The target, if it is a call that goes to no function.
abbrev pub missed : FunctionTable → CallTarget → List Called
missed table (defined f n) = []
missed table (inner f n) = []
missed table (remote home f) = unreached (home, f) (resolved table home f)

abbrev pub all_missed : FunctionTable → List CallTarget → List Called
all_missed table [] = []
all_missed table (t ∷ ts) = missed table t ++ all_missed table ts

-- The state after these targets were met.
abbrev pub noting : CallWalk → List CallTarget → CallWalk
noting w ts = record w { callees = w.callees ++ callees w.table w.home ts; outside = w.outside ++ all_missed w.table ts }

-- The state inside a `letrec` of these functions.
abbrev pub defining : CallWalk → List FunName → CallWalk
defining w fs = record w { locals = w.locals ++ fs }

-- The expression of a step.
abbrev pub step_expression : StepOf Expr → Expr
step_expression (Let k xs e) = e
step_expression (Do k e) = e

-- ---- pairs

-- The functions that a function calls, by number.
abbrev pub callees_in : FunctionTable → ModuleFunction → List ℕ
callees_in table f = callees table f.home (targets [] f.body)

-- The calls of a function that go to none.
abbrev pub missed_in : FunctionTable → ModuleFunction → List Called
missed_in table f = all_missed table (targets [] f.body)

-- Among functions that are numbered from here on, that of number i calls that of number j.
abbrev pub PairsFrom : FunctionTable → ℕ → List ModuleFunction → ℕ → ℕ → Type 0
PairsFrom table n [] i j = ⊥
PairsFrom table n (f ∷ fs) i j = ((i ≡ n) × Contains (callees_in table f) j) ⊎ PairsFrom table (n + 1) fs i j
