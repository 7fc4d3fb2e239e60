use Rattle.std.proofs.Common.{◌≡◌, drop}
use Rattle.core_ast.specs.Tree.{all_defs}
use Rattle.module_flow_state.specs.Scopes.{with_functions}
use Rattle.module_flow_state.specs.steps.Walking.{seeing, walk_scope_of}
use Rattle.module_flow_state.proofs.walk.FlowWalk.define.Given as goal

abbrev pub invariant-loop-def : goal.invariant-loop-def
invariant-loop-def l = seeing l.self (with_functions (walk_scope_of l.self) (all_defs (drop l.def-index l.defs))) ≡ seeing l.fn.self (with_functions (walk_scope_of l.fn.self) (all_defs l.defs))
