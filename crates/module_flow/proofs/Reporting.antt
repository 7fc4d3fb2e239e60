-- What walks of several functions have noted, one after another.
use Rattle.std.proofs.Common.{◌≡◌, Bool, true, cond, List, [], ◌++◌}
use Rattle.core_ast.specs.declared.syntax.Expr.{Expr}
use Rattle.core_ast.specs.declared.syntax.FunDefOf.{FunDefOf}
use Rattle.core_ast.specs.Tree.{all_defs}
use Rattle.module_flow_calls.specs.declared.node_context.NodeContext.{NodeContext}
use Rattle.module_flow_state.specs.declared.walk.FlowWalk.{FlowWalk}
use Rattle.module_flow_walk.specs.Findings.{found_in_functions}
use Rattle.module_flow.specs.Flow.{functions_reported}
use Rattle.module_flow_walk.specs.Contributions.{contributions_of_functions}
use Rattle.module_flow_state.specs.Scopes.{outermost}
use Rattle.module_flow_state.specs.World.{World}
use Rattle.module_flow_state.specs.steps.Walking.{walk_scope_of}

-- the walk has noted what all these functions give but those that are left
pub record WalkedTo (W : World) (a : NodeContext) (reporting : Bool) (all left : List (FunDefOf Expr)) (w : FlowWalk) : Type 0 where
  pub walk_scope : walk_scope_of w ≡ outermost
  pub notes : w.reporting ≡ reporting
  pub contributions : w.contributions ++ contributions_of_functions W outermost (all_defs left) ≡ contributions_of_functions W outermost (all_defs all)
  pub found : w.found ++ cond reporting (found_in_functions W a outermost (all_defs left)) [] ≡ cond reporting (found_in_functions W a outermost (all_defs all)) []

-- and what is reported of all these functions by themselves but those that are left
pub record ReportedTo (W : World) (a : NodeContext) (all left : List (FunDefOf Expr)) (w : FlowWalk) : Type 0 where
  pub notes : w.reporting ≡ true
  pub found : w.found ++ functions_reported W a (all_defs left) ≡ functions_reported W a (all_defs all)
