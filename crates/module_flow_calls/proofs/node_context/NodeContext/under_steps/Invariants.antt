use Rattle.std.proofs.Common.{◌≡◌, drop}
use Rattle.core_ast.specs.Tree.{all_steps}
use Rattle.module_flow_calls.specs.NodeContext.{under_steps}
use Rattle.module_flow_calls.proofs.node_context.NodeContext.under_steps.Given as goal

abbrev pub invariant-loop-step : goal.invariant-loop-step
invariant-loop-step l = under_steps l.inner (all_steps (drop l.step-index l.steps)) ≡ under_steps l.fn.self (all_steps l.steps)
