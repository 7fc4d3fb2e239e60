use Rattle.std.proofs.Common.{◌≡◌, ◌+◌, drop}
use Rattle.cons_gen_rows.specs.Scopes.{bindings}
use Rattle.module_flow_state.specs.steps.Walking.{with_bindings}
use Rattle.module_flow_state.proofs.walk.FlowWalk.bind.Given as goal

abbrev pub invariant-loop-position : goal.invariant-loop-position
invariant-loop-position l = with_bindings l.self (bindings (drop l.position l.vars) (l.first + l.position)) ≡ with_bindings l.fn.self (bindings l.vars l.first)
