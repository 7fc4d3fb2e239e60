use Rattle.std.proofs.Common.{◌≡◌, ◌++◌}
use Rattle.module_flow_state.specs.steps.Walking.{with_types}
use Rattle.module_flow_state.proofs.walk.FlowWalk.add_types.Given as goal

abbrev pub invariant-loop-ty : goal.invariant-loop-ty
invariant-loop-ty l = l.self ≡ with_types l.fn.self (l.fn.self.types ++ l.yielded)
