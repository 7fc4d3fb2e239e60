use Rattle.std.proofs.Common.{◌≡◌, ◌+◌, ◌-◌, ◌++◌, None, replicate}
use Rattle.module_flow_state.specs.Scopes.{argument_slots}
use Rattle.module_flow_state.proofs.walk.FlowWalk.own_slots.Given as goal

abbrev pub invariant-loop-position : goal.invariant-loop-position
invariant-loop-position l = l.slots ++ argument_slots l.self.scope.variables (l.next + l.position) (replicate (l.count - l.position) None) ≡ argument_slots l.self.scope.variables l.next (replicate l.count None)
