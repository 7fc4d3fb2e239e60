use Rattle.std.proofs.Common.{◌≡◌, drop}
use Rattle.module_flow_state.specs.steps.Kept.{widens}
use Rattle.module_flow_state.proofs.states.FlowStates.widen_all.Given as goal

abbrev pub invariant-loop-old : goal.invariant-loop-old
invariant-loop-old l = widens l.self (drop l.old-index l.before) ≡ widens l.fn.self l.before
