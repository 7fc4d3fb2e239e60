use Rattle.std.proofs.Common.{◌≡◌, ◌++◌, drop}
use Rattle.module_flow_state.specs.steps.Kept.{functions_given}
use Rattle.module_flow_state.proofs.states.FlowStates.functions_given.Given as goal

abbrev pub invariant-loop-contribution : goal.invariant-loop-contribution
invariant-loop-contribution l = l.list ++ functions_given l.self (drop l.contribution-index l.contributions) ≡ functions_given l.self l.contributions
