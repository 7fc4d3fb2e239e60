use Rattle.std.proofs.Common.{◌≡◌, ◌++◌, drop}
use Rattle.module_flow_state.specs.steps.Reading.{labels_given}
use Rattle.module_flow.proofs.visits.labels_given.Given as goal

abbrev pub invariant-loop-contribution : goal.invariant-loop-contribution
invariant-loop-contribution l = l.labels ++ labels_given (drop l.contribution-index l.contributions) ≡ labels_given l.contributions
