use Rattle.std.proofs.Common.{◌≡◌, ◌++◌, drop}
use Rattle.module_flow_state.specs.steps.Reading.{labels_named}
use Rattle.module_flow.proofs.visits.labels_named.Given as goal

abbrev pub invariant-loop-function : goal.invariant-loop-function
invariant-loop-function l = l.labels ++ labels_named (drop l.function-index l.functions) ≡ labels_named l.functions
