use Rattle.std.proofs.Common.{◌≡◌, ◌++◌, take}
use Rattle.module_flow.proofs.visits.add_labels.Given as goal

abbrev pub invariant-loop-label : goal.invariant-loop-label
invariant-loop-label l = l.labels ≡ l.fn.labels ++ take l.label-index l.more
