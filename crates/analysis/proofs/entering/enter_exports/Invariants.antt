use Rattle.std.proofs.Common.{◌≡◌, ◌≤◌, length, drop}
use Rattle.cons_tree.specs.Callees.{found}
use Rattle.analysis.specs.steps.Entering.{with_exports}
use Rattle.analysis.proofs.entering.enter_exports.Given as goal

abbrev pub decreases-loop-left : goal.decreases-loop-left
decreases-loop-left l = l.left

abbrev pub invariant-loop-left : goal.invariant-loop-left
invariant-loop-left l = record {
  low : l.left ≤ length l.exports;
  known : found l.known ≡ with_exports (found l.fn.known) l.home (drop l.left l.exports);
}
