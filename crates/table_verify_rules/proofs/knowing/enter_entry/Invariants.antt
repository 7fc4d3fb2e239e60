use Rattle.std.proofs.Common.{◌≡◌, ◌≤◌, drop, length}
use Rattle.core_scope.specs.Checked.{tree_of}
use Rattle.cons_tree.specs.Callees.{found}
use Rattle.table_verify_rules.specs.steps.Knowing.{with_listed}
use Rattle.table_verify_rules.proofs.knowing.enter_entry.Given as goal

abbrev pub invariant-loop-at : goal.invariant-loop-at
invariant-loop-at l =
    (l.at ≤ length l.entry.exports)
    × (found l.known ≡ with_listed (tree_of l.source.checked).name (tree_of l.source.checked).exports (drop l.at l.entry.exports) (found l.fn.known))

abbrev pub decreases-loop-at : goal.decreases-loop-at
decreases-loop-at l = l.at
