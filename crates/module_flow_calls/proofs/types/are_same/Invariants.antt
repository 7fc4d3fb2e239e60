use Rattle.std.proofs.Common.{◌≡◌, drop}
use Rattle.module_flow_calls.specs.TypeLists.{are_same}
use Rattle.module_flow_calls.proofs.types.are_same.Given as goal

abbrev pub invariant-loop-at : goal.invariant-loop-at
invariant-loop-at l = are_same (drop l.at l.left) (drop l.at l.right) ≡ are_same l.left l.right
