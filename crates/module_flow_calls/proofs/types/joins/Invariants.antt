use Rattle.std.proofs.Common.{◌≡◌, ◌++◌, drop}
use Rattle.module_flow_calls.specs.TypeLists.{joins}
use Rattle.module_flow_calls.proofs.types.joins.Given as goal

abbrev pub invariant-loop-at : goal.invariant-loop-at
invariant-loop-at l = l.list ++ joins (drop l.at l.left) (drop l.at l.right) ≡ joins l.left l.right
