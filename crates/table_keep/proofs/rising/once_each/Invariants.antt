use Rattle.std.proofs.Common.{◌≡◌, []}
use Rattle.type_kinds_sets.specs.Ascending.{merged}
use Rattle.table_keep.proofs.rising.once_each.Given as goal

abbrev pub invariant-loop-item : goal.invariant-loop-item
invariant-loop-item g l = l.list ≡ merged g.T.InOrder.order [] l.yielded
