use Rattle.std.proofs.Common.{◌≡◌, ◌++◌}
use Rattle.table_keep.proofs.Leaving.{others}
use Rattle.table_keep.proofs.calls.add_leaving.Given as goal

abbrev pub invariant-loop-call : goal.invariant-loop-call
invariant-loop-call l = l.leaving ≡ l.fn.leaving ++ others l.own l.yielded
