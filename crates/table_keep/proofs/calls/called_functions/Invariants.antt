use Rattle.std.proofs.Common.{◌≡◌}
use Rattle.std.specs.List.{flat_map}
use Rattle.table_keep.proofs.Leaving.{others}
use Rattle.table_keep.proofs.calls.called_functions.Given as goal

abbrev pub invariant-loop-calls : goal.invariant-loop-calls
invariant-loop-calls l = l.leaving ≡ flat_map (others l.own) l.yielded
