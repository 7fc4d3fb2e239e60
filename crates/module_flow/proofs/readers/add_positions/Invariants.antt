use Rattle.std.proofs.Common.{◌≡◌, ◌++◌, take}
use Rattle.module_flow.proofs.readers.add_positions.Given as goal

abbrev pub invariant-loop-position : goal.invariant-loop-position
invariant-loop-position l = l.positions ≡ l.fn.positions ++ take l.position-index l.more
