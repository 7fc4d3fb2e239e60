use Rattle.std.proofs.Common.{arith}
use Rattle.type_kinds_sets.proofs.IntKinds.{steps}
use Rattle.type_kinds_sets.proofs.int_set.all_narrow.Goals as goal

pub loop-n-preserved : goal.loop-n-preserved
loop-n-preserved c = let h = c.if-not-can_hold.ensures in grind (arith, steps)
