use Rattle.std.proofs.Common.{arith}
use Rattle.type_kinds_sets.proofs.IntKinds.{steps}
use Rattle.type_kinds_sets.proofs.int_set.all_in.Goals as goal

pub loop-n-preserved : goal.loop-n-preserved
loop-n-preserved c = let h = c.if-not-contains.ensures in grind (arith, steps)
