use Rattle.std.proofs.Common.{arith}
use Rattle.type_kinds_sets.proofs.IntKinds.{steps}
use Rattle.type_kinds_sets.proofs.int_set.highest.Goals as goal

pub loop-n-preserved : goal.loop-n-preserved
loop-n-preserved c = grind (arith, steps)
