use Rattle.std.proofs.Common.{arith}
use Rattle.type_kinds_sets.proofs.IntKinds.{steps}
use Rattle.type_kinds_sets.proofs.int_set.both.Goals as goal

pub returns-then-not-put-clause-none : goal.returns-then-not-put-clause-none
returns-then-not-put-clause-none c = grind (arith, steps)

pub loop-n-preserved : goal.loop-n-preserved
loop-n-preserved c = grind (arith, steps)
