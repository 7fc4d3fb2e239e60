use Rattle.std.proofs.Common.{arith}
use Rattle.type_kinds_sets.proofs.IntKinds.{kinds}
use Rattle.type_kinds_sets.proofs.int_set.IntSet.contains.Goals as goal

pub returns-in-Listed : goal.returns-in-Listed
returns-in-Listed c = grind (arith, kinds)

pub returns-then-admits : goal.returns-then-admits
returns-then-admits c = grind (arith, kinds)

pub returns-else-admits : goal.returns-else-admits
returns-else-admits c = grind (arith, kinds)
