use Rattle.std.proofs.Common.{arith}
use Rattle.type_kinds_sets.proofs.bits.Bits.leq.Goals as goal

pub returns-in-No-other : goal.returns-in-No-other
returns-in-No-other c = (grind arith, λ f. grind (arith, f 0))

pub returns-in-No-other-2 : goal.returns-in-No-other-2
returns-in-No-other-2 c = (grind arith, λ f. grind (arith, f 0))

pub returns-in-Whole-other-2 : goal.returns-in-Whole-other-2
returns-in-Whole-other-2 c = (grind arith, λ f. grind (arith, f 1))
