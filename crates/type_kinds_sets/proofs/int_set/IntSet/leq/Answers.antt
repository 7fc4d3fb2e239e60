use Rattle.std.proofs.Common.{arith, false}
use Rattle.type_kinds_sets.proofs.IntKinds.{kinds}
use Rattle.type_kinds_sets.proofs.NumberLaws.{below-is}
use Rattle.type_kinds_sets.proofs.int_set.IntSet.leq.Goals as goal

pub returns-in-Listed : goal.returns-in-Listed
returns-in-Listed c = below-is c.args.self.now c.args.other.now c.all_in.result (grind (arith, kinds))

pub returns-in-Listed-kind : goal.returns-in-Listed-kind
returns-in-Listed-kind c = below-is c.args.self.now c.args.other.now false (grind (arith, kinds))

pub returns-then-holds : goal.returns-then-holds
returns-then-holds c = below-is c.args.self.now c.args.other.now c.holds-then-holds.result (grind (arith, kinds))

pub returns-else-holds : goal.returns-else-holds
returns-else-holds c = below-is c.args.self.now c.args.other.now c.holds.result (grind (arith, kinds))
