use Rattle.std.proofs.Common.{◌-◌, ◌+◌, pos, arith}
use Rattle.std.proofs.lemmas.Int.{to_z-of_z}
use Rattle.std.specs.Cmp.{int_cmp_total}
use Rattle.std.specs.FinSet.{int_cmp-IsAntisymmetric}
use Rattle.type_kinds_sets.proofs.AscendingLaws.{ascending-more, not_ascending}
use Rattle.type_kinds_sets.proofs.IntKinds.{int_under}
use Rattle.type_kinds_sets.proofs.int_set.ascend.Goals as goal

pub returns-then-numbers-at : goal.returns-then-numbers-at
returns-then-numbers-at c = grind (arith, to_z-of_z, int_under, not_ascending int_cmp_total int_cmp-IsAntisymmetric c.args.numbers.now (c.loop-at.at - 1) c.loop-at.at (pos 0) (pos 0))

pub loop-at-preserved : goal.loop-at-preserved
loop-at-preserved c = grind (arith, to_z-of_z, int_under, ascending-more int_cmp_total int_cmp-IsAntisymmetric c.args.numbers.now (c.loop-at.at - 1) c.loop-at.at (c.loop-at.at + 1) (pos 0) (pos 0))
