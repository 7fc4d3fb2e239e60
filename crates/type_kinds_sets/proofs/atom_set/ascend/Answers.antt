use Rattle.std.proofs.Common.{◌-◌, ◌+◌, arith}
use Rattle.type_kinds.proofs.Truths.{not_under}
use Rattle.type_kinds_sets.proofs.AscendingLaws.{ascending-more, not_ascending}
use Rattle.type_kinds_sets.proofs.NameLaws.{name_total, name_same}
use Rattle.type_kinds_sets.proofs.atom_set.ascend.Goals as goal

pub returns-then-ge : goal.returns-then-ge
returns-then-ge c = grind (arith, not_under, not_ascending name_total name_same c.args.atoms.now (c.loop-at.at - 1) c.loop-at.at c.index-atoms-at.result c.index-atoms-at-in-loop-at.result)

pub loop-at-preserved : goal.loop-at-preserved
loop-at-preserved c = grind (arith, not_under, ascending-more name_total name_same c.args.atoms.now (c.loop-at.at - 1) c.loop-at.at (c.loop-at.at + 1) c.index-atoms-at.result c.index-atoms-at-in-loop-at.result)
