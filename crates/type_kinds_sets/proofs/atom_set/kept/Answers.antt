use Rattle.std.proofs.Common.{arith}
use Rattle.std.proofs.lemmas.Grind.{common_steps}
use Rattle.type_kinds_sets.proofs.atom_set.kept.Goals as goal

pub loop-atom-preserved : goal.loop-atom-preserved
loop-atom-preserved c = grind (arith, common_steps)
