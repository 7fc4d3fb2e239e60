use Rattle.std.proofs.Common.{arith}
use Rattle.type_kinds_sets.proofs.AtomKinds.{ones}
use Rattle.type_kinds_sets.proofs.atom_set.AtomSet.one.Goals as goal

pub returns-clause-only : goal.returns-clause-only
returns-clause-only c = grind (arith, ones)
