use Rattle.std.proofs.Common.{arith}
use Rattle.type_lattice.proofs.TypeLaws.{laws}
use Rattle.type_lattice.proofs.laws.type_laws.Goals as goal

pub returns : goal.returns
returns c = grind (arith, laws)
