use Rattle.std.proofs.Common.{arith}
use Rattle.type_lattice.proofs.ListOrder.{types_more}
use Rattle.type_lattice.proofs.TypeLaws.{laws}
use Rattle.type_lattice.proofs.MonotoneLaws.{cons_more}
use Rattle.type_lattice.proofs.laws.monotone_laws.Goals as goal

pub returns : goal.returns
returns c = grind (arith, laws, types_more, cons_more)
