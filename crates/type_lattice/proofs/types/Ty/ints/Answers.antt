use Rattle.std.proofs.Common.{refl, arith}
use Rattle.type_lattice.specs.Types.{same_type, of_ints}
use Rattle.type_lattice.proofs.KindModels.{ints_only}
use Rattle.type_lattice.proofs.types.Ty.ints.Goals as goal

pub returns : goal.returns
unfolding of_ints
returns c = rw (same_type c.of_plain-2.result (of_ints c.args.set) (grind arith)) (record { value = refl; only = ints_only c.args.set })
