use Rattle.std.proofs.Common.{refl}
use Rattle.type_lattice_model.specs.Operations.{ops}
use Rattle.type_lattice.specs.Types.{same_type, none}
use Rattle.type_lattice.proofs.TypeLaws.{laws}
use Rattle.type_lattice.proofs.types.Ty.none.Goals as goal

pub returns : goal.returns
unfolding none ops
returns c =
    rw (same_type c.of_plain.result none (rw c.none.ensures at c.of_plain.ensures)) (record { value = refl; empty = laws.none-empty })
