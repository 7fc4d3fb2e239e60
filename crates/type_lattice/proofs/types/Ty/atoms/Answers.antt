use Rattle.std.proofs.Common.{refl}
use Rattle.type_lattice.specs.Types.{same_type, of_atoms}
use Rattle.type_lattice.proofs.KindModels.{atoms_only}
use Rattle.type_lattice.proofs.types.Ty.atoms.Goals as goal

pub returns : goal.returns
unfolding of_atoms
returns c =
    let e = same_type c.of_plain.result (of_atoms c.args.set) (rw c.of_atoms.ensures at c.of_plain.ensures) in
    rw e (record { value = refl; only = atoms_only c.args.set })
