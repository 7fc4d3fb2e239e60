use Rattle.type_lattice.proofs.TypeLaws.{laws}
use Rattle.type_lattice.proofs.laws.element_laws.Goals as goal

pub returns : goal.returns
returns c = assumption laws
