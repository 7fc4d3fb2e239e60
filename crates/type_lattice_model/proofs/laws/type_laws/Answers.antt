use Rattle.type_lattice_model.proofs.LevelLaws.{level_laws}
use Rattle.type_lattice_model.proofs.laws.type_laws.Goals as goal

pub returns : goal.returns
returns c = level_laws
