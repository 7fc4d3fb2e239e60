use Rattle.type_lattice_model.proofs.MadeLaws.{tuple-normal, tuple-above, tuple-least, project-in}
use Rattle.type_lattice_model.proofs.ProductLaws.{tuple-only, tuple-exact}
use Rattle.type_lattice_model.proofs.ElementLaws.{project-least}
use Rattle.type_lattice_model.proofs.laws.tuple_laws.Goals as goal

pub returns : goal.returns
returns c = assumption (tuple-normal, tuple-above, tuple-least, project-in, tuple-only, tuple-exact, project-least)
