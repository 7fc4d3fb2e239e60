use Rattle.type_lattice_model.proofs.ElementLaws.{elements-normal, elements-have, elements-least, elements-more}
use Rattle.type_lattice_model.proofs.laws.element_laws.Goals as goal

pub returns : goal.returns
returns c = assumption (elements-normal, elements-have, elements-least, elements-more)
