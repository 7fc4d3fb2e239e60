use Rattle.type_lattice.proofs.TypeModels.{fits_up, view_up}
use Rattle.type_lattice.proofs.elements.with_element.Goals as goal

pub join-requires-clause-b : goal.join-requires-clause-b
join-requires-clause-b c = fits_up _ c.requires.element

pub returns-clause-value : goal.returns-clause-value
returns-clause-value c = rw (← view_up _ c.requires.element) c.join.ensures.value
