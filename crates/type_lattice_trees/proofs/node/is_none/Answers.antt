use Rattle.type_lattice_trees.proofs.Views.{of_has}
use Rattle.type_lattice_trees.proofs.node.is_none.Goals as goal

pub returns-in-Of : goal.returns-in-Of
returns-in-Of c = of_has _ _ _ c.in-Of.is c.has_no_part.ensures
