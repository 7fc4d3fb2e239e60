use Rattle.type_lattice_trees.proofs.Views.{fits_normal}
use Rattle.type_lattice.proofs.types.Ty.of_node.Goals as goal

pub invariant_of-result : goal.invariant_of-result
invariant_of-result c = record { normal = fits_normal 4 c.args.node c.requires }
