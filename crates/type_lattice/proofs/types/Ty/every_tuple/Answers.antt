use Rattle.std.proofs.Common.{◌∙◌}
use Rattle.type_lattice.specs.Types.{same_type, every_tuple}
use Rattle.type_lattice.proofs.types.Ty.every_tuple.Goals as goal

pub of_node-requires : goal.of_node-requires
of_node-requires c = c.every_tuple.ensures.fits 3

pub returns : goal.returns
unfolding every_tuple
returns c = same_type _ _ (c.of_node.ensures ∙ c.every_tuple.ensures.value 3)
