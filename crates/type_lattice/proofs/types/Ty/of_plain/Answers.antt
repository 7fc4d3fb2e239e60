use Rattle.std.proofs.Common.{◌∙◌}
use Rattle.type_lattice.proofs.types.Ty.of_plain.Goals as goal

pub of_node-requires : goal.of_node-requires
of_node-requires c = c.plain_alone.ensures.fits 3

pub returns : goal.returns
returns c = c.of_node.ensures ∙ c.plain_alone.ensures.value 3
