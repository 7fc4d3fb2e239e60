use Rattle.std.proofs.Common.{refl, ◌∙◌}
use Rattle.type_lattice_trees.specs.declared.node.Node.TheVariants as v
use Rattle.type_lattice_trees.proofs.Views.{view_any}
use Rattle.type_lattice.specs.Types.{same_type, any}
use Rattle.type_lattice.proofs.TypeLaws.{laws}
use Rattle.type_lattice.proofs.types.Ty.any.Goals as goal

pub returns : goal.returns
unfolding any
returns c =
    rw (same_type c.of_node.result any (c.of_node.ensures ∙ view_any v.Any refl 4)) (record { value = refl; every = laws.any-every })
