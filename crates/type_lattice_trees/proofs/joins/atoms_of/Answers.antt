use Rattle.type_lattice_trees.proofs.JoinLaws.{atoms_value}
use Rattle.type_lattice_trees.proofs.joins.atoms_of.Goals as goal

pub returns-clause-value : goal.returns-clause-value
returns-clause-value c =
    atoms_value c.plain_alone.result c.in_ok-tag_atoms.field-0 c.of_atoms.result c.args.tags.now c.of_atoms.ensures c.plain_alone.ensures.value c.in_ok-tag_atoms.ensures
