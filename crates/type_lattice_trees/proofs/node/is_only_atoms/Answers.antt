use Rattle.std.proofs.Common.{sym, ◌∙◌}
use Rattle.type_lattice_trees.proofs.Nodes.{only_atoms_then}
use Rattle.type_lattice_trees.proofs.node.is_only_atoms.Goals as goal

pub returns-in-Sizes : goal.returns-in-Sizes
returns-in-Sizes c = only_atoms_then c.args.parts.now _ _ (sym c.is_atoms.ensures ∙ c.if-not-is_atoms.false) (sym c.is_some.ensures ∙ c.if-is_some.false) c.in-Sizes.is c.is_empty.ensures
