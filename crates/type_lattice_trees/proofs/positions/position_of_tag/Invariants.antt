use Rattle.type_kinds_sets.specs.Names.{name_cmp}
use Rattle.type_lattice_trees.proofs.PositionLaws.{atom_of, Behind}
use Rattle.type_lattice_trees.proofs.positions.position_of_tag.Given as goal

-- the atom comes after those so far
abbrev pub invariant-loop-at : goal.invariant-loop-at
invariant-loop-at l = Behind name_cmp atom_of l.atom l.tags l.at
