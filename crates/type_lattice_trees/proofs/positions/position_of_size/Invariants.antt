use Rattle.std.specs.Ordering.{nat_cmp}
use Rattle.type_lattice_trees.proofs.PositionLaws.{number_of, Behind}
use Rattle.type_lattice_trees.proofs.positions.position_of_size.Given as goal

-- the size comes after those so far
abbrev pub invariant-loop-at : goal.invariant-loop-at
invariant-loop-at l = Behind nat_cmp number_of l.size l.sizes l.at
