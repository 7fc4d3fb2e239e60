use Rattle.type_lattice_trees.proofs.Projections.{JoinedSoFar}
use Rattle.type_lattice_trees.proofs.joins.element_of_rests.Given as goal

abbrev pub invariant-loop-i : goal.invariant-loop-i
invariant-loop-i l = JoinedSoFar l.level l.at l.tags l.i l.out
