use Rattle.std.proofs.Common.{◌≡◌, take}
use Rattle.type_lattice_trees.proofs.copies.copy_sizes.Given as goal

abbrev pub invariant-loop-size : goal.invariant-loop-size
invariant-loop-size l = l.out ≡ take l.size-index l.sizes
