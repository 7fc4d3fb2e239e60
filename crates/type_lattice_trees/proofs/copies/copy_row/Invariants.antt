use Rattle.std.proofs.Common.{◌≡◌, take}
use Rattle.type_lattice_trees.proofs.copies.copy_row.Given as goal

abbrev pub invariant-loop-element : goal.invariant-loop-element
invariant-loop-element l = l.out ≡ take l.element-index l.row
