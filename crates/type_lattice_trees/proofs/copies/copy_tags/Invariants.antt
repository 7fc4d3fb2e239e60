use Rattle.std.proofs.Common.{◌≡◌, take}
use Rattle.type_lattice_trees.proofs.copies.copy_tags.Given as goal

abbrev pub invariant-loop-tag : goal.invariant-loop-tag
invariant-loop-tag l = l.out ≡ take l.tag-index l.tags
