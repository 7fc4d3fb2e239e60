use Rattle.std.proofs.Common.{◌+◌, ◌*◌, take}
use Rattle.type_lattice_trees.specs.LowTrees.{IsLow, AreLowSizes}
use Rattle.type_lattice_trees.specs.View.{EachNode, EachTag}
use Rattle.type_lattice_trees.proofs.low.+low.Given as goal

abbrev pub decreases-is_low : goal.decreases-is_low
decreases-is_low l = 10 * l.to

abbrev pub decreases-is_cell_low : goal.decreases-is_cell_low
decreases-is_cell_low l = 10 * l.to + 1

abbrev pub decreases-is_row_low : goal.decreases-is_row_low
decreases-is_row_low l = 10 * l.to + 1

abbrev pub decreases-are_tags_low : goal.decreases-are_tags_low
decreases-are_tags_low l = 10 * l.to + 2

abbrev pub decreases-is_body_low : goal.decreases-is_body_low
decreases-is_body_low l = 10 * l.to + 3

abbrev pub decreases-are_sizes_low : goal.decreases-are_sizes_low
decreases-are_sizes_low l = 10 * l.to + 4

abbrev pub decreases-are_tuples_low : goal.decreases-are_tuples_low
decreases-are_tuples_low l = 10 * l.to + 5

abbrev pub decreases-are_parts_low : goal.decreases-are_parts_low
decreases-are_parts_low l = 10 * l.to + 6

-- the items so far are low
abbrev pub invariant-is_row_low-loop-element : goal.invariant-is_row_low-loop-element
invariant-is_row_low-loop-element l = EachNode (IsLow l.to) (take l.element-index l.row)

abbrev pub invariant-are_tags_low-loop-tag : goal.invariant-are_tags_low-loop-tag
invariant-are_tags_low-loop-tag l = EachTag (IsLow l.to) (take l.tag-index l.tags)

abbrev pub invariant-are_sizes_low-loop-size : goal.invariant-are_sizes_low-loop-size
invariant-are_sizes_low-loop-size l = AreLowSizes l.to (take l.size-index l.sizes)
