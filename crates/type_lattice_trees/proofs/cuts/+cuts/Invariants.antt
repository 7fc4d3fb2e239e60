use Rattle.std.proofs.Common.{◌≡◌, ◌+◌, ◌*◌, ◌++◌, drop}
use Rattle.type_lattice_model.specs.Cut.{row_lower, body_lower}
use Rattle.type_lattice_model.specs.Cut as levels
use Rattle.type_lattice_model.specs.Operations.{ops}
use Rattle.type_lattice_model.specs.Tables.{mapped}
use Rattle.type_lattice_trees.specs.View.{Fits, row_view, tags_view, sizes_view, EachNode, EachTag, EachSize}
use Rattle.type_lattice_trees.proofs.cuts.+cuts.Given as goal

abbrev pub decreases-cut_high : goal.decreases-cut_high
decreases-cut_high l = 10 * l.from

abbrev pub decreases-cut_element : goal.decreases-cut_element
decreases-cut_element l = 10 * l.from + 1

abbrev pub decreases-cut_cell : goal.decreases-cut_cell
decreases-cut_cell l = 10 * l.from + 2

abbrev pub decreases-cut_row : goal.decreases-cut_row
decreases-cut_row l = 10 * l.from + 2

abbrev pub decreases-cut_tags : goal.decreases-cut_tags
decreases-cut_tags l = 10 * l.from + 3

abbrev pub decreases-cut_body : goal.decreases-cut_body
decreases-cut_body l = 10 * l.from + 4

abbrev pub decreases-cut_sizes : goal.decreases-cut_sizes
decreases-cut_sizes l = 10 * l.from + 5

abbrev pub decreases-cut_tuples : goal.decreases-cut_tuples
decreases-cut_tuples l = 10 * l.from + 6

abbrev pub decreases-cut_parts : goal.decreases-cut_parts
decreases-cut_parts l = 10 * l.from + 7

-- what is cut so far, and what is to come, make the whole
abbrev pub invariant-cut_row-loop-element : goal.invariant-cut_row-loop-element
invariant-cut_row-loop-element l = record {
  value : row_view l.to l.out ++ row_lower (levels.cut l.from l.to) (ops l.from) (ops l.to) (row_view l.from (drop l.element-index l.row)) ≡ row_lower (levels.cut l.from l.to) (ops l.from) (ops l.to) (row_view l.from l.row);
  each : EachNode (Fits l.to) l.out;
}

abbrev pub invariant-cut_sizes-loop-size : goal.invariant-cut_sizes-loop-size
invariant-cut_sizes-loop-size l = record {
  value : sizes_view l.to l.out ++ mapped (body_lower (levels.cut l.from l.to) (ops l.from) (ops l.to)) (sizes_view l.from (drop l.size-index l.sizes))
      ≡ mapped (body_lower (levels.cut l.from l.to) (ops l.from) (ops l.to)) (sizes_view l.from l.sizes);
  each : EachSize (Fits l.to) l.out;
}

abbrev pub invariant-cut_tags-loop-tag : goal.invariant-cut_tags-loop-tag
invariant-cut_tags-loop-tag l = record {
  value : tags_view l.to l.out ++ mapped (row_lower (levels.cut l.from l.to) (ops l.from) (ops l.to)) (tags_view l.from (drop l.tag-index l.tags))
      ≡ mapped (row_lower (levels.cut l.from l.to) (ops l.from) (ops l.to)) (tags_view l.from l.tags);
  each : EachTag (Fits l.to) l.out;
}
