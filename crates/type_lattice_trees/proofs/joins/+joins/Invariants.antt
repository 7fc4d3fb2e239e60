use Rattle.std.proofs.Common.{◌≡◌, ℕ, ◌+◌, ◌*◌, ◌++◌, take, drop}
use Rattle.std.specs.Ordering.{nat_cmp}
use Rattle.type_lattice_model.specs.Operations.{ops, row_join, rows_join, all_rows_join, tags_join, body_join}
use Rattle.type_lattice_model.specs.Tables.{held, united}
use Rattle.type_lattice_trees.specs.View.{Fits, row_view, tags_view, sizes_view, EachNode, EachTag, EachSize, RowFits, TagsFit}
use Rattle.type_lattice_trees.proofs.joins.+joins.Given as goal

abbrev pub decreases-join_apart : goal.decreases-join_apart
decreases-join_apart l = 20 * l.level

abbrev pub decreases-join_element : goal.decreases-join_element
decreases-join_element l = 20 * l.level + 1

abbrev pub decreases-join : goal.decreases-join
decreases-join l = 20 * l.level + 1

abbrev pub decreases-join_parts : goal.decreases-join_parts
decreases-join_parts l = 20 * l.level + 13

abbrev pub decreases-join_cell : goal.decreases-join_cell
decreases-join_cell l = 20 * l.level + 2

abbrev pub decreases-join_row : goal.decreases-join_row
decreases-join_row l = 20 * l.level + 2

abbrev pub decreases-join_rest : goal.decreases-join_rest
decreases-join_rest l = 20 * l.level + 3

abbrev pub decreases-join_rests : goal.decreases-join_rests
decreases-join_rests l = 20 * l.level + 3

abbrev pub decreases-elements_of_tags : goal.decreases-elements_of_tags
decreases-elements_of_tags l = 20 * l.level + 4

abbrev pub decreases-elements_of : goal.decreases-elements_of
decreases-elements_of l = 20 * l.level + 5

abbrev pub decreases-put_tag : goal.decreases-put_tag
decreases-put_tag l = 20 * l.level + 4

abbrev pub decreases-join_tags : goal.decreases-join_tags
decreases-join_tags l = 20 * l.level + 5

abbrev pub decreases-cap_tags : goal.decreases-cap_tags
decreases-cap_tags l = 20 * l.level + 5

abbrev pub decreases-join_body : goal.decreases-join_body
decreases-join_body l = 20 * l.level + 6

abbrev pub decreases-put_size : goal.decreases-put_size
decreases-put_size l = 20 * l.level + 7

abbrev pub decreases-join_sizes : goal.decreases-join_sizes
decreases-join_sizes l = 20 * l.level + 8

abbrev pub decreases-join_tuples : goal.decreases-join_tuples
decreases-join_tuples l = 20 * l.level + 9

-- what has been joined so far
abbrev pub invariant-join_row-loop-i : goal.invariant-join_row-loop-i
invariant-join_row-loop-i l = record {
  value : row_view l.level l.out ++ row_join (ops l.level) (row_view l.level (drop l.i l.a)) (row_view l.level (drop l.i l.b)) ≡ row_join (ops l.level) (row_view l.level l.a) (row_view l.level l.b);
  each : EachNode (Fits l.level) l.out;
}

abbrev pub invariant-join_rests-loop-i : goal.invariant-join_rests-loop-i
invariant-join_rests-loop-i l = record {
  value : rows_join (ops l.level) (row_view l.level l.out) (held (tags_view l.level (drop l.i l.tags))) ≡ all_rows_join (ops l.level) (held (tags_view l.level l.tags));
  fits : (n : ℕ) → TagsFit l.level n l.tags → RowFits l.level n l.out;
  each : EachNode (Fits l.level) l.out;
}

abbrev pub invariant-join_tags-loop-tag : goal.invariant-join_tags-loop-tag
invariant-join_tags-loop-tag l = record {
  value : tags_view l.level l.out.items ≡ tags_join (ops l.level) (tags_view l.level l.a) (take l.tag-index (tags_view l.level l.b));
  each : EachTag (Fits l.level) l.out.items;
}

abbrev pub invariant-join_sizes-loop-size : goal.invariant-join_sizes-loop-size
invariant-join_sizes-loop-size l = record {
  value : sizes_view l.level l.out.items ≡ united nat_cmp (body_join (ops l.level)) (sizes_view l.level l.a) (take l.size-index (sizes_view l.level l.b));
  each : EachSize (Fits l.level) l.out.items;
}
