use Rattle.std.proofs.Common.{◌≡◌, ◌+◌, ◌*◌, ◌++◌, drop, false}
use Rattle.type_lattice_model.specs.Operations.{ops, zip, has_none, tags_meet, sizes_meet}
use Rattle.type_lattice_trees.specs.View.{Fits, row_view, tags_view, body_view, sizes_view, EachNode, EachTag, EachSize}
use Rattle.type_lattice_trees.proofs.meets.+meets.Given as goal

abbrev pub decreases-meet_apart : goal.decreases-meet_apart
decreases-meet_apart l = 10 * l.level

abbrev pub decreases-meet_element : goal.decreases-meet_element
decreases-meet_element l = 10 * l.level + 1

abbrev pub decreases-meet : goal.decreases-meet
decreases-meet l = 10 * l.level + 1

abbrev pub decreases-meet_cell : goal.decreases-meet_cell
decreases-meet_cell l = 10 * l.level + 2

abbrev pub decreases-meet_row : goal.decreases-meet_row
decreases-meet_row l = 10 * l.level + 2

abbrev pub decreases-meet_rest : goal.decreases-meet_rest
decreases-meet_rest l = 10 * l.level + 3

abbrev pub decreases-meet_tags : goal.decreases-meet_tags
decreases-meet_tags l = 10 * l.level + 4

abbrev pub decreases-meet_body : goal.decreases-meet_body
decreases-meet_body l = 10 * l.level + 5

abbrev pub decreases-meet_sizes : goal.decreases-meet_sizes
decreases-meet_sizes l = 10 * l.level + 6

abbrev pub decreases-meet_tuples : goal.decreases-meet_tuples
decreases-meet_tuples l = 10 * l.level + 7

abbrev pub decreases-meet_parts : goal.decreases-meet_parts
decreases-meet_parts l = 10 * l.level + 8

-- what is met so far, and what is to come, make the whole
abbrev pub invariant-meet_row-loop-i : goal.invariant-meet_row-loop-i
invariant-meet_row-loop-i l = record {
  value : row_view l.level l.out ++ zip (ops l.level).meet (row_view l.level (drop l.i l.a)) (row_view l.level (drop l.i l.b)) ≡ zip (ops l.level).meet (row_view l.level l.a) (row_view l.level l.b);
  filled : has_none (ops l.level) (row_view l.level l.out) ≡ false;
  each : EachNode (Fits l.level) l.out;
}

abbrev pub invariant-meet_tags-loop-tag : goal.invariant-meet_tags-loop-tag
invariant-meet_tags-loop-tag l = record {
  value : tags_view l.level l.out ++ tags_meet (ops l.level) (tags_view l.level (drop l.tag-index l.a)) (body_view l.level l.b) ≡ tags_meet (ops l.level) (tags_view l.level l.a) (body_view l.level l.b);
  each : EachTag (Fits l.level) l.out;
}

abbrev pub invariant-meet_sizes-loop-size : goal.invariant-meet_sizes-loop-size
invariant-meet_sizes-loop-size l = record {
  value : sizes_view l.level l.out ++ sizes_meet (ops l.level) (sizes_view l.level (drop l.size-index l.a)) (sizes_view l.level l.b) ≡ sizes_meet (ops l.level) (sizes_view l.level l.a) (sizes_view l.level l.b);
  each : EachSize (Fits l.level) l.out;
}
