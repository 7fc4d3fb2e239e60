use Rattle.std.proofs.Common.{◌≡◌, ◌+◌, ◌-◌, ◌*◌}
use Rattle.type_lattice_model.specs.Operations.{ops}
use Rattle.type_lattice_trees.specs.View.{row_view, tags_view, sizes_view, Fits, EachNode, EachTag, EachSize}
use Rattle.type_bytes.specs.steps.Reading.{many, element_at, tag_at, size_at}
use Rattle.type_bytes.proofs.Loops.{behind}
use Rattle.type_bytes.proofs.reading.+reading.Given as goal

abbrev pub decreases-read_behind : goal.decreases-read_behind
decreases-read_behind l = 14 * l.level

abbrev pub decreases-read_element : goal.decreases-read_element
decreases-read_element l = 14 * l.level + 1

abbrev pub decreases-read_cell : goal.decreases-read_cell
decreases-read_cell l = 14 * l.level + 2

abbrev pub decreases-read_row : goal.decreases-read_row
decreases-read_row l = 14 * l.level + 2

abbrev pub decreases-read_tag : goal.decreases-read_tag
decreases-read_tag l = 14 * l.level + 3

abbrev pub decreases-read_product : goal.decreases-read_product
decreases-read_product l = 14 * l.level + 3

abbrev pub decreases-list_tags : goal.decreases-list_tags
decreases-list_tags l = 14 * l.level + 4

abbrev pub decreases-read_tags : goal.decreases-read_tags
decreases-read_tags l = 14 * l.level + 5

abbrev pub decreases-read_body : goal.decreases-read_body
decreases-read_body l = 14 * l.level + 6

abbrev pub decreases-read_size : goal.decreases-read_size
decreases-read_size l = 14 * l.level + 7

abbrev pub decreases-list_sizes : goal.decreases-list_sizes
decreases-list_sizes l = 14 * l.level + 8

abbrev pub decreases-read_sizes : goal.decreases-read_sizes
decreases-read_sizes l = 14 * l.level + 9

abbrev pub decreases-read_tuples : goal.decreases-read_tuples
decreases-read_tuples l = 14 * l.level + 10

abbrev pub decreases-read_parts : goal.decreases-read_parts
decreases-read_parts l = 14 * l.level + 11

abbrev pub decreases-read_masked : goal.decreases-read_masked
decreases-read_masked l = 14 * l.level + 12

-- what was read and what is left to read is what was to be read
abbrev pub invariant-read_row-loop : goal.invariant-read_row-loop
invariant-read_row-loop l = record {
  each : EachNode (Fits l.level) l.row;
  read : behind (row_view l.level l.row) (many (l.count - l.counter) (element_at l.level) l.rest) ≡ many l.count (element_at l.level) l.fn.bytes;
}

abbrev pub invariant-list_tags-loop : goal.invariant-list_tags-loop
invariant-list_tags-loop l = record {
  each : EachTag (Fits l.level) l.list;
  read : behind (tags_view l.level l.list) (many (l.count - l.counter) (tag_at (ops l.level) (element_at l.level) l.size) l.rest) ≡ many l.count (tag_at (ops l.level) (element_at l.level) l.size) l.fn.bytes;
}

abbrev pub invariant-list_sizes-loop : goal.invariant-list_sizes-loop
invariant-list_sizes-loop l = record {
  each : EachSize (Fits l.level) l.list;
  read : behind (sizes_view l.level l.list) (many (l.count - l.counter) (size_at (ops l.level) (element_at l.level)) l.rest) ≡ many l.count (size_at (ops l.level) (element_at l.level)) l.fn.bytes;
}
