use Rattle.std.proofs.Common.{◌+◌, ◌*◌, codes, map, take}
use Rattle.type_text.specs.Texts.{text_at, tag_words, size_words}
use Rattle.type_text.specs.Adds.{Adds}
use Rattle.type_lattice_trees.specs.View.{row_view, tags_view, sizes_view}
use Rattle.type_text.proofs.printing.+print.Given as goal

abbrev pub decreases-append_type : goal.decreases-append_type
decreases-append_type l = 10 * l.level

abbrev pub decreases-append_cell : goal.decreases-append_cell
decreases-append_cell l = 10 * l.level + 1

abbrev pub decreases-append_row : goal.decreases-append_row
decreases-append_row l = 10 * l.level + 1

abbrev pub decreases-append_product : goal.decreases-append_product
decreases-append_product l = 10 * l.level + 2

abbrev pub decreases-append_tag : goal.decreases-append_tag
decreases-append_tag l = 10 * l.level + 2

abbrev pub decreases-append_tags : goal.decreases-append_tags
decreases-append_tags l = 10 * l.level + 3

abbrev pub decreases-append_body : goal.decreases-append_body
decreases-append_body l = 10 * l.level + 4

abbrev pub decreases-append_sizes : goal.decreases-append_sizes
decreases-append_sizes l = 10 * l.level + 5

abbrev pub decreases-append_tuples : goal.decreases-append_tuples
decreases-append_tuples l = 10 * l.level + 6

-- what the items so far have added
abbrev pub invariant-append_row-loop-element : goal.invariant-append_row-loop-element
invariant-append_row-loop-element l = Adds (codes ",") (map (text_at l.level) (row_view l.level (take l.element-index l.row))) l.fn.some l.some l.fn.out l.out

abbrev pub invariant-append_tags-loop-tag : goal.invariant-append_tags-loop-tag
invariant-append_tags-loop-tag l = Adds (codes " | ") (tag_words (text_at l.level) (tags_view l.level (take l.tag-index l.tags))) l.fn.some l.some l.fn.out l.out

abbrev pub invariant-append_sizes-loop-size : goal.invariant-append_sizes-loop-size
invariant-append_sizes-loop-size l = Adds (codes " | ") (size_words (text_at l.level) (sizes_view l.level (take l.size-index l.sizes))) l.fn.some l.some l.fn.out l.out
