use Rattle.std.proofs.Common.{◌≡◌, ◌+◌, ◌*◌, true, take}
use Rattle.std.specs.List.{list_all}
use Rattle.type_lattice_trees.specs.View.{row_view, tags_view, sizes_view}
use Rattle.type_bytes.specs.ShortNames.{is_short_tag, is_short_size, is_short_at}
use Rattle.type_bytes.proofs.short_names.+short.Given as goal

abbrev pub decreases-is_short : goal.decreases-is_short
decreases-is_short l = 10 * l.level

abbrev pub decreases-is_short_cell : goal.decreases-is_short_cell
decreases-is_short_cell l = 10 * l.level + 1

abbrev pub decreases-is_short_row : goal.decreases-is_short_row
decreases-is_short_row l = 10 * l.level + 1

abbrev pub decreases-is_short_tag : goal.decreases-is_short_tag
decreases-is_short_tag l = 10 * l.level + 2

abbrev pub decreases-are_short_tags : goal.decreases-are_short_tags
decreases-are_short_tags l = 10 * l.level + 3

abbrev pub decreases-is_short_body : goal.decreases-is_short_body
decreases-is_short_body l = 10 * l.level + 4

abbrev pub decreases-are_short_sizes : goal.decreases-are_short_sizes
decreases-are_short_sizes l = 10 * l.level + 5

abbrev pub decreases-are_short_tuples : goal.decreases-are_short_tuples
decreases-are_short_tuples l = 10 * l.level + 6

abbrev pub decreases-are_short_parts : goal.decreases-are_short_parts
decreases-are_short_parts l = 10 * l.level + 7

-- the items so far are short
abbrev pub invariant-is_short_row-loop-element : goal.invariant-is_short_row-loop-element
invariant-is_short_row-loop-element l = list_all (is_short_at l.level) (row_view l.level (take l.element-index l.row)) ≡ true

abbrev pub invariant-are_short_tags-loop-tag : goal.invariant-are_short_tags-loop-tag
invariant-are_short_tags-loop-tag l = list_all (is_short_tag (is_short_at l.level)) (tags_view l.level (take l.tag-index l.tags)) ≡ true

abbrev pub invariant-are_short_sizes-loop-size : goal.invariant-are_short_sizes-loop-size
invariant-are_short_sizes-loop-size l = list_all (is_short_size (is_short_at l.level)) (sizes_view l.level (take l.size-index l.sizes)) ≡ true
