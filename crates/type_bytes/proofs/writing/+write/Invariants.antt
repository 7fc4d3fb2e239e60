use Rattle.std.proofs.Common.{◌≡◌, ◌+◌, ◌*◌, ◌++◌, ◌∷◌, length, take}
use Rattle.type_bytes.proofs.Writes.{row_bytes, tags_bytes, sizes_bytes}
use Rattle.type_bytes.proofs.writing.+write.Given as goal

abbrev pub decreases-append_type : goal.decreases-append_type
decreases-append_type l = 10 * l.level

abbrev pub decreases-append_cell : goal.decreases-append_cell
decreases-append_cell l = 10 * l.level + 1

abbrev pub decreases-append_row : goal.decreases-append_row
decreases-append_row l = 10 * l.level + 1

abbrev pub decreases-append_tag : goal.decreases-append_tag
decreases-append_tag l = 10 * l.level + 2

abbrev pub decreases-append_tags : goal.decreases-append_tags
decreases-append_tags l = 10 * l.level + 3

abbrev pub decreases-append_size : goal.decreases-append_size
decreases-append_size l = 10 * l.level + 4

abbrev pub decreases-append_sizes : goal.decreases-append_sizes
decreases-append_sizes l = 10 * l.level + 5

abbrev pub decreases-append_tuples : goal.decreases-append_tuples
decreases-append_tuples l = 10 * l.level + 6

abbrev pub decreases-append_parts : goal.decreases-append_parts
decreases-append_parts l = 10 * l.level + 7

abbrev pub invariant-append_row-loop-element : goal.invariant-append_row-loop-element
invariant-append_row-loop-element l = l.out ≡ l.fn.out ++ row_bytes l.level (take l.element-index l.row)

abbrev pub invariant-append_tags-loop-tag : goal.invariant-append_tags-loop-tag
invariant-append_tags-loop-tag l = l.out ≡ l.fn.out ++ (length l.tags ∷ tags_bytes l.level (take l.tag-index l.tags))

abbrev pub invariant-append_sizes-loop-size : goal.invariant-append_sizes-loop-size
invariant-append_sizes-loop-size l = l.out ≡ l.fn.out ++ (length l.sizes ∷ sizes_bytes l.level (take l.size-index l.sizes))
