use Rattle.std.proofs.Common.{◌≡◌, ◌+◌, ◌-◌, ◌*◌}
use Rattle.type_bytes.specs.steps.Cuts.{many, tag_cut, size_cut, element_cut}
use Rattle.type_bytes.proofs.shapes.+shapes.Given as goal

abbrev pub decreases-skip_behind : goal.decreases-skip_behind
decreases-skip_behind l = 12 * l.level

abbrev pub decreases-skip_element : goal.decreases-skip_element
decreases-skip_element l = 12 * l.level + 1

abbrev pub decreases-skip_cell : goal.decreases-skip_cell
decreases-skip_cell l = 12 * l.level + 2

abbrev pub decreases-skip_row : goal.decreases-skip_row
decreases-skip_row l = 12 * l.level + 2

abbrev pub decreases-skip_tag : goal.decreases-skip_tag
decreases-skip_tag l = 12 * l.level + 3

abbrev pub decreases-skip_tags : goal.decreases-skip_tags
decreases-skip_tags l = 12 * l.level + 4

abbrev pub decreases-skip_body : goal.decreases-skip_body
decreases-skip_body l = 12 * l.level + 5

abbrev pub decreases-skip_size : goal.decreases-skip_size
decreases-skip_size l = 12 * l.level + 6

abbrev pub decreases-skip_sizes : goal.decreases-skip_sizes
decreases-skip_sizes l = 12 * l.level + 7

abbrev pub decreases-skip_tuples : goal.decreases-skip_tuples
decreases-skip_tuples l = 12 * l.level + 8

abbrev pub decreases-skip_parts : goal.decreases-skip_parts
decreases-skip_parts l = 12 * l.level + 9

abbrev pub decreases-skip_masked : goal.decreases-skip_masked
decreases-skip_masked l = 12 * l.level + 10

-- what is left to cut is what was to be cut
abbrev pub invariant-skip_row-loop : goal.invariant-skip_row-loop
invariant-skip_row-loop l = many (l.count - l.counter) (element_cut l.level) l.rest ≡ many l.count (element_cut l.level) l.fn.bytes

abbrev pub invariant-skip_tags-loop : goal.invariant-skip_tags-loop
invariant-skip_tags-loop l = many (l.count - l.counter) (tag_cut (element_cut l.level) l.size) l.rest ≡ many l.count (tag_cut (element_cut l.level) l.size) l.fn.bytes

abbrev pub invariant-skip_sizes-loop : goal.invariant-skip_sizes-loop
invariant-skip_sizes-loop l = many (l.count - l.counter) (size_cut (element_cut l.level)) l.rest ≡ many l.count (size_cut (element_cut l.level)) l.fn.bytes
