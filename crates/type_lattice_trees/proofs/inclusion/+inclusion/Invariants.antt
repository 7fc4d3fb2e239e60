use Rattle.std.proofs.Common.{ℕ, ◌+◌, ◌*◌, ◌<◌, take, slice_index_or, All}
use Rattle.type_lattice_model.specs.HasType.{HasAt}
use Rattle.type_lattice_model.specs.Laws.{BelowBy}
use Rattle.type_lattice_trees.specs.declared.node.Node.{Node}
use Rattle.type_lattice_trees.specs.declared.node.BodyOf.TheVariants as of_body
use Rattle.type_lattice_trees.specs.View.{view}
use Rattle.type_lattice_trees.proofs.Inclusions.{TagBelow, SizeBelow}
use Rattle.type_lattice_trees.proofs.TagWalks.{LeftBehind}
use Rattle.type_lattice_trees.proofs.inclusion.+inclusion.Given as goal

abbrev pub decreases-leq : goal.decreases-leq
decreases-leq l = 10 * l.level

abbrev pub decreases-leq_cell : goal.decreases-leq_cell
decreases-leq_cell l = 10 * l.level + 1

abbrev pub decreases-leq_row : goal.decreases-leq_row
decreases-leq_row l = 10 * l.level + 1

abbrev pub decreases-leq_tags : goal.decreases-leq_tags
decreases-leq_tags l = 10 * l.level + 2

abbrev pub decreases-leq_both_tags : goal.decreases-leq_both_tags
decreases-leq_both_tags l = 10 * l.level + 2

abbrev pub decreases-leq_body : goal.decreases-leq_body
decreases-leq_body l = 10 * l.level + 3

abbrev pub decreases-leq_sizes : goal.decreases-leq_sizes
decreases-leq_sizes l = 10 * l.level + 4

abbrev pub decreases-leq_tuples : goal.decreases-leq_tuples
decreases-leq_tuples l = 10 * l.level + 5

abbrev pub decreases-leq_parts : goal.decreases-leq_parts
decreases-leq_parts l = 10 * l.level + 6

abbrev pub invariant-leq_row-loop-i : goal.invariant-leq_row-loop-i
invariant-leq_row-loop-i l = (k : ℕ) → k < l.i → (x : Node) → BelowBy (HasAt l.level) (view l.level (slice_index_or l.a k x)) (view l.level (slice_index_or l.b k x))

abbrev pub invariant-leq_tags-loop-tag : goal.invariant-leq_tags-loop-tag
invariant-leq_tags-loop-tag l = All (TagBelow l.level l.b) (take l.tag-index l.a)

-- the tags so far are below, and those that are left come after what was passed
abbrev pub invariant-leq_both_tags-loop-tag : goal.invariant-leq_both_tags-loop-tag
invariant-leq_both_tags-loop-tag l = All (TagBelow l.level (of_body.Tags l.b)) (take l.tag-index l.a) × LeftBehind l.a l.tag-index l.b l.from

abbrev pub invariant-leq_sizes-loop-size : goal.invariant-leq_sizes-loop-size
invariant-leq_sizes-loop-size l = All (SizeBelow l.level l.b) (take l.size-index l.a)
