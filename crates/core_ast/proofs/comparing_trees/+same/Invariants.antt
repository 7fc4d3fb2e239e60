use Rattle.std.proofs.Common.{◌+◌, ◌*◌}
use Rattle.core_ast.specs.Tree.{tree, pattern_tree, clause_parts, pair_parts, pat_pair_parts, segment_parts, pat_segment_parts, step_tree, def_tree}
use Rattle.core_ast.specs.Compared.{compared, compared_pattern}
use Rattle.core_ast.specs.steps.Comparing.{compared_pair, compared_segment, compared_step, compared_clause, compared_def, compared_pat_pair, compared_pat_segment}
use Rattle.core_ast.proofs.SameItems.{SoFar}
use Rattle.core_ast.proofs.comparing_trees.+same.Given as goal

abbrev pub invariant-same_all-loop-i : goal.invariant-same_all-loop-i
invariant-same_all-loop-i l = SoFar (λ e. compared l.places (tree e)) l.a l.b l.i

abbrev pub invariant-same_pairs-loop-i : goal.invariant-same_pairs-loop-i
invariant-same_pairs-loop-i l = SoFar (λ e. compared_pair l.places (pair_parts e)) l.a l.b l.i

abbrev pub invariant-same_segments-loop-i : goal.invariant-same_segments-loop-i
invariant-same_segments-loop-i l = SoFar (λ e. compared_segment l.places (segment_parts e)) l.a l.b l.i

abbrev pub invariant-same_steps-loop-i : goal.invariant-same_steps-loop-i
invariant-same_steps-loop-i l = SoFar (λ e. compared_step l.places (step_tree e)) l.a l.b l.i

abbrev pub invariant-same_clauses-loop-i : goal.invariant-same_clauses-loop-i
invariant-same_clauses-loop-i l = SoFar (λ e. compared_clause l.places (clause_parts e)) l.a l.b l.i

abbrev pub invariant-same_defs-loop-i : goal.invariant-same_defs-loop-i
invariant-same_defs-loop-i l = SoFar (λ e. compared_def l.places (def_tree e)) l.a l.b l.i

abbrev pub invariant-same_patterns-loop-i : goal.invariant-same_patterns-loop-i
invariant-same_patterns-loop-i l = SoFar (λ e. compared_pattern l.places (pattern_tree e)) l.a l.b l.i

abbrev pub invariant-same_pat_pairs-loop-i : goal.invariant-same_pat_pairs-loop-i
invariant-same_pat_pairs-loop-i l = SoFar (λ e. compared_pat_pair l.places (pat_pair_parts e)) l.a l.b l.i

abbrev pub invariant-same_pat_segments-loop-i : goal.invariant-same_pat_segments-loop-i
invariant-same_pat_segments-loop-i l = SoFar (λ e. compared_pat_segment l.places (pat_segment_parts e)) l.a l.b l.i

-- the deeper a value, the more; at one depth a list more than its item, and an item than its expression

abbrev pub decreases-same_control : goal.decreases-same_control
decreases-same_control l = 10 * goal.size-same_control l

abbrev pub decreases-same_composed : goal.decreases-same_composed
decreases-same_composed l = 10 * goal.size-same_composed l + 1

abbrev pub decreases-same_form : goal.decreases-same_form
decreases-same_form l = 10 * goal.size-same_form l + 2

abbrev pub decreases-same_expr : goal.decreases-same_expr
decreases-same_expr l = 10 * goal.size-same_expr l + 3

abbrev pub decreases-same_try : goal.decreases-same_try
decreases-same_try l = 10 * goal.size-same_try l + 4

abbrev pub decreases-same_updated : goal.decreases-same_updated
decreases-same_updated l = 10 * goal.size-same_updated l + 4

abbrev pub decreases-same_pattern_form : goal.decreases-same_pattern_form
decreases-same_pattern_form l = 10 * goal.size-same_pattern_form l + 2

abbrev pub decreases-same_pattern : goal.decreases-same_pattern
decreases-same_pattern l = 10 * goal.size-same_pattern l + 3

abbrev pub decreases-same_pair : goal.decreases-same_pair
decreases-same_pair l = 10 * goal.size-same_pair l + 4

abbrev pub decreases-same_segment : goal.decreases-same_segment
decreases-same_segment l = 10 * goal.size-same_segment l + 4

abbrev pub decreases-same_step : goal.decreases-same_step
decreases-same_step l = 10 * goal.size-same_step l + 4

abbrev pub decreases-same_clause : goal.decreases-same_clause
decreases-same_clause l = 10 * goal.size-same_clause l + 4

abbrev pub decreases-same_definition : goal.decreases-same_definition
decreases-same_definition l = 10 * goal.size-same_definition l + 4

abbrev pub decreases-same_pat_pair : goal.decreases-same_pat_pair
decreases-same_pat_pair l = 10 * goal.size-same_pat_pair l + 4

abbrev pub decreases-same_pat_segment : goal.decreases-same_pat_segment
decreases-same_pat_segment l = 10 * goal.size-same_pat_segment l + 4

abbrev pub decreases-same_all : goal.decreases-same_all
decreases-same_all l = 10 * goal.size-same_all l + 5

abbrev pub decreases-same_pairs : goal.decreases-same_pairs
decreases-same_pairs l = 10 * goal.size-same_pairs l + 5

abbrev pub decreases-same_segments : goal.decreases-same_segments
decreases-same_segments l = 10 * goal.size-same_segments l + 5

abbrev pub decreases-same_steps : goal.decreases-same_steps
decreases-same_steps l = 10 * goal.size-same_steps l + 5

abbrev pub decreases-same_clauses : goal.decreases-same_clauses
decreases-same_clauses l = 10 * goal.size-same_clauses l + 5

abbrev pub decreases-same_defs : goal.decreases-same_defs
decreases-same_defs l = 10 * goal.size-same_defs l + 5

abbrev pub decreases-same_patterns : goal.decreases-same_patterns
decreases-same_patterns l = 10 * goal.size-same_patterns l + 5

abbrev pub decreases-same_pat_pairs : goal.decreases-same_pat_pairs
decreases-same_pat_pairs l = 10 * goal.size-same_pat_pairs l + 5

abbrev pub decreases-same_pat_segments : goal.decreases-same_pat_segments
decreases-same_pat_segments l = 10 * goal.size-same_pat_segments l + 5
