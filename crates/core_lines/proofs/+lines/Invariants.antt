use Rattle.std.proofs.Common.{◌≡◌, ◌++◌, drop}
use Rattle.core_ast.specs.Tree.{all_trees, all_pairs, all_segments, all_steps, all_clauses, all_defs, all_patterns, all_pat_pairs, all_pat_segments}
use Rattle.core_lines.specs.Lines.{behind, lines_of_all, lines_of_clauses, lines_of_defs, lines_of_pairs, lines_of_patterns, lines_of_pat_pairs, lines_of_pat_segments, lines_of_segments, lines_of_steps}
use Rattle.core_lines.proofs.+lines.Given as goal

abbrev pub invariant-expressions::add_all-loop-expr : goal.invariant-expressions::add_all-loop-expr
invariant-expressions::add_all-loop-expr l = l.out ++ lines_of_all l.around (all_trees (drop l.expr-index l.exprs)) ≡ l.fn.out ++ lines_of_all l.around (all_trees l.exprs)

abbrev pub invariant-expressions::add_pairs-loop-pair : goal.invariant-expressions::add_pairs-loop-pair
invariant-expressions::add_pairs-loop-pair l = l.out ++ lines_of_pairs l.around (all_pairs (drop l.pair-index l.pairs)) ≡ l.fn.out ++ lines_of_pairs l.around (all_pairs l.pairs)

abbrev pub invariant-expressions::add_segments-loop-segment : goal.invariant-expressions::add_segments-loop-segment
invariant-expressions::add_segments-loop-segment l = l.out ++ lines_of_segments l.around (all_segments (drop l.segment-index l.segments)) ≡ l.fn.out ++ lines_of_segments l.around (all_segments l.segments)

abbrev pub invariant-expressions::add_steps-loop-step : goal.invariant-expressions::add_steps-loop-step
invariant-expressions::add_steps-loop-step l =
    (l.out ++ lines_of_steps l.inner (all_steps (drop l.step-index l.steps)) ≡ l.fn.out ++ lines_of_steps l.fn.around (all_steps l.steps))
    × (behind l.inner (all_steps (drop l.step-index l.steps)) ≡ behind l.fn.around (all_steps l.steps))

abbrev pub invariant-expressions::add_clauses-loop-clause : goal.invariant-expressions::add_clauses-loop-clause
invariant-expressions::add_clauses-loop-clause l = l.out ++ lines_of_clauses l.around (all_clauses (drop l.clause-index l.clauses)) ≡ l.fn.out ++ lines_of_clauses l.around (all_clauses l.clauses)

abbrev pub invariant-expressions::add_definitions-loop-def : goal.invariant-expressions::add_definitions-loop-def
invariant-expressions::add_definitions-loop-def l = l.out ++ lines_of_defs l.around (all_defs (drop l.def-index l.defs)) ≡ l.fn.out ++ lines_of_defs l.around (all_defs l.defs)

abbrev pub invariant-patterns::add_patterns-loop-pattern : goal.invariant-patterns::add_patterns-loop-pattern
invariant-patterns::add_patterns-loop-pattern l = l.out ++ lines_of_patterns l.around (all_patterns (drop l.pattern-index l.patterns)) ≡ l.fn.out ++ lines_of_patterns l.around (all_patterns l.patterns)

abbrev pub invariant-patterns::add_pattern_pairs-loop-pair : goal.invariant-patterns::add_pattern_pairs-loop-pair
invariant-patterns::add_pattern_pairs-loop-pair l = l.out ++ lines_of_pat_pairs l.around (all_pat_pairs (drop l.pair-index l.pairs)) ≡ l.fn.out ++ lines_of_pat_pairs l.around (all_pat_pairs l.pairs)

abbrev pub invariant-patterns::add_pattern_segments-loop-segment : goal.invariant-patterns::add_pattern_segments-loop-segment
invariant-patterns::add_pattern_segments-loop-segment l = l.out ++ lines_of_pat_segments l.around (all_pat_segments (drop l.segment-index l.segments)) ≡ l.fn.out ++ lines_of_pat_segments l.around (all_pat_segments l.segments)
