use Rattle.std.proofs.Common.{◌≡◌, drop}
use Rattle.core_ast.specs.Tree.{all_trees, all_pairs, all_segments, all_steps, all_clauses, all_defs, all_patterns, all_pat_pairs, all_pat_segments}
use Rattle.call_graph.specs.Targets.{all_targets, pair_targets, segment_targets, step_targets, clause_targets, def_targets, patterns_targets, pat_pair_targets, pat_segment_targets}
use Rattle.call_graph.specs.steps.Walking.{noting}
use Rattle.call_graph.proofs.+calls.Given as goal

abbrev pub invariant-expressions::walk_all-loop-expr : goal.invariant-expressions::walk_all-loop-expr
invariant-expressions::walk_all-loop-expr l = noting l.walk (all_targets l.walk.locals (all_trees (drop l.expr-index l.exprs))) ≡ noting l.fn.walk (all_targets l.fn.walk.locals (all_trees l.exprs))

abbrev pub invariant-expressions::walk_pairs-loop-pair : goal.invariant-expressions::walk_pairs-loop-pair
invariant-expressions::walk_pairs-loop-pair l = noting l.walk (pair_targets l.walk.locals (all_pairs (drop l.pair-index l.pairs))) ≡ noting l.fn.walk (pair_targets l.fn.walk.locals (all_pairs l.pairs))

abbrev pub invariant-expressions::walk_segments-loop-segment : goal.invariant-expressions::walk_segments-loop-segment
invariant-expressions::walk_segments-loop-segment l = noting l.walk (segment_targets l.walk.locals (all_segments (drop l.segment-index l.segments))) ≡ noting l.fn.walk (segment_targets l.fn.walk.locals (all_segments l.segments))

abbrev pub invariant-expressions::walk_steps-loop-step : goal.invariant-expressions::walk_steps-loop-step
invariant-expressions::walk_steps-loop-step l = noting l.walk (step_targets l.walk.locals (all_steps (drop l.step-index l.steps))) ≡ noting l.fn.walk (step_targets l.fn.walk.locals (all_steps l.steps))

abbrev pub invariant-expressions::walk_clauses-loop-clause : goal.invariant-expressions::walk_clauses-loop-clause
invariant-expressions::walk_clauses-loop-clause l = noting l.walk (clause_targets l.walk.locals (all_clauses (drop l.clause-index l.clauses))) ≡ noting l.fn.walk (clause_targets l.fn.walk.locals (all_clauses l.clauses))

abbrev pub invariant-expressions::walk_definitions-loop-def : goal.invariant-expressions::walk_definitions-loop-def
invariant-expressions::walk_definitions-loop-def l = noting l.walk (def_targets l.walk.locals (all_defs (drop l.def-index l.defs))) ≡ noting l.fn.walk (def_targets l.fn.walk.locals (all_defs l.defs))

abbrev pub invariant-patterns::walk_patterns-loop-pattern : goal.invariant-patterns::walk_patterns-loop-pattern
invariant-patterns::walk_patterns-loop-pattern l = noting l.walk (patterns_targets l.walk.locals (all_patterns (drop l.pattern-index l.patterns))) ≡ noting l.fn.walk (patterns_targets l.fn.walk.locals (all_patterns l.patterns))

abbrev pub invariant-patterns::walk_pattern_pairs-loop-pair : goal.invariant-patterns::walk_pattern_pairs-loop-pair
invariant-patterns::walk_pattern_pairs-loop-pair l = noting l.walk (pat_pair_targets l.walk.locals (all_pat_pairs (drop l.pair-index l.pairs))) ≡ noting l.fn.walk (pat_pair_targets l.fn.walk.locals (all_pat_pairs l.pairs))

abbrev pub invariant-patterns::walk_pattern_segments-loop-segment : goal.invariant-patterns::walk_pattern_segments-loop-segment
invariant-patterns::walk_pattern_segments-loop-segment l = noting l.walk (pat_segment_targets l.walk.locals (all_pat_segments (drop l.segment-index l.segments)))
    ≡ noting l.fn.walk (pat_segment_targets l.fn.walk.locals (all_pat_segments l.segments))
