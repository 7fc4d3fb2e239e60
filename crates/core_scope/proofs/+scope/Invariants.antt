use Rattle.std.proofs.Common.{◌≡◌, ◌≤◌, length, drop}
use Rattle.core_ast.specs.Tree.{all_trees, all_pairs, all_segments, all_steps, all_clauses, all_defs, all_patterns, all_pat_pairs, all_pat_segments}
use Rattle.core_scope.specs.Names.{steps_bound, patterns_bound, pairs_bound, segments_bound}
use Rattle.core_scope.specs.Breaks.{all_breaks, pair_breaks, segment_breaks, step_breaks, clause_breaks, def_breaks, patterns_breaks, pat_pair_breaks, pat_segment_breaks}
use Rattle.core_scope.specs.steps.State.{scope_of, scope_around, noting, binding}
use Rattle.core_scope.proofs.+scope.Given as goal

abbrev pub invariant-expressions::walk_all-loop-expr : goal.invariant-expressions::walk_all-loop-expr
invariant-expressions::walk_all-loop-expr l = noting l.walk (all_breaks (scope_of l.walk) (all_trees (drop l.expr-index l.exprs))) ≡ noting l.fn.walk (all_breaks (scope_of l.fn.walk) (all_trees l.exprs))

abbrev pub invariant-expressions::walk_pairs-loop-pair : goal.invariant-expressions::walk_pairs-loop-pair
invariant-expressions::walk_pairs-loop-pair l = noting l.walk (pair_breaks (scope_of l.walk) (all_pairs (drop l.pair-index l.pairs))) ≡ noting l.fn.walk (pair_breaks (scope_of l.fn.walk) (all_pairs l.pairs))

abbrev pub invariant-expressions::walk_segments-loop-segment : goal.invariant-expressions::walk_segments-loop-segment
invariant-expressions::walk_segments-loop-segment l = noting l.walk (segment_breaks (scope_of l.walk) (all_segments (drop l.segment-index l.segments))) ≡ noting l.fn.walk (segment_breaks (scope_of l.fn.walk) (all_segments l.segments))

abbrev pub invariant-expressions::walk_clauses-loop-clause : goal.invariant-expressions::walk_clauses-loop-clause
invariant-expressions::walk_clauses-loop-clause l = noting l.walk (clause_breaks (scope_of l.walk) l.ask l.count (all_clauses (drop l.clause-index l.clauses)))
    ≡ noting l.fn.walk (clause_breaks (scope_of l.fn.walk) l.ask l.count (all_clauses l.clauses))

abbrev pub invariant-expressions::walk_definitions-loop-def : goal.invariant-expressions::walk_definitions-loop-def
invariant-expressions::walk_definitions-loop-def l = noting l.walk (def_breaks (scope_of l.walk) (all_defs (drop l.def-index l.defs))) ≡ noting l.fn.walk (def_breaks (scope_of l.fn.walk) (all_defs l.defs))

abbrev pub invariant-expressions::walk_steps-loop-step : goal.invariant-expressions::walk_steps-loop-step
invariant-expressions::walk_steps-loop-step l =
    binding l.walk (steps_bound (all_steps (drop l.step-index l.steps))) (step_breaks (scope_of l.walk) (all_steps (drop l.step-index l.steps)))
    ≡ binding l.fn.walk (steps_bound (all_steps l.steps)) (step_breaks (scope_of l.fn.walk) (all_steps l.steps))

abbrev pub invariant-patterns::walk_patterns-loop-pattern : goal.invariant-patterns::walk_patterns-loop-pattern
invariant-patterns::walk_patterns-loop-pattern l = record {
  so_far :
      binding l.walk (patterns_bound (all_patterns (drop l.pattern-index l.patterns))) (patterns_breaks (scope_around l.from l.walk) (drop l.from l.walk.variables) (all_patterns (drop l.pattern-index l.patterns)))
      ≡ binding l.fn.walk (patterns_bound (all_patterns l.patterns)) (patterns_breaks (scope_around l.from l.fn.walk) (drop l.from l.fn.walk.variables) (all_patterns l.patterns));
  within : l.from ≤ length l.walk.variables;
}

abbrev pub invariant-patterns::walk_pattern_pairs-loop-pair : goal.invariant-patterns::walk_pattern_pairs-loop-pair
invariant-patterns::walk_pattern_pairs-loop-pair l = record {
  so_far :
      binding l.walk (pairs_bound (all_pat_pairs (drop l.pair-index l.pairs))) (pat_pair_breaks (scope_around l.from l.walk) (drop l.from l.walk.variables) (all_pat_pairs (drop l.pair-index l.pairs)))
      ≡ binding l.fn.walk (pairs_bound (all_pat_pairs l.pairs)) (pat_pair_breaks (scope_around l.from l.fn.walk) (drop l.from l.fn.walk.variables) (all_pat_pairs l.pairs));
  within : l.from ≤ length l.walk.variables;
}

abbrev pub invariant-patterns::walk_pattern_segments-loop-segment : goal.invariant-patterns::walk_pattern_segments-loop-segment
invariant-patterns::walk_pattern_segments-loop-segment l = record {
  so_far :
      binding l.walk (segments_bound (all_pat_segments (drop l.segment-index l.segments))) (pat_segment_breaks (scope_around l.from l.walk) (drop l.from l.walk.variables) (all_pat_segments (drop l.segment-index l.segments)))
      ≡ binding l.fn.walk (segments_bound (all_pat_segments l.segments)) (pat_segment_breaks (scope_around l.from l.fn.walk) (drop l.from l.fn.walk.variables) (all_pat_segments l.segments));
  within : l.from ≤ length l.walk.variables;
}
