use Rattle.std.proofs.Common.{◌≡◌, drop}
use Rattle.core_ast.specs.Tree.{all_trees, all_pairs, all_segments, all_steps, all_clauses, all_defs, all_patterns, all_pat_pairs, all_pat_segments}
use Rattle.module_flow_calls.specs.steps.Gathering.{defined_around, noting, in_all, in_pairs, in_segments, in_steps, in_clauses, in_defs, in_patterns, in_pat_pairs, in_pat_segments}
use Rattle.module_flow_calls.proofs.names.+names.Given as goal

abbrev pub invariant-note_all-loop-expr : goal.invariant-note_all-loop-expr
invariant-note_all-loop-expr l = noting l.walk (in_all (defined_around l.walk) (all_trees (drop l.expr-index l.exprs))) ≡ noting l.fn.walk (in_all (defined_around l.fn.walk) (all_trees l.exprs))

abbrev pub invariant-note_pairs-loop-pair : goal.invariant-note_pairs-loop-pair
invariant-note_pairs-loop-pair l = noting l.walk (in_pairs (defined_around l.walk) (all_pairs (drop l.pair-index l.pairs))) ≡ noting l.fn.walk (in_pairs (defined_around l.fn.walk) (all_pairs l.pairs))

abbrev pub invariant-note_segments-loop-segment : goal.invariant-note_segments-loop-segment
invariant-note_segments-loop-segment l = noting l.walk (in_segments (defined_around l.walk) (all_segments (drop l.segment-index l.segments))) ≡ noting l.fn.walk (in_segments (defined_around l.fn.walk) (all_segments l.segments))

abbrev pub invariant-note_steps-loop-step : goal.invariant-note_steps-loop-step
invariant-note_steps-loop-step l = noting l.walk (in_steps (defined_around l.walk) (all_steps (drop l.step-index l.steps))) ≡ noting l.fn.walk (in_steps (defined_around l.fn.walk) (all_steps l.steps))

abbrev pub invariant-note_clauses-loop-clause : goal.invariant-note_clauses-loop-clause
invariant-note_clauses-loop-clause l = noting l.walk (in_clauses (defined_around l.walk) (all_clauses (drop l.clause-index l.clauses))) ≡ noting l.fn.walk (in_clauses (defined_around l.fn.walk) (all_clauses l.clauses))

abbrev pub invariant-note_definitions-loop-def : goal.invariant-note_definitions-loop-def
invariant-note_definitions-loop-def l = noting l.walk (in_defs (defined_around l.walk) (all_defs (drop l.def-index l.defs))) ≡ noting l.fn.walk (in_defs (defined_around l.fn.walk) (all_defs l.defs))

abbrev pub invariant-note_patterns-loop-pattern : goal.invariant-note_patterns-loop-pattern
invariant-note_patterns-loop-pattern l = noting l.walk (in_patterns (defined_around l.walk) (all_patterns (drop l.pattern-index l.patterns))) ≡ noting l.fn.walk (in_patterns (defined_around l.fn.walk) (all_patterns l.patterns))

abbrev pub invariant-note_pattern_pairs-loop-pair : goal.invariant-note_pattern_pairs-loop-pair
invariant-note_pattern_pairs-loop-pair l = noting l.walk (in_pat_pairs (defined_around l.walk) (all_pat_pairs (drop l.pair-index l.pairs))) ≡ noting l.fn.walk (in_pat_pairs (defined_around l.fn.walk) (all_pat_pairs l.pairs))

abbrev pub invariant-note_pattern_segments-loop-segment : goal.invariant-note_pattern_segments-loop-segment
invariant-note_pattern_segments-loop-segment l = noting l.walk (in_pat_segments (defined_around l.walk) (all_pat_segments (drop l.segment-index l.segments)))
    ≡ noting l.fn.walk (in_pat_segments (defined_around l.fn.walk) (all_pat_segments l.segments))
