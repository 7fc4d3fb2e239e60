use Rattle.std.proofs.Common.{drop}
use Rattle.core_ast.specs.Tree.{all_trees, all_pairs, all_segments, all_steps, all_clauses, all_defs, all_patterns, all_pat_pairs, all_pat_segments}
use Rattle.cons_tree.specs.Callees.{found}
use Rattle.module_flow_calls.specs.Unknown.{all_namings, pair_namings, segment_namings, step_namings, clause_namings, def_namings, patterns_namings, pat_pair_namings, pat_segment_namings}
use Rattle.module_flow_calls.specs.steps.FirstCalls.{Leads}
use Rattle.module_flow_calls.proofs.unknown.+callings.Given as goal

abbrev pub invariant-note_all-loop-expr : goal.invariant-note_all-loop-expr
invariant-note_all-loop-expr l = Leads (found l.known) l.walk (all_namings l.around (all_trees (drop l.expr-index l.exprs))) l.fn.walk (all_namings l.around (all_trees l.exprs))

abbrev pub invariant-note_pairs-loop-pair : goal.invariant-note_pairs-loop-pair
invariant-note_pairs-loop-pair l = Leads (found l.known) l.walk (pair_namings l.around (all_pairs (drop l.pair-index l.pairs))) l.fn.walk (pair_namings l.around (all_pairs l.pairs))

abbrev pub invariant-note_segments-loop-segment : goal.invariant-note_segments-loop-segment
invariant-note_segments-loop-segment l = Leads (found l.known) l.walk (segment_namings l.around (all_segments (drop l.segment-index l.segments))) l.fn.walk (segment_namings l.around (all_segments l.segments))

abbrev pub invariant-note_steps-loop-step : goal.invariant-note_steps-loop-step
invariant-note_steps-loop-step l = Leads (found l.known) l.walk (step_namings l.inner (all_steps (drop l.step-index l.steps))) l.fn.walk (step_namings l.fn.around (all_steps l.steps))

abbrev pub invariant-note_clauses-loop-clause : goal.invariant-note_clauses-loop-clause
invariant-note_clauses-loop-clause l = Leads (found l.known) l.walk (clause_namings l.around (all_clauses (drop l.clause-index l.clauses))) l.fn.walk (clause_namings l.around (all_clauses l.clauses))

abbrev pub invariant-note_definitions-loop-def : goal.invariant-note_definitions-loop-def
invariant-note_definitions-loop-def l = Leads (found l.known) l.walk (def_namings l.around (all_defs (drop l.def-index l.defs))) l.fn.walk (def_namings l.around (all_defs l.defs))

abbrev pub invariant-note_patterns-loop-pattern : goal.invariant-note_patterns-loop-pattern
invariant-note_patterns-loop-pattern l = Leads (found l.known) l.walk (patterns_namings l.around (all_patterns (drop l.pattern-index l.patterns))) l.fn.walk (patterns_namings l.around (all_patterns l.patterns))

abbrev pub invariant-note_pattern_pairs-loop-pair : goal.invariant-note_pattern_pairs-loop-pair
invariant-note_pattern_pairs-loop-pair l = Leads (found l.known) l.walk (pat_pair_namings l.around (all_pat_pairs (drop l.pair-index l.pairs))) l.fn.walk (pat_pair_namings l.around (all_pat_pairs l.pairs))

abbrev pub invariant-note_pattern_segments-loop-segment : goal.invariant-note_pattern_segments-loop-segment
invariant-note_pattern_segments-loop-segment l = Leads (found l.known) l.walk (pat_segment_namings l.around (all_pat_segments (drop l.segment-index l.segments))) l.fn.walk (pat_segment_namings l.around (all_pat_segments l.segments))
