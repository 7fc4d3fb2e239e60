use Rattle.std.proofs.Common.{◌≡◌, ◌++◌, drop}
use Rattle.core_ast.specs.Tree.{all_patterns, all_pat_pairs, all_pat_segments}
use Rattle.cons_gen_rows.specs.Patterns.{pattern_slots, pattern_spans, pat_pair_spans, pat_segment_spans, patterns_rows, pat_pairs_rows, pat_segments_rows, patterns_bindings, pat_pairs_bindings, pat_segments_bindings}
use Rattle.cons_gen_rows.specs.Walking.{BindsRest}
use Rattle.cons_gen_rows.proofs.patterns.+patterns.Given as goal

abbrev pub invariant-walk_each-loop-pattern : goal.invariant-walk_each-loop-pattern
invariant-walk_each-loop-pattern l = record {
  slots : l.slots ++ pattern_slots l.made.next (all_patterns (drop l.pattern-index l.patterns)) ≡ pattern_slots l.fn.made.next (all_patterns l.patterns);
  rest : BindsRest l.fn.made l.made (pattern_spans (all_patterns (drop l.pattern-index l.patterns))) (pattern_spans (all_patterns l.patterns)) (patterns_rows l.made.next (all_patterns (drop l.pattern-index l.patterns)))
      (patterns_rows l.fn.made.next (all_patterns l.patterns)) (patterns_bindings l.made.next (all_patterns (drop l.pattern-index l.patterns))) (patterns_bindings l.fn.made.next (all_patterns l.patterns));
}

abbrev pub invariant-walk_pairs-loop-pair : goal.invariant-walk_pairs-loop-pair
invariant-walk_pairs-loop-pair l =
    BindsRest l.fn.made l.made (pat_pair_spans (all_pat_pairs (drop l.pair-index l.pairs))) (pat_pair_spans (all_pat_pairs l.pairs)) (pat_pairs_rows l.made.next (all_pat_pairs (drop l.pair-index l.pairs)))
    (pat_pairs_rows l.fn.made.next (all_pat_pairs l.pairs)) (pat_pairs_bindings l.made.next (all_pat_pairs (drop l.pair-index l.pairs))) (pat_pairs_bindings l.fn.made.next (all_pat_pairs l.pairs))

abbrev pub invariant-walk_segments-loop-segment : goal.invariant-walk_segments-loop-segment
invariant-walk_segments-loop-segment l =
    BindsRest l.fn.made l.made (pat_segment_spans (all_pat_segments (drop l.segment-index l.segments))) (pat_segment_spans (all_pat_segments l.segments)) (pat_segments_rows l.made.next (all_pat_segments (drop l.segment-index l.segments)))
    (pat_segments_rows l.fn.made.next (all_pat_segments l.segments)) (pat_segments_bindings l.made.next (all_pat_segments (drop l.segment-index l.segments))) (pat_segments_bindings l.fn.made.next (all_pat_segments l.segments))
