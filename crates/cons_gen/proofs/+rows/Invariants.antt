use Rattle.std.proofs.Common.{◌≡◌, ◌++◌, drop}
use Rattle.core_ast.specs.Tree.{all_trees, all_pairs, all_segments, all_steps, all_clauses}
use Rattle.cons_gen_rows.specs.Walking.{AddsRest, BindsRest, knowing, scope_of}
use Rattle.cons_gen.specs.Rows.{all_rows, clause_rows, pair_rows, segment_rows, step_bindings, step_rows}
use Rattle.cons_gen.specs.Spans.{clause_spans, pair_spans, segment_spans, spans, step_spans, value_slots}
use Rattle.cons_gen.proofs.+rows.Given as goal

abbrev pub invariant-expressions::walk_all-loop-expr : goal.invariant-expressions::walk_all-loop-expr
invariant-expressions::walk_all-loop-expr l = record {
  slots : l.slots ++ value_slots l.made.next (all_trees (drop l.expr-index l.exprs)) ≡ value_slots l.fn.made.next (all_trees l.exprs);
  rest : AddsRest l.fn.made l.made (spans (all_trees (drop l.expr-index l.exprs))) (spans (all_trees l.exprs)) (all_rows (knowing l.context) l.context.home.now (scope_of l.made) l.made.next (all_trees (drop l.expr-index l.exprs)))
      (all_rows (knowing l.context) l.context.home.now (scope_of l.fn.made) l.fn.made.next (all_trees l.exprs));
}

abbrev pub invariant-forms::walk_pairs-loop-pair : goal.invariant-forms::walk_pairs-loop-pair
invariant-forms::walk_pairs-loop-pair l =
    AddsRest l.initial.made l.made (pair_spans (all_pairs (drop l.pair-index l.pairs))) (pair_spans (all_pairs l.pairs))
    (pair_rows (knowing l.context) l.context.home.now (scope_of l.made) l.made.next (all_pairs (drop l.pair-index l.pairs)))
    (pair_rows (knowing l.context) l.context.home.now (scope_of l.initial.made) l.initial.made.next (all_pairs l.pairs))

abbrev pub invariant-forms::walk_segments-loop-segment : goal.invariant-forms::walk_segments-loop-segment
invariant-forms::walk_segments-loop-segment l =
    AddsRest l.fn.made l.made (segment_spans (all_segments (drop l.segment-index l.segments))) (segment_spans (all_segments l.segments))
    (segment_rows (knowing l.context) l.context.home.now (scope_of l.made) l.made.next (all_segments (drop l.segment-index l.segments)))
    (segment_rows (knowing l.context) l.context.home.now (scope_of l.fn.made) l.fn.made.next (all_segments l.segments))

abbrev pub invariant-control::walk_steps-loop-step : goal.invariant-control::walk_steps-loop-step
invariant-control::walk_steps-loop-step l =
    BindsRest l.initial.made l.made (step_spans (all_steps (drop l.step-index l.steps))) (step_spans (all_steps l.steps))
    (step_rows (knowing l.context) l.context.home.now (scope_of l.made) l.made.next (all_steps (drop l.step-index l.steps)))
    (step_rows (knowing l.context) l.context.home.now (scope_of l.initial.made) l.initial.made.next (all_steps l.steps)) (step_bindings l.made.next (all_steps (drop l.step-index l.steps)))
    (step_bindings l.initial.made.next (all_steps l.steps))

abbrev pub invariant-control::walk_clauses-loop-clause : goal.invariant-control::walk_clauses-loop-clause
invariant-control::walk_clauses-loop-clause l =
    AddsRest l.fn.made l.made (clause_spans l.ask (all_clauses (drop l.clause-index l.clauses))) (clause_spans l.ask (all_clauses l.clauses))
    (clause_rows (knowing l.context) l.context.home.now (scope_of l.made) l.to l.values l.made.next l.ask (all_clauses (drop l.clause-index l.clauses)))
    (clause_rows (knowing l.context) l.context.home.now (scope_of l.fn.made) l.to l.values l.fn.made.next l.ask (all_clauses l.clauses))
