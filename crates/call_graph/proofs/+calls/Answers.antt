use Rattle.call_graph.proofs.ExpressionExits.{new_map_exit, updated_map_exit, letrec_exit, try_parts_exit, call_exit, receive_exit}
use Rattle.call_graph.proofs.Rounds.{all_round, pairs_round, segments_round, steps_round, clauses_round, defs_round, patterns_round, pat_pairs_round, pat_segments_round}
use Rattle.call_graph.proofs.+calls.Goals as goal

pub expressions::walk_all-loop-expr-preserved : goal.expressions::walk_all-loop-expr-preserved
expressions::walk_all-loop-expr-preserved t c = all_round c.loop-expr.walk c.walk_expression.new.walk _ c.args.exprs.now c.loop-expr.expr-index c.expr-item.result c.loop-expr-test.true c.expr-item.is c.in_ok-walk_expression.ensures
    c.loop-expr.invariant

pub expressions::walk_pairs-loop-pair-preserved : goal.expressions::walk_pairs-loop-pair-preserved
expressions::walk_pairs-loop-pair-preserved t c =
    pairs_round c.loop-pair.walk c.walk_expression.new.walk c.walk_expression-in-loop-pair.new.walk _ c.args.pairs.now c.loop-pair.pair-index c.pair-item.result c.loop-pair-test.true c.pair-item.is c.in_ok-walk_expression.ensures
    c.in_ok-walk_expression-2.ensures c.loop-pair.invariant

pub expressions::walk_segments-loop-segment-preserved : goal.expressions::walk_segments-loop-segment-preserved
expressions::walk_segments-loop-segment-preserved t c =
    segments_round c.loop-segment.walk c.walk_expression.new.walk c.walk_all.new.walk _ c.args.segments.now c.loop-segment.segment-index c.segment-item.result c.as_slice.result.now c.loop-segment-test.true c.segment-item.is
    c.in_ok-walk_expression.ensures c.as_slice.ensures c.in_ok-walk_all.ensures
    c.loop-segment.invariant

pub expressions::walk_steps-loop-step-preserved : goal.expressions::walk_steps-loop-step-preserved
expressions::walk_steps-loop-step-preserved t c =
    steps_round c.loop-step.walk c.walk_expression.new.walk _ c.args.steps.now c.loop-step.step-index c.step-item.result c.step_expression.result.now c.loop-step-test.true c.step-item.is c.step_expression.ensures
    c.in_ok-walk_expression.ensures c.loop-step.invariant

pub expressions::walk_clauses-loop-clause-preserved : goal.expressions::walk_clauses-loop-clause-preserved
expressions::walk_clauses-loop-clause-preserved t c =
    clauses_round c.loop-clause.walk c.walk_patterns.new.walk c.walk_expression.new.walk c.walk_expression-in-loop-clause.new.walk _ c.args.clauses.now c.loop-clause.clause-index c.clause-item.result c.as_slice.result.now
    c.loop-clause-test.true c.clause-item.is c.as_slice.ensures
    c.in_ok-walk_patterns.ensures c.in_ok-walk_expression.ensures c.in_ok-walk_expression-2.ensures c.loop-clause.invariant

pub expressions::walk_definitions-loop-def-preserved : goal.expressions::walk_definitions-loop-def-preserved
expressions::walk_definitions-loop-def-preserved t c =
    defs_round c.loop-def.walk c.walk_expression.new.walk _ c.args.defs.now c.loop-def.def-index c.def-item.result c.get.result.now c.loop-def-test.true c.def-item.is c.get.ensures c.in_ok-walk_expression.ensures c.loop-def.invariant

pub expressions::walk_try-returns : goal.expressions::walk_try-returns
expressions::walk_try-returns t c =
    try_parts_exit c.walk_expression-3.result c.args.walk.now c.walk_expression.new.walk c.walk_expression-2.new.walk c.walk_expression-3.new.walk c.args.parts.now c.get.result.now c.get-2.result.now c.get-3.result.now c.get.ensures
    c.in_ok-walk_expression.ensures c.get-2.ensures
    c.in_ok-walk_expression-2.ensures c.get-3.ensures c.walk_expression-3.ensures

pub expressions::walk_expression-returns-in_ok-walk_expression-in-Letrec : goal.expressions::walk_expression-returns-in_ok-walk_expression-in-Letrec
expressions::walk_expression-returns-in_ok-walk_expression-in-Letrec t c =
    letrec_exit c.args.walk.now c.define_all.new.self c.walk_definitions.new.walk c.walk_expression-in-Letrec.new.walk c.args.expr.now c.in-Letrec.defs c.as_slice-in-Letrec.result.now c.as_slice-in-Letrec-2.result.now c.in-Letrec.body
    c.get-in-Letrec.result.now c.len-around.result c.leave.new.self
    c.in-Letrec.is c.len-around.ensures c.as_slice-in-Letrec.ensures c.in_ok-define_all-in-Letrec.ensures c.as_slice-in-Letrec-2.ensures c.in_ok-walk_definitions-in-Letrec.ensures c.get-in-Letrec.ensures
    c.in_ok-walk_expression-in-Letrec.ensures c.leave.ensures

pub expressions::walk_expression-returns-in-Some : goal.expressions::walk_expression-returns-in-Some
expressions::walk_expression-returns-in-Some t c =
    updated_map_exit c.args.walk.now c.args.expr.now c.walk_expression-in-Some.result c.walk_pairs.new.walk c.walk_expression-in-Some.new.walk c.in-Map.pairs c.as_slice-in-Map.result.now c.in-Map.updated c.in-Some.map
    c.get-in-Some.result.now c.in-Map.is c.as_slice-in-Map.ensures
    c.in_ok-walk_pairs-in-Map.ensures c.in-Some.is c.get-in-Some.ensures c.walk_expression-in-Some.ensures

pub expressions::walk_expression-returns-in-None : goal.expressions::walk_expression-returns-in-None
expressions::walk_expression-returns-in-None t c =
    new_map_exit c.args.walk.now c.args.expr.now c.in-Map.pairs c.as_slice-in-Map.result.now c.in-Map.updated c.walk_pairs.new.walk c.in-Map.is c.as_slice-in-Map.ensures c.in_ok-walk_pairs-in-Map.ensures c.in-None.is

pub patterns::walk_patterns-loop-pattern-preserved : goal.patterns::walk_patterns-loop-pattern-preserved
patterns::walk_patterns-loop-pattern-preserved t c =
    patterns_round c.loop-pattern.walk c.walk_pattern.new.walk _ c.args.patterns.now c.loop-pattern.pattern-index c.pattern-item.result c.loop-pattern-test.true c.pattern-item.is c.in_ok-walk_pattern.ensures c.loop-pattern.invariant

pub patterns::walk_pattern_pairs-loop-pair-preserved : goal.patterns::walk_pattern_pairs-loop-pair-preserved
patterns::walk_pattern_pairs-loop-pair-preserved t c =
    pat_pairs_round c.loop-pair.walk c.walk_expression.new.walk c.walk_pattern.new.walk _ c.args.pairs.now c.loop-pair.pair-index c.pair-item.result c.loop-pair-test.true c.pair-item.is c.in_ok-walk_expression.ensures
    c.in_ok-walk_pattern.ensures c.loop-pair.invariant

pub patterns::walk_pattern_segments-loop-segment-preserved : goal.patterns::walk_pattern_segments-loop-segment-preserved
patterns::walk_pattern_segments-loop-segment-preserved t c =
    pat_segments_round c.loop-segment.walk c.walk_pattern.new.walk c.walk_all.new.walk _ c.args.segments.now c.loop-segment.segment-index c.segment-item.result c.as_slice.result.now c.loop-segment-test.true c.segment-item.is
    c.in_ok-walk_pattern.ensures c.as_slice.ensures c.in_ok-walk_all.ensures
    c.loop-segment.invariant

pub expressions::walk_expression-returns-in_ok-walk_expression-in-Call-2 : goal.expressions::walk_expression-returns-in_ok-walk_expression-in-Call-2
expressions::walk_expression-returns-in_ok-walk_expression-in-Call-2 t c =
    call_exit c.walk_all-in-Call.result c.args.walk.now c.note_called.new.self c.walk_expression-in-Call.new.walk c.walk_expression-in-Call-2.new.walk c.walk_all-in-Call.new.walk c.args.expr.now c.in-Call.home c.in-Call.name c.in-Call.args
    c.get-in-Call.result.now c.get-in-Call-2.result.now
    c.get-in-Call-3.result.now c.get-in-Call-4.result.now c.as_slice-in-Call.result.now c.len.result c.in-Call.is c.get-in-Call.ensures c.get-in-Call-2.ensures c.len.ensures c.in_ok-note_called-in-Call.ensures c.get-in-Call-3.ensures
    c.in_ok-walk_expression-in-Call.ensures c.get-in-Call-4.ensures
    c.in_ok-walk_expression-in-Call-2.ensures c.as_slice-in-Call.ensures c.walk_all-in-Call.ensures

pub expressions::walk_expression-returns-in_ok-walk_expression-in-Receive : goal.expressions::walk_expression-returns-in_ok-walk_expression-in-Receive
expressions::walk_expression-returns-in_ok-walk_expression-in-Receive t c =
    receive_exit c.walk_expression-in-Receive-2.result c.args.walk.now c.walk_clauses-in-Receive.new.walk c.walk_expression-in-Receive.new.walk c.walk_expression-in-Receive-2.new.walk c.args.expr.now c.in-Receive.clauses
    c.in-Receive.timeout c.in-Receive.action c.as_slice-in-Receive.result.now
    c.get-in-Receive.result.now c.get-in-Receive-2.result.now c.in-Receive.is c.as_slice-in-Receive.ensures c.in_ok-walk_clauses-in-Receive.ensures c.get-in-Receive.ensures c.in_ok-walk_expression-in-Receive.ensures
    c.get-in-Receive-2.ensures c.walk_expression-in-Receive-2.ensures
