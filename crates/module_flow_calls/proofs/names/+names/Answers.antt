use Rattle.std.proofs.Common.{refl}
use Rattle.module_flow_calls.proofs.GatheredForms.{new_map_exit, updated_map_exit, letrec_exit, try_parts_exit, call_exit, receive_exit, named_exit, apply_exit}
use Rattle.module_flow_calls.proofs.GatheredRounds.{all_round, pairs_round, segments_round, steps_round, clauses_round, defs_round, patterns_round, pat_pairs_round, pat_segments_round}
use Rattle.module_flow_calls.proofs.names.+names.Goals as goal

pub note_all-loop-expr-preserved : goal.note_all-loop-expr-preserved
note_all-loop-expr-preserved t c = all_round c.loop-expr.walk c.note_names.new.walk _ c.args.exprs.now c.loop-expr.expr-index c.expr-item.result c.loop-expr-test.true c.expr-item.is c.in_ok-note_names.ensures c.loop-expr.invariant

pub note_pairs-loop-pair-preserved : goal.note_pairs-loop-pair-preserved
note_pairs-loop-pair-preserved t c =
    pairs_round c.loop-pair.walk c.note_names.new.walk c.note_names-in-loop-pair.new.walk _ c.args.pairs.now c.loop-pair.pair-index c.pair-item.result c.loop-pair-test.true c.pair-item.is c.in_ok-note_names.ensures
    c.in_ok-note_names-2.ensures c.loop-pair.invariant

pub note_segments-loop-segment-preserved : goal.note_segments-loop-segment-preserved
note_segments-loop-segment-preserved t c =
    segments_round c.loop-segment.walk c.note_names.new.walk c.note_all.new.walk _ c.args.segments.now c.loop-segment.segment-index c.segment-item.result c.as_slice.result.now c.loop-segment-test.true c.segment-item.is
    c.in_ok-note_names.ensures c.as_slice.ensures c.in_ok-note_all.ensures
    c.loop-segment.invariant

pub note_steps-loop-step-preserved : goal.note_steps-loop-step-preserved
note_steps-loop-step-preserved t c =
    steps_round c.loop-step.walk c.note_names.new.walk _ c.args.steps.now c.loop-step.step-index c.step-item.result c.step_expression.result.now c.loop-step-test.true c.step-item.is c.step_expression.ensures c.in_ok-note_names.ensures
    c.loop-step.invariant

pub note_clauses-loop-clause-preserved : goal.note_clauses-loop-clause-preserved
note_clauses-loop-clause-preserved t c =
    clauses_round c.loop-clause.walk c.note_patterns.new.walk c.note_names.new.walk c.note_names-in-loop-clause.new.walk _ c.args.clauses.now c.loop-clause.clause-index c.clause-item.result c.as_slice.result.now c.loop-clause-test.true
    c.clause-item.is c.as_slice.ensures
    c.in_ok-note_patterns.ensures c.in_ok-note_names.ensures c.in_ok-note_names-2.ensures c.loop-clause.invariant

pub note_definitions-loop-def-preserved : goal.note_definitions-loop-def-preserved
note_definitions-loop-def-preserved t c =
    defs_round c.loop-def.walk c.define.new.self c.note_names.new.walk _ c.args.defs.now c.loop-def.def-index c.def-item.result c.def-item.result c.get.result.now c.loop-def-test.true c.def-item.is refl c.in_ok-define.ensures c.get.ensures
    c.in_ok-note_names.ensures c.loop-def.invariant

pub note_try-returns : goal.note_try-returns
note_try-returns t c =
    try_parts_exit c.note_names-3.result c.args.walk.now c.note_names.new.walk c.note_names-2.new.walk c.note_names-3.new.walk c.args.parts.now c.get.result.now c.get-2.result.now c.get-3.result.now c.get.ensures c.in_ok-note_names.ensures
    c.get-2.ensures
    c.in_ok-note_names-2.ensures c.get-3.ensures c.note_names-3.ensures

pub note_names-returns-in_ok-note_names-in-Letrec : goal.note_names-returns-in_ok-note_names-in-Letrec
note_names-returns-in_ok-note_names-in-Letrec t c =
    letrec_exit c.args.walk.now c.define_all.new.self c.note_definitions.new.walk c.note_names-in-Letrec.new.walk c.leave.new.self c.args.expr.now c.in-Letrec.defs c.as_slice-in-Letrec.result.now c.as_slice-in-Letrec-2.result.now
    c.in-Letrec.body c.get-in-Letrec.result.now c.len-names.result c.len-labels.result
    c.in-Letrec.is c.len-names.ensures c.len-labels.ensures c.as_slice-in-Letrec.ensures c.in_ok-define_all-in-Letrec.ensures c.as_slice-in-Letrec-2.ensures c.in_ok-note_definitions-in-Letrec.ensures c.get-in-Letrec.ensures
    c.in_ok-note_names-in-Letrec.ensures c.leave.ensures

pub note_names-returns-in-Some : goal.note_names-returns-in-Some
note_names-returns-in-Some t c =
    updated_map_exit c.args.walk.now c.args.expr.now c.note_names-in-Some.result c.note_pairs.new.walk c.note_names-in-Some.new.walk c.in-Map.pairs c.as_slice-in-Map.result.now c.in-Map.updated c.in-Some.map c.get-in-Some.result.now
    c.in-Map.is c.as_slice-in-Map.ensures
    c.in_ok-note_pairs-in-Map.ensures c.in-Some.is c.get-in-Some.ensures c.note_names-in-Some.ensures

pub note_names-returns-in-None : goal.note_names-returns-in-None
note_names-returns-in-None t c =
    new_map_exit c.args.walk.now c.args.expr.now c.in-Map.pairs c.as_slice-in-Map.result.now c.in-Map.updated c.note_pairs.new.walk c.in-Map.is c.as_slice-in-Map.ensures c.in_ok-note_pairs-in-Map.ensures c.in-None.is

pub note_patterns-loop-pattern-preserved : goal.note_patterns-loop-pattern-preserved
note_patterns-loop-pattern-preserved t c =
    patterns_round c.loop-pattern.walk c.note_pattern.new.walk _ c.args.patterns.now c.loop-pattern.pattern-index c.pattern-item.result c.loop-pattern-test.true c.pattern-item.is c.in_ok-note_pattern.ensures c.loop-pattern.invariant

pub note_pattern_pairs-loop-pair-preserved : goal.note_pattern_pairs-loop-pair-preserved
note_pattern_pairs-loop-pair-preserved t c =
    pat_pairs_round c.loop-pair.walk c.note_names.new.walk c.note_pattern.new.walk _ c.args.pairs.now c.loop-pair.pair-index c.pair-item.result c.loop-pair-test.true c.pair-item.is c.in_ok-note_names.ensures c.in_ok-note_pattern.ensures
    c.loop-pair.invariant

pub note_pattern_segments-loop-segment-preserved : goal.note_pattern_segments-loop-segment-preserved
note_pattern_segments-loop-segment-preserved t c =
    pat_segments_round c.loop-segment.walk c.note_pattern.new.walk c.note_all.new.walk _ c.args.segments.now c.loop-segment.segment-index c.segment-item.result c.as_slice.result.now c.loop-segment-test.true c.segment-item.is
    c.in_ok-note_pattern.ensures c.as_slice.ensures c.in_ok-note_all.ensures
    c.loop-segment.invariant

pub note_names-returns-in-Some-local_name : goal.note_names-returns-in-Some-local_name
note_names-returns-in-Some-local_name t c =
    named_exit c.note_all-in-Some-local_name.result c.args.walk.now c.note_all-in-Some-local_name.new.walk c.args.expr.now c.in-Apply.operator c.get-in-Apply.result.now c.in-Apply.args c.as_slice-in-Some-local_name.result.now
    c.in-Some-local_name.field-0.now
    c.in-Apply.is c.get-in-Apply.ensures c.in-Some-local_name.ensures c.as_slice-in-Some-local_name.ensures c.note_all-in-Some-local_name.ensures

pub note_names-returns-in_ok-note_names-in-None-local_name : goal.note_names-returns-in_ok-note_names-in-None-local_name
note_names-returns-in_ok-note_names-in-None-local_name t c =
    apply_exit c.note_all-in-None-local_name.result c.args.walk.now c.note_names-in-None-local_name.new.walk c.note_all-in-None-local_name.new.walk c.args.expr.now c.in-Apply.operator c.get-in-Apply.result.now
    c.get-in-None-local_name.result.now c.in-Apply.args c.as_slice-in-None-local_name.result.now
    c.in-Apply.is c.get-in-Apply.ensures c.in-None-local_name.ensures c.get-in-None-local_name.ensures c.in_ok-note_names-in-None-local_name.ensures c.as_slice-in-None-local_name.ensures c.note_all-in-None-local_name.ensures

pub note_names-returns-in_ok-note_names-in-Call-2 : goal.note_names-returns-in_ok-note_names-in-Call-2
note_names-returns-in_ok-note_names-in-Call-2 t c =
    call_exit c.note_all-in-Call.result c.args.walk.now c.note_names-in-Call.new.walk c.note_names-in-Call-2.new.walk c.note_all-in-Call.new.walk c.args.expr.now c.in-Call.home c.in-Call.name c.in-Call.args c.get-in-Call.result.now
    c.get-in-Call-2.result.now c.as_slice-in-Call.result.now
    c.in-Call.is c.get-in-Call.ensures c.in_ok-note_names-in-Call.ensures c.get-in-Call-2.ensures c.in_ok-note_names-in-Call-2.ensures c.as_slice-in-Call.ensures c.note_all-in-Call.ensures

pub note_names-returns-in_ok-note_names-in-Receive : goal.note_names-returns-in_ok-note_names-in-Receive
note_names-returns-in_ok-note_names-in-Receive t c =
    receive_exit c.note_names-in-Receive-2.result c.args.walk.now c.note_clauses-in-Receive.new.walk c.note_names-in-Receive.new.walk c.note_names-in-Receive-2.new.walk c.args.expr.now c.in-Receive.clauses c.in-Receive.timeout
    c.in-Receive.action c.as_slice-in-Receive.result.now
    c.get-in-Receive.result.now c.get-in-Receive-2.result.now c.in-Receive.is c.as_slice-in-Receive.ensures c.in_ok-note_clauses-in-Receive.ensures c.get-in-Receive.ensures c.in_ok-note_names-in-Receive.ensures c.get-in-Receive-2.ensures
    c.note_names-in-Receive-2.ensures
