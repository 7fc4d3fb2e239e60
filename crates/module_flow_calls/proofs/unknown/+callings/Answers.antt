use Rattle.std.proofs.Common.{drop, refl, ap, ◌∙◌, arith}
use Rattle.std.proofs.lemmas.List.{drop_all}
use Rattle.core_ast.specs.Tree.{all_trees, all_pairs, all_segments, all_steps, all_clauses, all_defs, all_patterns, all_pat_pairs, all_pat_segments}
use Rattle.cons_tree.specs.Callees.{found}
use Rattle.module_flow_calls.specs.NodeContext.{under}
use Rattle.module_flow_calls.specs.Unknown.{all_namings, pair_namings, segment_namings, step_namings, clause_namings, def_namings, patterns_namings, pat_pair_namings, pat_segment_namings}
use Rattle.module_flow_calls.proofs.FirstCalls.{ended}
use Rattle.module_flow_calls.proofs.CalledForms.{variable_exit, local_exit, external_exit, literal_exit, primop_exit, new_map_exit, updated_map_exit, try_parts_exit, call_exit, receive_exit, chain_exit}
use Rattle.module_flow_calls.proofs.CalledPatterns.{pattern_variable, pattern_literal}
use Rattle.module_flow_calls.proofs.CalledRounds.{all_round, pairs_round, segments_round, steps_round, clauses_round, defs_round, patterns_round, pat_pairs_round, pat_segments_round}
use Rattle.module_flow_calls.proofs.unknown.+callings.Goals as goal

pub note_all-loop-expr-preserved : goal.note_all-loop-expr-preserved
note_all-loop-expr-preserved t c =
    all_round (found c.args.known.now) c.args.around c.loop-expr.walk c.note_calls.new.walk c.args.walk.now _ c.args.exprs.now c.loop-expr.expr-index c.expr-item.result c.loop-expr-test.true c.expr-item.is c.in_ok-note_calls.ensures
    c.loop-expr.invariant

pub note_all-returns : goal.note_all-returns
note_all-returns t c =
    ended (found c.args.known.now) c.loop-expr.walk c.args.walk.now (all_namings c.args.around (all_trees (drop c.loop-expr.expr-index c.args.exprs.now))) _
    (ap (λ l. all_namings c.args.around (all_trees l)) (drop_all c.loop-expr.expr-index c.args.exprs.now (let h = c.loop-expr-test.false in omega arith))) c.loop-expr.invariant

pub note_pairs-loop-pair-preserved : goal.note_pairs-loop-pair-preserved
note_pairs-loop-pair-preserved t c =
    pairs_round (found c.args.known.now) c.args.around c.loop-pair.walk c.note_calls.new.walk c.args.walk.now _ c.note_calls-in-loop-pair.new.walk c.args.pairs.now c.loop-pair.pair-index c.pair-item.result c.loop-pair-test.true
    c.pair-item.is c.in_ok-note_calls.ensures c.in_ok-note_calls-2.ensures c.loop-pair.invariant

pub note_pairs-returns : goal.note_pairs-returns
note_pairs-returns t c =
    ended (found c.args.known.now) c.loop-pair.walk c.args.walk.now (pair_namings c.args.around (all_pairs (drop c.loop-pair.pair-index c.args.pairs.now))) _
    (ap (λ l. pair_namings c.args.around (all_pairs l)) (drop_all c.loop-pair.pair-index c.args.pairs.now (let h = c.loop-pair-test.false in omega arith))) c.loop-pair.invariant

pub note_segments-loop-segment-preserved : goal.note_segments-loop-segment-preserved
note_segments-loop-segment-preserved t c =
    segments_round (found c.args.known.now) c.args.around c.loop-segment.walk c.note_calls.new.walk c.args.walk.now _ c.note_all.new.walk c.args.segments.now c.loop-segment.segment-index c.segment-item.result c.as_slice.result.now
    c.loop-segment-test.true c.segment-item.is c.in_ok-note_calls.ensures c.as_slice.ensures c.in_ok-note_all.ensures c.loop-segment.invariant

pub note_segments-returns : goal.note_segments-returns
note_segments-returns t c =
    ended (found c.args.known.now) c.loop-segment.walk c.args.walk.now (segment_namings c.args.around (all_segments (drop c.loop-segment.segment-index c.args.segments.now))) _
    (ap (λ l. segment_namings c.args.around (all_segments l)) (drop_all c.loop-segment.segment-index c.args.segments.now (let h = c.loop-segment-test.false in omega arith))) c.loop-segment.invariant

pub note_steps-loop-step-preserved : goal.note_steps-loop-step-preserved
note_steps-loop-step-preserved t c =
    steps_round (found c.args.known.now) c.loop-step.inner c.loop-step.walk c.note_calls.new.walk c.args.walk.now _ c.under-inner.result c.args.steps.now c.loop-step.step-index c.step-item.result c.step_expression.result.now
    c.loop-step-test.true c.step-item.is c.step_expression.ensures (c.under-inner.ensures ∙ ap (under c.loop-step.inner) c.step_note.ensures) c.in_ok-note_calls.ensures c.loop-step.invariant

pub note_steps-returns : goal.note_steps-returns
note_steps-returns t c =
    ended (found c.args.known.now) c.loop-step.walk c.args.walk.now (step_namings c.loop-step.inner (all_steps (drop c.loop-step.step-index c.args.steps.now))) _
    (ap (λ l. step_namings c.loop-step.inner (all_steps l)) (drop_all c.loop-step.step-index c.args.steps.now (let h = c.loop-step-test.false in omega arith))) c.loop-step.invariant

pub note_clauses-loop-clause-preserved : goal.note_clauses-loop-clause-preserved
note_clauses-loop-clause-preserved t c =
    clauses_round (found c.args.known.now) c.args.around c.loop-clause.walk c.note_patterns.new.walk c.args.walk.now _ c.note_calls.new.walk c.note_calls-in-loop-clause.new.walk c.under-inner.result c.args.clauses.now
    c.loop-clause.clause-index c.clause-item.result c.as_slice.result.now c.loop-clause-test.true c.clause-item.is c.under-inner.ensures c.as_slice.ensures c.in_ok-note_patterns.ensures c.in_ok-note_calls.ensures
    c.in_ok-note_calls-2.ensures c.loop-clause.invariant

pub note_clauses-returns : goal.note_clauses-returns
note_clauses-returns t c =
    ended (found c.args.known.now) c.loop-clause.walk c.args.walk.now (clause_namings c.args.around (all_clauses (drop c.loop-clause.clause-index c.args.clauses.now))) _
    (ap (λ l. clause_namings c.args.around (all_clauses l)) (drop_all c.loop-clause.clause-index c.args.clauses.now (let h = c.loop-clause-test.false in omega arith))) c.loop-clause.invariant

pub note_definitions-loop-def-preserved : goal.note_definitions-loop-def-preserved
note_definitions-loop-def-preserved t c =
    defs_round (found c.args.known.now) c.args.around c.loop-def.walk c.note_calls.new.walk c.args.walk.now _ c.under.result c.args.defs.now c.loop-def.def-index c.def-item.result c.def-item.result c.get.result.now c.loop-def-test.true
    c.def-item.is refl c.under.ensures c.get.ensures c.in_ok-note_calls.ensures c.loop-def.invariant

pub note_definitions-returns : goal.note_definitions-returns
note_definitions-returns t c =
    ended (found c.args.known.now) c.loop-def.walk c.args.walk.now (def_namings c.args.around (all_defs (drop c.loop-def.def-index c.args.defs.now))) _
    (ap (λ l. def_namings c.args.around (all_defs l)) (drop_all c.loop-def.def-index c.args.defs.now (let h = c.loop-def-test.false in omega arith))) c.loop-def.invariant

pub note_patterns-loop-pattern-preserved : goal.note_patterns-loop-pattern-preserved
note_patterns-loop-pattern-preserved t c =
    patterns_round (found c.args.known.now) c.args.around c.loop-pattern.walk c.note_pattern.new.walk c.args.walk.now _ c.args.patterns.now c.loop-pattern.pattern-index c.pattern-item.result c.loop-pattern-test.true c.pattern-item.is
    c.in_ok-note_pattern.ensures c.loop-pattern.invariant

pub note_patterns-returns : goal.note_patterns-returns
note_patterns-returns t c =
    ended (found c.args.known.now) c.loop-pattern.walk c.args.walk.now (patterns_namings c.args.around (all_patterns (drop c.loop-pattern.pattern-index c.args.patterns.now))) _
    (ap (λ l. patterns_namings c.args.around (all_patterns l)) (drop_all c.loop-pattern.pattern-index c.args.patterns.now (let h = c.loop-pattern-test.false in omega arith))) c.loop-pattern.invariant

pub note_pattern_pairs-loop-pair-preserved : goal.note_pattern_pairs-loop-pair-preserved
note_pattern_pairs-loop-pair-preserved t c =
    pat_pairs_round (found c.args.known.now) c.args.around c.loop-pair.walk c.note_calls.new.walk c.args.walk.now _ c.note_pattern.new.walk c.args.pairs.now c.loop-pair.pair-index c.pair-item.result c.loop-pair-test.true c.pair-item.is
    c.in_ok-note_calls.ensures c.in_ok-note_pattern.ensures c.loop-pair.invariant

pub note_pattern_pairs-returns : goal.note_pattern_pairs-returns
note_pattern_pairs-returns t c =
    ended (found c.args.known.now) c.loop-pair.walk c.args.walk.now (pat_pair_namings c.args.around (all_pat_pairs (drop c.loop-pair.pair-index c.args.pairs.now))) _
    (ap (λ l. pat_pair_namings c.args.around (all_pat_pairs l)) (drop_all c.loop-pair.pair-index c.args.pairs.now (let h = c.loop-pair-test.false in omega arith))) c.loop-pair.invariant

pub note_pattern_segments-loop-segment-preserved : goal.note_pattern_segments-loop-segment-preserved
note_pattern_segments-loop-segment-preserved t c =
    pat_segments_round (found c.args.known.now) c.args.around c.loop-segment.walk c.note_pattern.new.walk c.args.walk.now _ c.note_all.new.walk c.args.segments.now c.loop-segment.segment-index c.segment-item.result c.as_slice.result.now
    c.loop-segment-test.true c.segment-item.is c.in_ok-note_pattern.ensures c.as_slice.ensures c.in_ok-note_all.ensures c.loop-segment.invariant

pub note_pattern_segments-returns : goal.note_pattern_segments-returns
note_pattern_segments-returns t c =
    ended (found c.args.known.now) c.loop-segment.walk c.args.walk.now (pat_segment_namings c.args.around (all_pat_segments (drop c.loop-segment.segment-index c.args.segments.now))) _
    (ap (λ l. pat_segment_namings c.args.around (all_pat_segments l)) (drop_all c.loop-segment.segment-index c.args.segments.now (let h = c.loop-segment-test.false in omega arith))) c.loop-segment.invariant

pub note_try-returns : goal.note_try-returns
note_try-returns t c =
    try_parts_exit (found c.args.known.now) c.note_calls-3.result c.args.walk.now c.note_calls.new.walk c.note_calls-2.new.walk c.note_calls-3.new.walk c.args.around c.args.parts.now c.get.result.now c.get-2.result.now c.get-3.result.now
    c.get.ensures c.in_ok-note_calls.ensures c.get-2.ensures c.in_ok-note_calls-2.ensures c.get-3.ensures c.note_calls-3.ensures

pub note_calls-returns-in-Some : goal.note_calls-returns-in-Some
note_calls-returns-in-Some t c =
    updated_map_exit (found c.args.known.now) c.args.walk.now c.args.around c.args.expr.now c.under-around.result c.under-around.ensures c.note_calls-in-Some.result c.note_pairs.new.walk c.note_calls-in-Some.new.walk c.in-Map.pairs
    c.as_slice-in-Map.result.now c.in-Map.updated c.in-Some.map c.get-in-Some.result.now c.in-Map.is c.as_slice-in-Map.ensures
    c.in_ok-note_pairs-in-Map.ensures c.in-Some.is c.get-in-Some.ensures c.note_calls-in-Some.ensures

pub note_calls-returns-in-None : goal.note_calls-returns-in-None
note_calls-returns-in-None t c =
    new_map_exit (found c.args.known.now) c.args.walk.now c.args.around c.args.expr.now c.under-around.result c.under-around.ensures c.in-Map.pairs c.as_slice-in-Map.result.now c.in-Map.updated c.note_pairs.new.walk c.in-Map.is
    c.as_slice-in-Map.ensures c.in_ok-note_pairs-in-Map.ensures c.in-None.is

pub note_calls-returns-in_ok-note_steps-in-Chain : goal.note_calls-returns-in_ok-note_steps-in-Chain
note_calls-returns-in_ok-note_steps-in-Chain t c =
    chain_exit (found c.args.known.now) c.args.walk.now c.args.around c.args.expr.now c.under-around.result c.under-around.ensures c.note_calls-in-Chain.result c.note_steps.new.walk c.note_calls-in-Chain.new.walk c.in-Chain.steps
    c.as_slice-in-Chain.result.now c.as_slice-in-Chain-2.result.now c.in-Chain.last c.get-in-Chain.result.now c.under_steps.result
    c.in-Chain.is c.as_slice-in-Chain.ensures c.in_ok-note_steps-in-Chain.ensures c.as_slice-in-Chain-2.ensures c.under_steps.ensures c.get-in-Chain.ensures c.note_calls-in-Chain.ensures

pub note_calls-returns-in_ok-note_calls-in-Receive : goal.note_calls-returns-in_ok-note_calls-in-Receive
note_calls-returns-in_ok-note_calls-in-Receive t c =
    receive_exit (found c.args.known.now) c.args.walk.now c.args.around c.args.expr.now c.under-around.result c.under-around.ensures c.note_calls-in-Receive-2.result c.note_clauses-in-Receive.new.walk c.note_calls-in-Receive.new.walk
    c.note_calls-in-Receive-2.new.walk c.in-Receive.clauses c.as_slice-in-Receive.result.now c.in-Receive.timeout c.get-in-Receive.result.now c.in-Receive.action c.get-in-Receive-2.result.now
    c.in-Receive.is c.as_slice-in-Receive.ensures c.in_ok-note_clauses-in-Receive.ensures c.get-in-Receive.ensures c.in_ok-note_calls-in-Receive.ensures c.get-in-Receive-2.ensures c.note_calls-in-Receive-2.ensures

pub note_calls-returns-in_ok-note_calls-in-Call-2 : goal.note_calls-returns-in_ok-note_calls-in-Call-2
note_calls-returns-in_ok-note_calls-in-Call-2 t c =
    call_exit (found c.args.known.now) c.args.walk.now c.args.around c.args.expr.now c.under-around.result c.under-around.ensures c.note_all-in-Call.result c.note_call.new.self c.note_calls-in-Call.new.walk c.note_calls-in-Call-2.new.walk
    c.note_all-in-Call.new.walk c.in-Call.home c.in-Call.name c.get-in-Call.result.now c.get-in-Call-2.result.now c.get-in-Call-3.result.now c.get-in-Call-4.result.now
    c.in-Call.args c.as_slice-in-Call.result.now c.len.result c.in-Call.is c.get-in-Call.ensures c.get-in-Call-2.ensures c.len.ensures c.in_ok-note_call-in-Call.ensures c.get-in-Call-3.ensures c.in_ok-note_calls-in-Call.ensures
    c.get-in-Call-4.ensures
    c.in_ok-note_calls-in-Call-2.ensures c.as_slice-in-Call.ensures c.note_all-in-Call.ensures

pub note_calls-returns-in-Var : goal.note_calls-returns-in-Var
note_calls-returns-in-Var t c = variable_exit (found c.args.known.now) c.args.walk.now c.args.around c.args.expr.now c.in-Var.field-0 c.in-Var.is

pub note_calls-returns-in-Local : goal.note_calls-returns-in-Local
note_calls-returns-in-Local t c = local_exit (found c.args.known.now) c.args.walk.now c.args.around c.args.expr.now c.in-Local.field-0 c.in-Local.is

pub note_calls-returns-in-External : goal.note_calls-returns-in-External
note_calls-returns-in-External t c = external_exit (found c.args.known.now) c.args.walk.now c.args.around c.args.expr.now c.in-External.field-0 c.in-External.field-1 c.in-External.is

pub note_calls-returns-in-Lit : goal.note_calls-returns-in-Lit
note_calls-returns-in-Lit t c = literal_exit (found c.args.known.now) c.args.walk.now c.args.around c.args.expr.now c.in-Lit.field-0 c.in-Lit.is

pub note_pattern-returns-in-Var : goal.note_pattern-returns-in-Var
note_pattern-returns-in-Var t c = pattern_variable (found c.args.known.now) c.args.walk.now c.args.around c.args.pattern.now c.in-Var.field-0 c.in-Var.is

pub note_pattern-returns-in-Lit : goal.note_pattern-returns-in-Lit
note_pattern-returns-in-Lit t c = pattern_literal (found c.args.known.now) c.args.walk.now c.args.around c.args.pattern.now c.in-Lit.field-0 c.in-Lit.is

pub note_calls-returns-in-Primop : goal.note_calls-returns-in-Primop
note_calls-returns-in-Primop t c =
    primop_exit (found c.args.known.now) c.args.walk.now c.args.around c.args.expr.now c.under-around.result c.under-around.ensures c.note_all-in-Primop.result c.note_all-in-Primop.new.walk c.in-Primop.field-0 c.in-Primop.args
    c.as_slice-in-Primop.result.now
    c.in-Primop.is c.as_slice-in-Primop.ensures c.note_all-in-Primop.ensures
