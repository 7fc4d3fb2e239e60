use Rattle.std.proofs.Common.{Ok, ◌∙◌}
use Rattle.core_ast.specs.Tree.{tree}
use Rattle.core_scope.specs.Names.{bound_by}
use Rattle.core_scope.specs.Breaks.{new_variables, breaks}
use Rattle.core_scope.proofs.PatternExits.{patterns_round, pat_pairs_round, pat_segments_round}
use Rattle.core_scope.proofs.ExpressionExits.{variable_exit, local_exit, constant_exit, new_map_exit, updated_map_exit}
use Rattle.core_scope.proofs.WalkExits.{let_exit, do_exit, all_round, pairs_round, segments_round, clauses_round, defs_round, steps_round, under_exit, chain_exit, letrec_exit, try_parts_exit, clause_exit}
use Rattle.core_scope.proofs.+scope.Goals as goal
use Rattle.core_scope.proofs.+scope.Goals.{expressions::walk_steps-in-Let+in_ok-walk_expression-in-Let+in_ok-bind_all-in-Let, expressions::walk_steps-in-Do+in_ok-walk_expression-in-Do}

pub expressions::walk_all-loop-expr-preserved : goal.expressions::walk_all-loop-expr-preserved
expressions::walk_all-loop-expr-preserved t c = all_round c.loop-expr.walk c.walk_expression.new.walk _ c.args.exprs.now c.loop-expr.expr-index c.expr-item.result c.loop-expr-test.true c.expr-item.is c.in_ok-walk_expression.ensures
    c.loop-expr.invariant

pub expressions::walk_clause-returns : goal.expressions::walk_clause-returns
expressions::walk_clause-returns t c =
    clause_exit c.args.walk.now c.test.new.self c.walk_patterns.new.walk c.walk_expression.new.walk c.walk_expression-2.new.walk c.args.clause.now c.args.ask c.args.count c.len.result c.len-around.result c.as_slice.result.now
    c.leave.new.self c.len.ensures c.test.ensures c.len-around.ensures
    c.as_slice.ensures c.in_ok-walk_patterns.ensures c.in_ok-walk_expression.ensures c.in_ok-walk_expression-2.ensures c.leave.ensures

pub expressions::walk_clauses-loop-clause-preserved : goal.expressions::walk_clauses-loop-clause-preserved
expressions::walk_clauses-loop-clause-preserved t c = clauses_round c.loop-clause.walk c.walk_clause.new.walk _ c.args.ask c.args.count c.args.clauses.now c.loop-clause.clause-index c.clause-item.result c.loop-clause-test.true
    c.clause-item.is c.in_ok-walk_clause.ensures c.loop-clause.invariant

pub expressions::walk_definitions-loop-def-preserved : goal.expressions::walk_definitions-loop-def-preserved
expressions::walk_definitions-loop-def-preserved t c =
    defs_round c.loop-def.walk c.arity.new.self c.walk_under.new.walk _ c.args.defs.now c.loop-def.def-index c.def-item.result c.as_slice.result.now c.get.result.now c.loop-def-test.true c.def-item.is c.arity.ensures c.as_slice.ensures
    c.get.ensures c.in_ok-walk_under.ensures c.loop-def.invariant

pub expressions::walk_expression-returns-in-Var : goal.expressions::walk_expression-returns-in-Var
expressions::walk_expression-returns-in-Var t c = variable_exit c.args.walk.now c.degree.new.self c.args.ask c.args.expr.now c.degree.ensures c.in-Var.name c.use_variable.new.self c.in-Var.is c.use_variable.ensures

pub expressions::walk_expression-returns-in-Local : goal.expressions::walk_expression-returns-in-Local
expressions::walk_expression-returns-in-Local t c = local_exit c.args.walk.now c.degree.new.self c.args.ask c.args.expr.now c.degree.ensures c.in-Local.name c.use_function.new.self c.in-Local.is c.use_function.ensures

pub expressions::walk_expression-returns-in-External : goal.expressions::walk_expression-returns-in-External
expressions::walk_expression-returns-in-External t c = constant_exit c.args.walk.now c.degree.new.self c.args.ask c.args.expr.now c.degree.ensures c.in-External.is

pub expressions::walk_expression-returns-in-External-2 : goal.expressions::walk_expression-returns-in-External-2
expressions::walk_expression-returns-in-External-2 t c = constant_exit c.args.walk.now c.degree.new.self c.args.ask c.args.expr.now c.degree.ensures c.in-External.is

pub expressions::walk_expression-returns-in_ok-walk_expression-in-Chain : goal.expressions::walk_expression-returns-in_ok-walk_expression-in-Chain
expressions::walk_expression-returns-in_ok-walk_expression-in-Chain t c =
    chain_exit c.args.walk.now c.degree.new.self c.walk_steps.new.walk c.walk_expression-in-Chain.new.walk c.args.ask c.args.expr.now c.in-Chain.steps c.as_slice-in-Chain.result.now c.in-Chain.last c.get-in-Chain.result.now
    c.len-around.result c.leave.new.self c.degree.ensures c.in-Chain.is
    c.len-around.ensures c.as_slice-in-Chain.ensures c.in_ok-walk_steps-in-Chain.ensures c.get-in-Chain.ensures c.in_ok-walk_expression-in-Chain.ensures c.leave.ensures

pub expressions::walk_expression-returns-in_ok-walk_expression-in-Letrec : goal.expressions::walk_expression-returns-in_ok-walk_expression-in-Letrec
expressions::walk_expression-returns-in_ok-walk_expression-in-Letrec t c =
    letrec_exit c.args.walk.now c.degree.new.self c.define_all.new.self c.walk_definitions.new.walk c.walk_expression-in-Letrec.new.walk c.args.ask c.args.expr.now c.in-Letrec.defs c.as_slice-in-Letrec.result.now
    c.as_slice-in-Letrec-2.result.now c.in-Letrec.body c.get-in-Letrec.result.now
    c.len-around-in-Letrec.result c.leave-in-Letrec.new.self c.degree.ensures c.in-Letrec.is c.len-around-in-Letrec.ensures c.as_slice-in-Letrec.ensures c.in_ok-define_all-in-Letrec.ensures c.as_slice-in-Letrec-2.ensures
    c.in_ok-walk_definitions-in-Letrec.ensures c.get-in-Letrec.ensures
    c.in_ok-walk_expression-in-Letrec.ensures c.leave-in-Letrec.ensures

pub expressions::walk_pairs-loop-pair-preserved : goal.expressions::walk_pairs-loop-pair-preserved
expressions::walk_pairs-loop-pair-preserved t c =
    pairs_round c.loop-pair.walk c.walk_expression.new.walk c.walk_expression-in-loop-pair.new.walk _ c.args.pairs.now c.loop-pair.pair-index c.pair-item.result c.loop-pair-test.true c.pair-item.is c.in_ok-walk_expression.ensures
    c.in_ok-walk_expression-2.ensures c.loop-pair.invariant

pub expressions::walk_segments-loop-segment-preserved : goal.expressions::walk_segments-loop-segment-preserved
expressions::walk_segments-loop-segment-preserved t c =
    segments_round c.loop-segment.walk c.walk_expression.new.walk c.walk_all.new.walk _ c.args.segments.now c.loop-segment.segment-index c.segment-item.result c.as_slice.result.now c.loop-segment-test.true c.segment-item.is
    c.in_ok-walk_expression.ensures c.as_slice.ensures c.in_ok-walk_all.ensures
    c.loop-segment.invariant

pub expressions::walk_under-returns : goal.expressions::walk_under-returns
expressions::walk_under-returns t c =
    under_exit c.args.walk.now c.bind_all.new.self c.walk_expression.new.walk c.len-around.result c.leave.new.self (bound_by c.args.vars.now) (new_variables _ c.args.vars.now)
    (λ s. breaks s c.args.ask (tree c.args.body.now)) c.len-around.ensures c.in_ok-bind_all.ensures c.in_ok-walk_expression.ensures
    c.leave.ensures

pub expressions::walk_try-returns : goal.expressions::walk_try-returns
expressions::walk_try-returns t c =
    try_parts_exit c.walk_under-2.result c.args.walk.now c.test.new.self c.walk_expression.new.walk c.walk_under.new.walk c.walk_under-2.new.walk c.args.ask c.args.mark c.args.parts.now c.len.result c.get.result.now c.get-2.result.now
    c.get-3.result.now c.as_slice-2.result.now c.as_slice-3.result.now
    c.as_slice.result.now c.catches_fit-holds.result c.as_slice.ensures c.catches_fit-holds.ensures c.test.ensures c.len.ensures c.get.ensures c.in_ok-walk_expression.ensures c.as_slice-2.ensures c.get-2.ensures c.in_ok-walk_under.ensures
    c.as_slice-3.ensures c.get-3.ensures c.walk_under-2.ensures

pub patterns::walk_patterns-loop-pattern-preserved : goal.patterns::walk_patterns-loop-pattern-preserved
patterns::walk_patterns-loop-pattern-preserved t c =
    patterns_round c.loop-pattern.walk c.walk_pattern.new.walk _ c.args.from c.args.patterns.now c.loop-pattern.pattern-index c.pattern-item.result c.loop-pattern-test.true c.pattern-item.is c.loop-pattern.invariant.within
    c.in_ok-walk_pattern.ensures c.loop-pattern.invariant.so_far

pub patterns::walk_pattern_pairs-loop-pair-preserved : goal.patterns::walk_pattern_pairs-loop-pair-preserved
patterns::walk_pattern_pairs-loop-pair-preserved t c =
    pat_pairs_round c.loop-pair.walk c.walk_expression.new.walk c.walk_pattern.new.walk _ c.args.from c.args.pairs.now c.loop-pair.pair-index c.pair-item.result c.loop-pair-test.true c.pair-item.is c.loop-pair.invariant.within
    c.in_ok-walk_expression.ensures c.in_ok-walk_pattern.ensures c.loop-pair.invariant.so_far

pub patterns::walk_pattern_segments-loop-segment-preserved : goal.patterns::walk_pattern_segments-loop-segment-preserved
patterns::walk_pattern_segments-loop-segment-preserved t c =
    pat_segments_round c.loop-segment.walk c.walk_pattern.new.walk c.walk_all.new.walk _ c.args.from c.args.segments.now c.loop-segment.segment-index c.segment-item.result c.as_slice.result.now c.loop-segment-test.true c.segment-item.is
    c.loop-segment.invariant.within c.in_ok-walk_pattern.ensures
    c.as_slice.ensures c.in_ok-walk_all.ensures c.loop-segment.invariant.so_far

pub expressions::walk_expression-returns-in-Some : goal.expressions::walk_expression-returns-in-Some
expressions::walk_expression-returns-in-Some t c =
    updated_map_exit c.args.walk.now c.degree.new.self c.args.ask c.args.expr.now c.degree.ensures c.walk_expression-in-Some.result c.walk_pairs.new.walk c.walk_expression-in-Some.new.walk c.in-Map.pairs c.as_slice-in-Map.result.now
    c.in-Map.updated c.in-Some.map c.get-in-Some.result.now c.in-Map.is
    c.as_slice-in-Map.ensures c.in_ok-walk_pairs-in-Map.ensures c.in-Some.is c.get-in-Some.ensures c.walk_expression-in-Some.ensures

pub expressions::walk_expression-returns-in-None : goal.expressions::walk_expression-returns-in-None
expressions::walk_expression-returns-in-None t c =
    new_map_exit c.args.walk.now c.degree.new.self c.args.ask c.args.expr.now c.degree.ensures c.in-Map.pairs c.as_slice-in-Map.result.now c.in-Map.updated c.walk_pairs.new.walk c.in-Map.is c.as_slice-in-Map.ensures
    c.in_ok-walk_pairs-in-Map.ensures c.in-None.is

pub expressions::walk_steps-loop-step-preserved : goal.expressions::walk_steps-loop-step-preserved
expressions::walk_steps-loop-step-preserved t c = elim c.match-step.branch [
  | expressions::walk_steps-in-Let+in_ok-walk_expression-in-Let+in_ok-bind_all-in-Let w ↦
      steps_round c.loop-step.walk c.match-step.walk _ c.args.steps.now c.loop-step.step-index c.step-item.result c.loop-step-test.true c.step-item.is
      (w.walk-is ∙ let_exit (Ok tt) c.loop-step.walk w.walk_expression.new.walk w.bind_all.new.self c.step-item.result _ _ w.as_slice.result.now _ w.len.result w.in-Let.is w.len.ensures w.as_slice.ensures
      w.in_ok-walk_expression-in-Let.ensures w.in_ok-bind_all-in-Let.ensures)
      c.loop-step.invariant
  | expressions::walk_steps-in-Do+in_ok-walk_expression-in-Do w ↦
      steps_round c.loop-step.walk c.match-step.walk _ c.args.steps.now c.loop-step.step-index c.step-item.result c.loop-step-test.true c.step-item.is
      (w.walk-is ∙ do_exit (Ok tt) c.loop-step.walk w.walk_expression-in-Do.new.walk c.step-item.result _ _ w.in-Do.is w.in_ok-walk_expression-in-Do.ensures) c.loop-step.invariant
]
