use Rattle.std.proofs.Common.{◌++◌, sym, ap, ◌∙◌}
use Rattle.std.proofs.lemmas.Result.{on_ok_weaker}
use Rattle.core_ast.specs.Tree.{all_trees}
use Rattle.core_ast.proofs.Forms.{primop_tree}
use Rattle.core_lines.specs.Lines.{lines_of_all}
use Rattle.core_lines.specs.steps.Parts.{below}
use Rattle.core_lines.proofs.ExpressionExits.{external_exit, literal_exit, local_exit, new_map_exit, own_line, updated_map_exit, variable_exit}
use Rattle.core_lines.proofs.PatternExits.{own_pattern_line, pattern_literal, pattern_variable}
use Rattle.core_lines.proofs.Rounds.{all_round, pairs_round, segments_round, steps_round, behind_round, clauses_round, defs_round, patterns_round, pat_pairs_round, pat_segments_round}
use Rattle.core_lines.proofs.+lines.Goals as goal

pub expressions::add_all-loop-expr-preserved : goal.expressions::add_all-loop-expr-preserved
expressions::add_all-loop-expr-preserved t c = all_round c.loop-expr.out c.add_expression.new.out _ _ c.args.exprs.now c.loop-expr.expr-index c.expr-item.result c.loop-expr-test.true c.expr-item.is c.in_ok-add_expression.ensures
    c.loop-expr.invariant

pub expressions::add_pairs-loop-pair-preserved : goal.expressions::add_pairs-loop-pair-preserved
expressions::add_pairs-loop-pair-preserved t c =
    pairs_round c.loop-pair.out c.add_expression.new.out c.add_expression-in-loop-pair.new.out _ _ c.args.pairs.now c.loop-pair.pair-index c.pair-item.result c.loop-pair-test.true c.pair-item.is c.in_ok-add_expression.ensures
    c.in_ok-add_expression-2.ensures c.loop-pair.invariant

pub expressions::add_segments-loop-segment-preserved : goal.expressions::add_segments-loop-segment-preserved
expressions::add_segments-loop-segment-preserved t c =
    segments_round c.loop-segment.out c.add_expression.new.out c.add_all.new.out _ _ c.args.segments.now c.loop-segment.segment-index c.segment-item.result c.as_slice.result.now c.loop-segment-test.true c.segment-item.is
    c.in_ok-add_expression.ensures c.as_slice.ensures c.in_ok-add_all.ensures
    c.loop-segment.invariant

pub expressions::add_clauses-loop-clause-preserved : goal.expressions::add_clauses-loop-clause-preserved
expressions::add_clauses-loop-clause-preserved t c =
    clauses_round c.loop-clause.out c.add_line.new.out c.add_patterns.new.out c.add_expression.new.out c.add_expression-in-loop-clause.new.out _ _ c.noted-inner.result c.args.clauses.now c.loop-clause.clause-index c.clause-item.result
    c.as_slice.result.now c.loop-clause-test.true c.clause-item.is
    c.noted-inner.ensures c.in_ok-add_line.ensures c.as_slice.ensures c.in_ok-add_patterns.ensures c.in_ok-add_expression.ensures c.in_ok-add_expression-2.ensures c.loop-clause.invariant

pub expressions::add_definitions-loop-def-preserved : goal.expressions::add_definitions-loop-def-preserved
expressions::add_definitions-loop-def-preserved t c =
    defs_round c.loop-def.out c.add_line.new.out c.add_expression.new.out _ _ c.noted-inner.result c.args.defs.now c.loop-def.def-index c.def-item.result c.get.result.now c.loop-def-test.true c.def-item.is c.noted-inner.ensures
    c.in_ok-add_line.ensures c.get.ensures
    c.in_ok-add_expression.ensures c.loop-def.invariant

pub expressions::add_steps-loop-step-preserved : goal.expressions::add_steps-loop-step-preserved
expressions::add_steps-loop-step-preserved t c = (
  steps_round c.loop-step.out c.add_line.new.out c.add_expression.new.out _ c.loop-step.inner c.noted-inner.result c.args.steps.now c.loop-step.step-index c.step-item.result c.step_mark-mark.result c.step_expression.result.now
      c.loop-step-test.true c.step-item.is c.step_mark-mark.ensures c.noted-inner.ensures
      c.step_expression.ensures c.in_ok-add_line.ensures c.in_ok-add_expression.ensures c.loop-step.invariant.0,
  behind_round _ c.loop-step.inner c.noted-inner.result c.args.steps.now c.loop-step.step-index c.step-item.result c.step_mark-mark.result c.loop-step-test.true c.step-item.is c.step_mark-mark.ensures c.noted-inner.ensures
      c.loop-step.invariant.1,
)

pub patterns::add_patterns-loop-pattern-preserved : goal.patterns::add_patterns-loop-pattern-preserved
patterns::add_patterns-loop-pattern-preserved t c =
    patterns_round c.loop-pattern.out c.add_pattern.new.out _ _ c.args.patterns.now c.loop-pattern.pattern-index c.pattern-item.result c.loop-pattern-test.true c.pattern-item.is c.in_ok-add_pattern.ensures c.loop-pattern.invariant

pub patterns::add_pattern_pairs-loop-pair-preserved : goal.patterns::add_pattern_pairs-loop-pair-preserved
patterns::add_pattern_pairs-loop-pair-preserved t c =
    pat_pairs_round c.loop-pair.out c.add_expression.new.out c.add_pattern.new.out _ _ c.args.pairs.now c.loop-pair.pair-index c.pair-item.result c.loop-pair-test.true c.pair-item.is c.in_ok-add_expression.ensures
    c.in_ok-add_pattern.ensures c.loop-pair.invariant

pub patterns::add_pattern_segments-loop-segment-preserved : goal.patterns::add_pattern_segments-loop-segment-preserved
patterns::add_pattern_segments-loop-segment-preserved t c =
    pat_segments_round c.loop-segment.out c.add_pattern.new.out c.add_all.new.out _ _ c.args.segments.now c.loop-segment.segment-index c.segment-item.result c.as_slice.result.now c.loop-segment-test.true c.segment-item.is
    c.in_ok-add_pattern.ensures c.as_slice.ensures c.in_ok-add_all.ensures
    c.loop-segment.invariant

pub expressions::add_expression-returns : goal.expressions::add_expression-returns
expressions::add_expression-returns t c =
    on_ok_weaker c.add_parts.result (own_line c.args.out.now c.add_line.new.out c.add_parts.new.out c.args.around c.noted-inner.result c.args.expr.now c.noted-inner.ensures c.in_ok-add_line.ensures) c.add_parts.ensures

pub patterns::add_pattern-returns : goal.patterns::add_pattern-returns
patterns::add_pattern-returns t c =
    on_ok_weaker c.add_pattern_parts.result (own_pattern_line c.args.out.now c.add_line.new.out c.add_pattern_parts.new.out c.args.around c.noted-inner.result c.args.pattern.now c.noted-inner.ensures c.in_ok-add_line.ensures)
    c.add_pattern_parts.ensures

pub expressions::add_parts-returns-in-Var : goal.expressions::add_parts-returns-in-Var
expressions::add_parts-returns-in-Var t c = variable_exit c.args.out.now c.args.inner c.args.expr.now c.in-Var.field-0 c.in-Var.is

pub expressions::add_parts-returns-in-Local : goal.expressions::add_parts-returns-in-Local
expressions::add_parts-returns-in-Local t c = local_exit c.args.out.now c.args.inner c.args.expr.now c.in-Local.field-0 c.in-Local.is

pub expressions::add_parts-returns-in-External : goal.expressions::add_parts-returns-in-External
expressions::add_parts-returns-in-External t c = external_exit c.args.out.now c.args.inner c.args.expr.now c.in-External.field-0 c.in-External.field-1 c.in-External.is

pub expressions::add_parts-returns-in-Lit : goal.expressions::add_parts-returns-in-Lit
expressions::add_parts-returns-in-Lit t c = literal_exit c.args.out.now c.args.inner c.args.expr.now c.in-Lit.field-0 c.in-Lit.is

pub expressions::add_parts-returns-in-Primop : goal.expressions::add_parts-returns-in-Primop
expressions::add_parts-returns-in-Primop t c =
    on_ok_weaker c.add_all-in-Primop.result (λ one. one ∙ ap (λ z. c.args.out.now ++ lines_of_all c.args.inner (all_trees z)) c.as_slice-in-Primop.ensures
    ∙ ap (λ z. c.args.out.now ++ below c.args.inner z) (sym (primop_tree c.args.expr.now c.in-Primop.field-0 c.in-Primop.args c.in-Primop.is))) c.add_all-in-Primop.ensures

pub expressions::add_parts-returns-in-Some : goal.expressions::add_parts-returns-in-Some
expressions::add_parts-returns-in-Some t c =
    updated_map_exit c.args.out.now c.args.inner c.args.expr.now c.add_expression-in-Some.result c.add_pairs.new.out c.add_expression-in-Some.new.out c.in-Map.pairs c.as_slice-in-Map.result.now c.in-Map.updated c.in-Some.map
    c.get-in-Some.result.now c.in-Map.is c.as_slice-in-Map.ensures
    c.in_ok-add_pairs-in-Map.ensures c.in-Some.is c.get-in-Some.ensures c.add_expression-in-Some.ensures

pub expressions::add_parts-returns-in-None : goal.expressions::add_parts-returns-in-None
expressions::add_parts-returns-in-None t c =
    new_map_exit c.args.out.now c.args.inner c.args.expr.now c.in-Map.pairs c.as_slice-in-Map.result.now c.in-Map.updated c.add_pairs.new.out c.in-Map.is c.as_slice-in-Map.ensures c.in_ok-add_pairs-in-Map.ensures c.in-None.is

pub patterns::add_pattern_parts-returns-in-Var : goal.patterns::add_pattern_parts-returns-in-Var
patterns::add_pattern_parts-returns-in-Var t c = pattern_variable c.args.out.now c.args.inner c.args.pattern.now c.in-Var.field-0 c.in-Var.is

pub patterns::add_pattern_parts-returns-in-Lit : goal.patterns::add_pattern_parts-returns-in-Lit
patterns::add_pattern_parts-returns-in-Lit t c = pattern_literal c.args.out.now c.args.inner c.args.pattern.now c.in-Lit.field-0 c.in-Lit.is
