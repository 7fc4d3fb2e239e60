use Rattle.std.proofs.Common.{refl, sym, ap, subst}
use Rattle.core_ast.specs.declared.syntax.Form.TheVariants as f
use Rattle.core_ast.specs.Tree.{all_clauses, all_steps, all_trees, tree}
use Rattle.cons_gen_rows.proofs.Reading.{read_one, read_two, read_three}
use Rattle.module_flow_walk.proofs.Silence.{call_silent, case_silent, chain_silent, clauses_silent, listed_silent, literal_silent, no_clauses_silent, no_steps_silent}
use Rattle.module_flow_walk.proofs.Silence.{no_trees_silent, primop_silent, steps_silent, trees_silent, try_silent, tuple_silent, values_silent, variable_silent}
use Rattle.module_flow_walk.proofs.guards.+silent.Goals as goal

pub is_silent-returns-in-Var : goal.is_silent-returns-in-Var
is_silent-returns-in-Var t c = λ yes. variable_silent c.args.expr.now c.in-Var.field-0 c.in-Var.is

pub is_silent-returns-in-Lit : goal.is_silent-returns-in-Lit
is_silent-returns-in-Lit t c = λ yes. literal_silent c.args.expr.now c.in-Lit.field-0 c.in-Lit.is

pub is_silent-returns-else-not-are_silent : goal.is_silent-returns-else-not-are_silent
is_silent-returns-else-not-are_silent t c =
    λ yes. listed_silent c.args.expr.now c.as_slice.result.now c.get.result.now (read_two f.Listed c.in-Listed.is c.as_slice.ensures c.get.ensures) (c.are_silent.ensures c.if-not-are_silent.false) (c.is_silent.ensures yes)

pub is_silent-returns-in-Tuple : goal.is_silent-returns-in-Tuple
is_silent-returns-in-Tuple t c = λ yes. tuple_silent c.args.expr.now c.as_slice-in-Tuple.result.now (read_one f.Tuple c.in-Tuple.is c.as_slice-in-Tuple.ensures) (c.are_silent-in-Tuple.ensures yes)

pub is_silent-returns-in-Values : goal.is_silent-returns-in-Values
is_silent-returns-in-Values t c = λ yes. values_silent c.args.expr.now c.as_slice-in-Values.result.now (read_one f.Values c.in-Values.is c.as_slice-in-Values.ensures) (c.are_silent-in-Values.ensures yes)

pub is_silent-returns-else-not-are_silent_steps : goal.is_silent-returns-else-not-are_silent_steps
is_silent-returns-else-not-are_silent_steps t c =
    λ yes. chain_silent c.args.expr.now c.as_slice-in-Chain.result.now c.get-in-Chain.result.now (read_two f.Chain c.in-Chain.is c.as_slice-in-Chain.ensures c.get-in-Chain.ensures)
    (c.are_silent_steps.ensures c.if-not-are_silent_steps.false) (c.is_silent-in-Chain.ensures yes)

pub is_silent-returns-else-not-is_silent : goal.is_silent-returns-else-not-is_silent
is_silent-returns-else-not-is_silent t c =
    λ yes. case_silent c.args.expr.now c.get-in-Case.result.now c.as_slice-in-Case.result.now (read_two f.Case c.in-Case.is c.get-in-Case.ensures c.as_slice-in-Case.ensures)
    (c.is_silent-in-Case.ensures c.if-not-is_silent.false) (c.are_silent_clauses.ensures yes)

pub is_silent-returns-else-not-is_silent-3 : goal.is_silent-returns-else-not-is_silent-3
is_silent-returns-else-not-is_silent-3 t c =
    λ yes. call_silent c.args.expr.now c.get-in-Call.result.now c.get-in-Call-2.result.now c.as_slice-in-Call.result.now (read_three f.Call c.in-Call.is c.get-in-Call.ensures c.get-in-Call-2.ensures c.as_slice-in-Call.ensures)
    (c.is_silent-in-Call.ensures c.if-not-is_silent-2.false) (c.is_silent-in-Call-2.ensures c.if-not-is_silent-3.false) (c.are_silent-in-Call.ensures yes)

pub is_silent-returns-in-Primop : goal.is_silent-returns-in-Primop
is_silent-returns-in-Primop t c = λ yes. primop_silent c.args.expr.now c.in-Primop.field-0 c.as_slice-in-Primop.result.now (read_two f.Primop c.in-Primop.is refl c.as_slice-in-Primop.ensures) (c.are_silent-in-Primop.ensures yes)

pub is_silent-returns-in-Try : goal.is_silent-returns-in-Try
is_silent-returns-in-Try t c =
    λ yes. try_silent c.args.expr.now c.in-Try.parts c.in-Try.is (c.is_silent_try.ensures.argument yes) (c.is_silent_try.ensures.body yes) (c.is_silent_try.ensures.handler yes)

pub are_silent-loop-expr-preserved : goal.are_silent-loop-expr-preserved
are_silent-loop-expr-preserved t c =
    λ rest. c.loop-expr.invariant
    (trees_silent c.args.exprs.now c.loop-expr.expr-index c.expr-item.result c.loop-expr-test.true c.expr-item.is (c.is_silent.ensures c.if-not-is_silent.false) rest)

pub are_silent-returns : goal.are_silent-returns
are_silent-returns t c = λ yes. c.loop-expr.invariant (no_trees_silent c.args.exprs.now c.loop-expr.expr-index c.loop-expr-test.false)

pub are_silent_steps-loop-step-preserved : goal.are_silent_steps-loop-step-preserved
are_silent_steps-loop-step-preserved t c =
    λ rest. c.loop-step.invariant
    (steps_silent c.args.steps.now c.loop-step.step-index c.step-item.result c.step_expression.result.now c.loop-step-test.true c.step-item.is c.step_expression.ensures (c.is_silent.ensures c.if-not-is_silent.false) rest)

pub are_silent_steps-returns : goal.are_silent_steps-returns
are_silent_steps-returns t c = λ yes. c.loop-step.invariant (no_steps_silent c.args.steps.now c.loop-step.step-index c.loop-step-test.false)

pub are_silent_clauses-loop-clause-preserved : goal.are_silent_clauses-loop-clause-preserved
are_silent_clauses-loop-clause-preserved t c =
    λ rest. c.loop-clause.invariant
    (clauses_silent c.args.clauses.now c.loop-clause.clause-index c.clause-item.result c.loop-clause-test.true c.clause-item.is (c.is_silent.ensures c.if-not-is_silent.false)
    (c.is_silent-in-loop-clause.ensures c.if-not-is_silent-2.false) rest)

pub are_silent_clauses-returns : goal.are_silent_clauses-returns
are_silent_clauses-returns t c = λ yes. c.loop-clause.invariant (no_clauses_silent c.args.clauses.now c.loop-clause.clause-index c.loop-clause-test.false)
