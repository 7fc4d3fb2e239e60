use Rattle.std.proofs.Common.{Some, length, refl, sym, ap, ◌∙◌}
use Rattle.cons_gen_rows.proofs.Reading.{read_one, read_two, read_three}
use Rattle.cons_gen.proofs.+rows.Goals as goal
use Rattle.cons_gen.proofs.ControlExits.{handler_exit, handler_told, let_rows, one_clause, tried_exit, tried_told}
use Rattle.cons_gen.proofs.ExpressionExits.{variable_exit, local_exit, external_exit, literal_exit, fun_exit, listed_exit, tuple_exit, new_map_exit, updated_map_exit, binary_exit, values_exit, chain_exit}
use Rattle.cons_gen.proofs.ExpressionExits.{case_exit, letrec_exit, applied_exit, other_apply_exit, named_call_exit, other_call_exit, primop_exit, try_form, receive_exit, catch_exit, gives_told, names_told}
use Rattle.cons_gen.proofs.FormExits.{application_rows, elements_within, named_call_rows}
use Rattle.cons_gen.proofs.RowRounds.{pairs_round, segments_round}
use Rattle.core_ast.specs.Tree.{tree, all_clauses}
use Rattle.core_ast.specs.Named.{local_name}
use Rattle.core_scope.specs.Asks.{width}
use Rattle.core_ast.specs.declared.syntax.Form.TheVariants as f

pub forms::walk_application-returns : goal.forms::walk_application-returns
forms::walk_application-returns t c =
    application_rows c.args.context.now c.application.result c.args.made.now c.take.new.self c.walk_all.new.made c.application.new.self c.args.name.now c.args.args.now c.in_ok-value.value c.in_ok-slots.slots c.as_slice.result.now
    c.in_ok-value.ensures.first c.in_ok-value.ensures.taken c.in_ok-slots.ensures.slots c.in_ok-slots.ensures.rows c.as_slice.ensures c.application.ensures

pub forms::walk_elements-elements-elements-requires : goal.forms::walk_elements-elements-elements-requires
forms::walk_elements-elements-elements-requires t c =
    elements_within c.args.context.now c.args.made.now c.take.new.self c.take-2.new.self c.walk_all.new.made c.inner_cells.result c.in_ok-cells.cells c.args.items.now c.in_ok-slots.slots c.in_ok-value.ensures.taken
    c.in_ok-cells.ensures.first c.in_ok-cells.ensures.taken c.inner_cells.ensures c.in_ok-slots.ensures.slots c.in_ok-slots.ensures.rows

pub forms::walk_named_call-returns : goal.forms::walk_named_call-returns
forms::walk_named_call-returns t c =
    named_call_rows c.args.context.now c.call.result c.args.made.now c.take_run.new.self c.walk_all.new.made c.call.new.self c.args.count c.args.home.now c.args.name.now c.args.args.now c.in_ok-results.results c.as_slice.result.now
    c.in_ok-slots.slots c.as_slice-2.result.now c.in_ok-results.ensures.slots c.in_ok-results.ensures.taken c.in_ok-slots.ensures.slots c.in_ok-slots.ensures.rows c.as_slice.ensures c.as_slice-2.ensures c.call.ensures

pub forms::walk_pairs-loop-pair-preserved : goal.forms::walk_pairs-loop-pair-preserved
forms::walk_pairs-loop-pair-preserved t c =
    pairs_round c.args.context.now c.take.new.self _ _ c.loop-pair.made c.walk_expression.new.made c.walk_expression-in-loop-pair.new.made c.args.pairs.now c.loop-pair.pair-index c.pair-item.result c.loop-pair-test.true c.pair-item.is
    c.in_ok-walk_expression.ensures c.in_ok-walk_expression-2.ensures c.loop-pair.invariant

pub forms::walk_segments-loop-segment-preserved : goal.forms::walk_segments-loop-segment-preserved
forms::walk_segments-loop-segment-preserved t c =
    segments_round c.args.context.now c.args.made.now _ _ c.loop-segment.made c.walk_expression.new.made c.walk_all.new.made c.args.segments.now c.loop-segment.segment-index c.segment-item.result c.as_slice.result.now
    c.loop-segment-test.true c.segment-item.is c.in_ok-walk_expression.ensures c.as_slice.ensures c.in_ok-walk_all.ensures.rows c.loop-segment.invariant

pub control::walk_clause-returns : goal.control::walk_clause-returns
control::walk_clause-returns t c =
    one_clause c.args.context.now c.all_since.result c.args.made.now c.walk_outer.new.made c.walk_guard.new.made c.walk_passed_on.new.made _ c.all_since.new.self c.args.clause.now c.args.ask c.args.to.now c.args.values.now
    c.as_slice.result.now c.len-around.result c.count-start.result c.len-around.ensures c.count-start.ensures c.as_slice.ensures
    c.in_ok-walk_outer.ensures c.in_ok-walk_guard.ensures c.in_ok-walk_passed_on.ensures refl refl c.leave.ensures refl c.all_since.ensures

pub control::walk_let-returns : goal.control::walk_let-returns
control::walk_let-returns t c =
    let_rows c.args.context.now c.bind_all.result c.args.made.now c.take_run.new.self c.walk_passed_on.new.made c.bind_all.new.self c.args.vars.now _ c.in_ok-slots.slots c.as_slice.result.now c.as_slice-2.result.now
    c.in_ok-slots.ensures.slots c.in_ok-slots.ensures.taken c.as_slice.ensures c.in_ok-walk_passed_on.ensures c.as_slice-2.ensures c.bind_all.ensures

pub control::walk_tried-returns : goal.control::walk_tried-returns
control::walk_tried-returns t c =
    tried_told c.args.context.now c.all_since.result c.args.made.now c.all_since.new.self c.args.ask c.args.to.now c.args.parts.now.vars c.args.parts.now.arg c.args.parts.now.body c.get.result.now c.get-2.result.now c.get.ensures
    c.get-2.ensures
    (tried_exit c.args.context.now c.all_since.result c.args.made.now c.walk_first.new.made c.walk_under.new.made c.all_since.new.self c.args.ask c.args.to.now (tree c.get.result.now)
    (tree c.get-2.result.now) c.args.parts.now.vars c.as_slice.result.now c.len.result c.count-start.result c.in_ok-slots.slots c.as_slice-2.result.now
    c.count-start.ensures c.len.ensures c.in_ok-slots.ensures.slots c.in_ok-slots.ensures.rows c.as_slice.ensures c.as_slice-2.ensures c.in_ok-walk_under.ensures c.all_since.ensures)

pub control::walk_handler-returns : goal.control::walk_handler-returns
control::walk_handler-returns t c =
    handler_told c.args.context.now c.all_since.result c.args.made.now c.all_since.new.self c.args.ask c.args.to.now c.args.parts.now.catch_vars c.args.parts.now.handler c.get.result.now c.get.ensures
    (handler_exit c.args.context.now c.all_since.result c.args.made.now c.take_run.new.self c.walk_under.new.made c.all_since.new.self c.args.ask c.args.to.now
    (tree c.get.result.now) c.args.parts.now.catch_vars c.as_slice.result.now c.len.result c.count-start.result c.in_ok-slots.slots c.as_slice-2.result.now
    c.count-start.ensures c.len.ensures c.in_ok-slots.ensures.slots c.in_ok-slots.ensures.taken c.as_slice.ensures c.as_slice-2.ensures c.in_ok-walk_under.ensures c.all_since.ensures)

pub expressions::walk_expression-returns-in-Var : goal.expressions::walk_expression-returns-in-Var
expressions::walk_expression-returns-in-Var t c = variable_exit c.args.context.now c.args.ask c.variable.result c.args.made.now c.variable.new.self c.args.expr.now c.in-Var.name c.in-Var.is c.variable.ensures

pub expressions::walk_expression-returns-in-Local : goal.expressions::walk_expression-returns-in-Local
expressions::walk_expression-returns-in-Local t c = local_exit c.args.context.now c.args.ask c.function.result c.args.made.now c.function.new.self c.args.expr.now c.in-Local.name c.in-Local.is c.function.ensures

pub expressions::walk_expression-returns-in-External : goal.expressions::walk_expression-returns-in-External
expressions::walk_expression-returns-in-External t c = external_exit c.args.context.now c.args.ask c.function-in-External.result c.args.made.now c.function-in-External.new.self c.args.expr.now _ c.in-External.name c.in-External.is
    c.function-in-External.ensures

pub expressions::walk_expression-returns-in-Lit : goal.expressions::walk_expression-returns-in-Lit
expressions::walk_expression-returns-in-Lit t c = literal_exit c.args.context.now c.args.ask c.literal.result c.args.made.now c.literal.new.self c.args.expr.now c.in-Lit.literal c.in-Lit.is c.literal.ensures

pub expressions::walk_expression-returns-in-Fun : goal.expressions::walk_expression-returns-in-Fun
expressions::walk_expression-returns-in-Fun t c = fun_exit c.args.context.now c.args.ask c.function-in-Fun.result c.args.made.now c.function-in-Fun.new.self c.args.expr.now c.in-Fun.fun c.len.result c.in-Fun.is c.len.ensures
    c.function-in-Fun.ensures

pub expressions::walk_expression-returns-in_ok-list-in-Listed : goal.expressions::walk_expression-returns-in_ok-list-in-Listed
expressions::walk_expression-returns-in_ok-list-in-Listed t c =
    listed_exit c.args.context.now c.args.ask c.walk_tail.result c.args.made.now c.walk_elements.new.made c.walk_tail.new.made c.args.expr.now c.as_slice.result.now c.get.result.now c.in_ok-list-in-Listed.list.value
    c.in_ok-list-in-Listed.list.elements.cells c.in_ok-list-in-Listed.list.elements.slots
    (read_two f.Listed c.in-Listed.is c.as_slice.ensures c.get.ensures) c.in_ok-list-in-Listed.ensures.value c.in_ok-list-in-Listed.ensures.cells c.in_ok-list-in-Listed.ensures.elements c.in_ok-list-in-Listed.ensures.rows
    c.walk_tail.ensures

pub expressions::walk_expression-returns-in-Tuple : goal.expressions::walk_expression-returns-in-Tuple
expressions::walk_expression-returns-in-Tuple t c = tuple_exit c.args.context.now c.args.ask c.walk_tuple.result c.args.made.now c.walk_tuple.new.made c.args.expr.now c.as_slice-in-Tuple.result.now
    (read_one f.Tuple c.in-Tuple.is c.as_slice-in-Tuple.ensures) c.walk_tuple.ensures

pub expressions::walk_expression-returns-in-Some : goal.expressions::walk_expression-returns-in-Some
expressions::walk_expression-returns-in-Some t c =
    updated_map_exit c.args.context.now c.args.ask c.walk_updated.result c.args.made.now c.walk_pairs.new.made c.walk_updated.new.made c.args.expr.now c.as_slice-in-Map.result.now c.in-Map.updated c.get-in-Some.result.now
    c.in_ok-value-in-Map.value (read_two f.Map c.in-Map.is c.as_slice-in-Map.ensures refl) (c.in-Some.is ∙ ap Some (sym c.get-in-Some.ensures))
    c.in_ok-value-in-Map.ensures.value c.in_ok-value-in-Map.ensures.rows c.walk_updated.ensures

pub expressions::walk_expression-returns-in-None : goal.expressions::walk_expression-returns-in-None
expressions::walk_expression-returns-in-None t c =
    new_map_exit c.args.context.now c.args.ask c.bound.result c.args.made.now c.walk_pairs.new.made c.bound.new.self c.args.expr.now c.as_slice-in-Map.result.now c.in-Map.updated c.in_ok-value-in-Map.value c.kind.result
    (read_two f.Map c.in-Map.is c.as_slice-in-Map.ensures refl) c.in-None.is c.in_ok-value-in-Map.ensures.value c.in_ok-value-in-Map.ensures.rows c.kind.ensures.value c.bound.ensures

pub expressions::walk_expression-returns-in-Binary : goal.expressions::walk_expression-returns-in-Binary
expressions::walk_expression-returns-in-Binary t c = binary_exit c.args.context.now c.args.ask c.walk_binary.result c.args.made.now c.walk_binary.new.made c.args.expr.now c.as_slice-in-Binary.result.now
    (read_one f.Binary c.in-Binary.is c.as_slice-in-Binary.ensures) c.walk_binary.ensures

pub expressions::walk_expression-returns-in-Values : goal.expressions::walk_expression-returns-in-Values
expressions::walk_expression-returns-in-Values t c = values_exit c.args.context.now c.args.ask c.walk_values.result c.args.made.now c.walk_values.new.made c.args.expr.now c.as_slice-in-Values.result.now
    (read_one f.Values c.in-Values.is c.as_slice-in-Values.ensures) c.walk_values.ensures

pub expressions::walk_expression-returns-in_ok-results-in-Chain : goal.expressions::walk_expression-returns-in_ok-results-in-Chain
expressions::walk_expression-returns-in_ok-results-in-Chain t c =
    chain_exit c.args.context.now c.args.ask c.walk_last.result c.args.made.now c.walk_steps.new.made c.walk_last.new.made c.args.expr.now c.as_slice-in-Chain.result.now c.get-in-Chain.result.now c.len-around.result
    c.in_ok-results-in-Chain.results (read_two f.Chain c.in-Chain.is c.as_slice-in-Chain.ensures c.get-in-Chain.ensures)
    c.len-around.ensures c.in_ok-results-in-Chain.ensures.results c.in_ok-results-in-Chain.ensures.rows c.walk_last.ensures

pub expressions::walk_expression-returns-in_ok-case-in-Case : goal.expressions::walk_expression-returns-in_ok-case-in-Case
expressions::walk_expression-returns-in_ok-case-in-Case t c =
    case_exit c.args.context.now c.args.ask c.walk_alternatives.result c.args.made.now c.walk_argument.new.made c.walk_alternatives.new.made c.args.expr.now c.get-in-Case.result.now c.as_slice-in-Case-2.result.now c.width-count.result
    c.in_ok-case-in-Case.case.results c.in_ok-case-in-Case.case.values
    (read_two f.Case c.in-Case.is c.get-in-Case.ensures c.as_slice-in-Case-2.ensures)
    (c.width-count.ensures ∙ ap (λ z. width (all_clauses z)) (c.as_slice-in-Case.ensures ∙ sym c.as_slice-in-Case-2.ensures)) c.in_ok-case-in-Case.ensures.results c.in_ok-case-in-Case.ensures.values
    c.in_ok-case-in-Case.ensures.rows c.walk_alternatives.ensures

pub expressions::walk_expression-returns-in-Letrec : goal.expressions::walk_expression-returns-in-Letrec
expressions::walk_expression-returns-in-Letrec t c = letrec_exit c.args.context.now c.args.ask c.walk_letrec.result c.args.made.now c.walk_letrec.new.made c.args.expr.now c.as_slice-in-Letrec.result.now c.get-in-Letrec.result.now
    (read_two f.Letrec c.in-Letrec.is c.as_slice-in-Letrec.ensures c.get-in-Letrec.ensures) c.walk_letrec.ensures

pub expressions::walk_expression-returns-in-Some-local_name : goal.expressions::walk_expression-returns-in-Some-local_name
expressions::walk_expression-returns-in-Some-local_name t c =
    applied_exit c.args.context.now c.args.ask c.walk_application.result c.args.made.now c.walk_application.new.made c.args.expr.now c.get-in-Apply.result.now c.in-Some-local_name.name.now c.as_slice-in-Some-local_name.result.now
    (read_two f.Apply c.in-Apply.is c.get-in-Apply.ensures c.as_slice-in-Some-local_name.ensures) c.in-Some-local_name.ensures c.walk_application.ensures

pub expressions::walk_expression-returns-in_ok-operator-in-None-local_name : goal.expressions::walk_expression-returns-in_ok-operator-in-None-local_name
expressions::walk_expression-returns-in_ok-operator-in-None-local_name t c =
    other_apply_exit c.args.context.now c.args.ask c.walk_operands.result c.args.made.now c.walk_operator.new.made c.walk_operands.new.made c.args.expr.now c.get-in-None-local_name.result.now c.as_slice-in-None-local_name.result.now
    c.in_ok-operator-in-None-local_name.operator
    (read_two f.Apply c.in-Apply.is c.get-in-None-local_name.ensures c.as_slice-in-None-local_name.ensures)
    (ap (λ z. local_name (tree z)) (c.get-in-None-local_name.ensures ∙ sym c.get-in-Apply.ensures) ∙ c.in-None-local_name.ensures) c.in_ok-operator-in-None-local_name.ensures.slot c.in_ok-operator-in-None-local_name.ensures.rows
    c.walk_operands.ensures

pub expressions::walk_expression-returns-in-Some-call_names : goal.expressions::walk_expression-returns-in-Some-call_names
expressions::walk_expression-returns-in-Some-call_names t c =
    named_call_exit c.args.context.now c.args.ask c.walk_named_call.result c.args.made.now c.walk_named_call.new.made c.args.expr.now c.get-in-Call-3.result.now c.get-in-Call-4.result.now c.in-Some-call_names.home.now
    c.in-Some-call_names.name.now c.as_slice-in-Some-call_names.result.now c.call_gives-given.result c.call_results-count.result
    (read_three f.Call c.in-Call.is c.get-in-Call-3.ensures c.get-in-Call-4.ensures c.as_slice-in-Some-call_names.ensures) c.in-Some-call_names.ensures
    (gives_told c.get-in-Call-3.result.now c.get-in-Call-4.result.now c.get-in-Call.result.now c.get-in-Call-2.result.now c.len-in-Call.result _ c.call_gives-given.result (c.get-in-Call.ensures ∙ sym c.get-in-Call-3.ensures)
    (c.get-in-Call-2.ensures ∙ sym c.get-in-Call-4.ensures) (c.len-in-Call.ensures ∙ ap length (sym c.as_slice-in-Some-call_names.ensures)) c.call_gives-given.ensures)
    c.call_results-count.ensures c.walk_named_call.ensures

pub expressions::walk_expression-returns-in_ok-walk_all-in-None-call_names : goal.expressions::walk_expression-returns-in_ok-walk_all-in-None-call_names
expressions::walk_expression-returns-in_ok-walk_all-in-None-call_names t c =
    other_call_exit c.args.context.now c.args.ask c.args.made.now c.take.new.self c.walk_expression.new.made c.walk_expression-in-None-call_names.new.made c.walk_all.new.made c.args.expr.now c.get-in-None-call_names.result.now
    c.get-in-None-call_names-2.result.now c.as_slice-in-None-call_names.result.now c.call_gives-given.result c.call_results-count.result
    (read_three f.Call c.in-Call.is c.get-in-None-call_names.ensures c.get-in-None-call_names-2.ensures c.as_slice-in-None-call_names.ensures)
    (names_told c.get-in-None-call_names.result.now c.get-in-None-call_names-2.result.now c.get-in-Call-3.result.now c.get-in-Call-4.result.now (c.get-in-None-call_names.ensures ∙ sym c.get-in-Call-3.ensures)
    (c.get-in-None-call_names-2.ensures ∙ sym c.get-in-Call-4.ensures) ∙ c.in-None-call_names.ensures)
    (gives_told c.get-in-None-call_names.result.now c.get-in-None-call_names-2.result.now c.get-in-Call.result.now c.get-in-Call-2.result.now c.len-in-Call.result _ c.call_gives-given.result
    (c.get-in-Call.ensures ∙ sym c.get-in-None-call_names.ensures) (c.get-in-Call-2.ensures ∙ sym c.get-in-None-call_names-2.ensures)
    (c.len-in-Call.ensures ∙ ap length (sym c.as_slice-in-None-call_names.ensures)) c.call_gives-given.ensures)
    c.call_results-count.ensures c.in_ok-take-in-None-call_names.ensures.taken c.in_ok-walk_expression-in-None-call_names.ensures c.in_ok-walk_expression-in-None-call_names-2.ensures c.in_ok-walk_all-in-None-call_names.ensures.rows

pub expressions::walk_expression-returns-in-Primop : goal.expressions::walk_expression-returns-in-Primop
expressions::walk_expression-returns-in-Primop t c = primop_exit c.args.context.now c.args.ask c.walk_primop.result c.args.made.now c.walk_primop.new.made c.args.expr.now c.in-Primop.name c.as_slice-in-Primop.result.now
    (read_two f.Primop c.in-Primop.is refl c.as_slice-in-Primop.ensures) c.walk_primop.ensures

pub expressions::walk_expression-returns-in-Try : goal.expressions::walk_expression-returns-in-Try
expressions::walk_expression-returns-in-Try t c = try_form c.args.context.now c.args.ask c.walk_try.result c.args.made.now c.walk_try.new.made c.args.expr.now c.in-Try.parts c.in-Try.is c.walk_try.ensures

pub expressions::walk_expression-returns-in_ok-walk_action-in-Receive : goal.expressions::walk_expression-returns-in_ok-walk_action-in-Receive
expressions::walk_expression-returns-in_ok-walk_action-in-Receive t c =
    receive_exit c.args.context.now c.args.ask c.any_since.result c.args.made.now c.walk_messages.new.made c.walk_expression-in-Receive.new.made c.rotate-start.new.self c.walk_action.new.made c.any_since.new.self c.args.expr.now
    c.as_slice-in-Receive.result.now c.get-in-Receive.result.now c.get-in-Receive-2.result.now
    c.in_ok-receive-in-Receive.receive.results c.in_ok-receive-in-Receive.receive.start c.count-middle.result c.walk_messages.new.made.next c.rotate-start.result
    (read_three f.Receive c.in-Receive.is c.as_slice-in-Receive.ensures c.get-in-Receive.ensures c.get-in-Receive-2.ensures) c.in_ok-receive-in-Receive.ensures.results
    c.in_ok-receive-in-Receive.ensures.start c.in_ok-receive-in-Receive.ensures.rows refl c.count-middle.ensures c.in_ok-walk_expression-in-Receive.ensures c.rotate-start.ensures.start c.rotate-start.ensures.rows
    c.in_ok-walk_action-in-Receive.ensures c.any_since.ensures

pub expressions::walk_expression-returns-in-Catch : goal.expressions::walk_expression-returns-in-Catch
expressions::walk_expression-returns-in-Catch t c = catch_exit c.args.context.now c.args.ask c.free.result c.args.made.now c.free.new.self c.args.expr.now c.in-Catch.field-0 c.in-Catch.is c.free.ensures
