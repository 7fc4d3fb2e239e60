use Rattle.std.proofs.Common.{◌++◌, Some, length, map, refl, subst, sym, ap, ◌∙◌, arith}
use Rattle.std.proofs.lemmas.Result.{on_ok_weaker}
use Rattle.core_ast.specs.declared.syntax.Form.TheVariants as f
use Rattle.core_ast.specs.declared.syntax.PatForm.TheVariants as pf
use Rattle.core_ast.specs.Lengths.{how_many}
use Rattle.core_ast.specs.Model as m
use Rattle.core_ast.specs.Named.{literal_atom}
use Rattle.core_ast.proofs.Items.{how_many-length}
use Rattle.core_ast.specs.Tree.{all_clauses, all_defs, all_pairs, all_segments, all_steps, all_trees, tree}
use Rattle.core_scope.specs.Asks.{one_value}
use Rattle.fun_flow_places.specs.Naming.{place_named}
use Rattle.fun_flow_places.specs.declared.places.FlowPlace.TheVariants as p
use Rattle.fun_flow_rules.specs.steps.Walking.{Walks, with_variables}
use Rattle.fun_flow_rules.proofs.Calls.{call_makes, named_makes, named_place, undefined_makes, undefined_place, value_makes, value_place, wrong_makes, wrong_place}
use Rattle.fun_flow_rules.proofs.ControlForms.{case_makes, chain_makes, clause_told, clauses_end, clauses_round, definition_told, definitions_end, definitions_round, do_told, gives_inside}
use Rattle.fun_flow_rules.proofs.ControlForms.{joined_step, let_told, letrec_gives, letrec_makes, receive_makes, steps_end, steps_round, try_makes, under_step, with_functions}
use Rattle.fun_flow_rules.proofs.ExpressionExits.{variable_exit, local_exit, external_exit, literal_exit, fun_exit, listed_exit, tuple_exit, new_map_exit, updated_map_exit, binary_exit}
use Rattle.fun_flow_rules.proofs.ExpressionExits.{values_exit, chain_exit, case_exit, letrec_exit, apply_exit, call_exit, primop_exit, try_exit, receive_exit, catch_exit}
use Rattle.fun_flow_rules.proofs.Forms.{body_makes, fun_makes, joined_makes, one_exit, part_named, parts_exit, tail_makes}
use Rattle.fun_flow_rules.proofs.Loops.{heads_end, heads_round, pair_places_end, pair_places_round, pairs_end, pairs_round, pat_pairs_end, pat_pairs_round, pat_segments_end}
use Rattle.fun_flow_rules.proofs.Loops.{pat_segments_round, patterns_end, patterns_round, places_end, places_round, segments_end, segments_round, trees_end, trees_round}
use Rattle.fun_flow_rules.proofs.PatternExits.{alias_exit, binary_of_exit, binds_exit, list_of_exit, map_of_exit, tuple_of_exit}
use Rattle.fun_flow_rules.proofs.Steps.{entering_begins, going_begins, sees_on}
use Rattle.fun_flow_sets.specs.Items as s
use Rattle.fun_flow_sets.specs.Rules.{call_place, places_of_all, places_of_pairs, rules_of_all, rules_of_pairs}
use Rattle.fun_flow_sets.specs.Scopes.{first}
use Rattle.fun_flow_rules.proofs.+rules.Goals as goal

pub expressions::walk_expression-returns-in-Var : goal.expressions::walk_expression-returns-in-Var
expressions::walk_expression-returns-in-Var t c =
    variable_exit c.walk_variable.result c.args.walk.now c.walk_variable.new.walk c.args.ask c.args.expr.now c.in-Var.name c.in-Var.is c.walk_variable.ensures

pub expressions::walk_expression-returns-in-Local : goal.expressions::walk_expression-returns-in-Local
expressions::walk_expression-returns-in-Local t c =
    local_exit c.walk_name.result c.args.walk.now c.walk_name.new.walk c.args.ask c.args.expr.now c.in-Local.name c.in-Local.is c.walk_name.ensures

pub expressions::walk_expression-returns-in-External : goal.expressions::walk_expression-returns-in-External
expressions::walk_expression-returns-in-External t c =
    external_exit c.walk_external.result c.args.walk.now c.walk_external.new.walk c.args.ask c.args.expr.now c.in-External.home c.in-External.name c.in-External.is c.walk_external.ensures

pub expressions::walk_expression-returns-in-Lit : goal.expressions::walk_expression-returns-in-Lit
expressions::walk_expression-returns-in-Lit t c =
    literal_exit c.one.result c.args.walk.now c.args.ask c.args.expr.now _ c.in-Lit.is c.one.ensures

pub expressions::walk_expression-returns-in-Fun : goal.expressions::walk_expression-returns-in-Fun
expressions::walk_expression-returns-in-Fun t c =
    fun_exit c.walk_fun.result c.args.walk.now c.walk_fun.new.walk c.args.ask c.args.expr.now c.in-Fun.fun c.in-Fun.is c.walk_fun.ensures

pub expressions::walk_expression-returns-in-Listed : goal.expressions::walk_expression-returns-in-Listed
expressions::walk_expression-returns-in-Listed t c =
    listed_exit c.walk_listed.result c.args.walk.now c.walk_listed.new.walk c.args.ask c.args.expr.now c.as_slice.result.now c.get.result.now
    (c.in-Listed.is ∙ ap (λ x. f.Listed x c.in-Listed.tail) (sym c.as_slice.ensures) ∙ ap (f.Listed c.as_slice.result.now) (sym c.get.ensures)) c.walk_listed.ensures

pub expressions::walk_expression-returns-in-Tuple : goal.expressions::walk_expression-returns-in-Tuple
expressions::walk_expression-returns-in-Tuple t c =
    tuple_exit c.walk_tuple.result c.args.walk.now c.walk_tuple.new.walk c.args.ask c.args.expr.now c.as_slice-in-Tuple.result.now (c.in-Tuple.is ∙ ap f.Tuple (sym c.as_slice-in-Tuple.ensures)) c.walk_tuple.ensures

pub expressions::walk_expression-returns-in-Some : goal.expressions::walk_expression-returns-in-Some
expressions::walk_expression-returns-in-Some t c =
    updated_map_exit c.walk_updated_map.result c.args.walk.now c.walk_updated_map.new.walk c.args.ask c.args.expr.now c.as_slice-in-Some.result.now c.get-in-Some.result.now
    (c.in-Map.is ∙ ap (λ x. f.Map x c.in-Map.updated) (sym c.as_slice-in-Some.ensures) ∙ ap (f.Map c.as_slice-in-Some.result.now) (c.in-Some.is ∙ ap Some (sym c.get-in-Some.ensures))) c.walk_updated_map.ensures

pub expressions::walk_expression-returns-in-None : goal.expressions::walk_expression-returns-in-None
expressions::walk_expression-returns-in-None t c =
    new_map_exit c.walk_new_map.result c.args.walk.now c.walk_new_map.new.walk c.args.ask c.args.expr.now c.as_slice-in-None.result.now
    (c.in-Map.is ∙ ap (λ x. f.Map x c.in-Map.updated) (sym c.as_slice-in-None.ensures) ∙ ap (f.Map c.as_slice-in-None.result.now) c.in-None.is) c.walk_new_map.ensures

pub expressions::walk_expression-returns-in-Binary : goal.expressions::walk_expression-returns-in-Binary
expressions::walk_expression-returns-in-Binary t c =
    binary_exit c.walk_binary.result c.args.walk.now c.walk_binary.new.walk c.args.ask c.args.expr.now c.as_slice-in-Binary.result.now (c.in-Binary.is ∙ ap f.Binary (sym c.as_slice-in-Binary.ensures)) c.walk_binary.ensures

pub expressions::walk_expression-returns-in-Values : goal.expressions::walk_expression-returns-in-Values
expressions::walk_expression-returns-in-Values t c =
    values_exit c.walk_all.result c.args.walk.now c.walk_all.new.walk c.args.ask c.args.expr.now c.as_slice-in-Values.result.now (c.in-Values.is ∙ ap f.Values (sym c.as_slice-in-Values.ensures)) c.walk_all.ensures

pub expressions::walk_expression-returns-in-Chain : goal.expressions::walk_expression-returns-in-Chain
expressions::walk_expression-returns-in-Chain t c =
    chain_exit c.walk_chain.result c.args.walk.now c.walk_chain.new.walk c.args.ask c.args.expr.now c.as_slice-in-Chain.result.now c.get-in-Chain.result.now
    (c.in-Chain.is ∙ ap (λ x. f.Chain x c.in-Chain.last) (sym c.as_slice-in-Chain.ensures) ∙ ap (f.Chain c.as_slice-in-Chain.result.now) (sym c.get-in-Chain.ensures)) c.walk_chain.ensures

pub expressions::walk_expression-returns-in-Case : goal.expressions::walk_expression-returns-in-Case
expressions::walk_expression-returns-in-Case t c =
    case_exit c.walk_case.result c.args.walk.now c.walk_case.new.walk c.args.ask c.args.expr.now c.get-in-Case.result.now c.as_slice-in-Case.result.now
    (c.in-Case.is ∙ ap (λ x. f.Case x c.in-Case.clauses) (sym c.get-in-Case.ensures) ∙ ap (f.Case c.get-in-Case.result.now) (sym c.as_slice-in-Case.ensures)) c.walk_case.ensures

pub expressions::walk_expression-returns-in-Letrec : goal.expressions::walk_expression-returns-in-Letrec
expressions::walk_expression-returns-in-Letrec t c =
    letrec_exit c.walk_letrec.result c.args.walk.now c.walk_letrec.new.walk c.args.ask c.args.expr.now c.as_slice-in-Letrec.result.now c.get-in-Letrec.result.now
    (c.in-Letrec.is ∙ ap (λ x. f.Letrec x c.in-Letrec.body) (sym c.as_slice-in-Letrec.ensures) ∙ ap (f.Letrec c.as_slice-in-Letrec.result.now) (sym c.get-in-Letrec.ensures)) c.walk_letrec.ensures

pub expressions::walk_expression-returns-in-Apply : goal.expressions::walk_expression-returns-in-Apply
expressions::walk_expression-returns-in-Apply t c =
    apply_exit c.walk_apply.result c.args.walk.now c.walk_apply.new.walk c.args.ask c.args.expr.now c.get-in-Apply.result.now c.as_slice-in-Apply.result.now
    (c.in-Apply.is ∙ ap (λ x. f.Apply x c.in-Apply.args) (sym c.get-in-Apply.ensures) ∙ ap (f.Apply c.get-in-Apply.result.now) (sym c.as_slice-in-Apply.ensures)) c.walk_apply.ensures

pub expressions::walk_expression-returns-in-Call : goal.expressions::walk_expression-returns-in-Call
expressions::walk_expression-returns-in-Call t c =
    call_exit c.walk_call.result c.args.walk.now c.walk_call.new.walk c.args.ask c.args.expr.now c.get-in-Call.result.now c.get-in-Call-2.result.now c.as_slice-in-Call.result.now
    (c.in-Call.is ∙ ap (λ x. f.Call x c.in-Call.name c.in-Call.args) (sym c.get-in-Call.ensures) ∙ ap (λ x. f.Call c.get-in-Call.result.now x c.in-Call.args) (sym c.get-in-Call-2.ensures)
    ∙ ap (f.Call c.get-in-Call.result.now c.get-in-Call-2.result.now) (sym c.as_slice-in-Call.ensures)) c.walk_call.ensures

pub expressions::walk_expression-returns-in-Primop : goal.expressions::walk_expression-returns-in-Primop
expressions::walk_expression-returns-in-Primop t c =
    primop_exit c.walk_primop.result c.args.walk.now c.walk_primop.new.walk c.args.ask c.args.expr.now _ c.as_slice-in-Primop.result.now (c.in-Primop.is ∙ ap (f.Primop _) (sym c.as_slice-in-Primop.ensures)) c.walk_primop.ensures

pub expressions::walk_expression-returns-in-Try : goal.expressions::walk_expression-returns-in-Try
expressions::walk_expression-returns-in-Try t c =
    try_exit c.walk_try.result c.args.walk.now c.walk_try.new.walk c.args.ask c.args.expr.now c.in-Try.parts c.in-Try.is c.walk_try.ensures

pub expressions::walk_expression-returns-in-Receive : goal.expressions::walk_expression-returns-in-Receive
expressions::walk_expression-returns-in-Receive t c =
    receive_exit c.walk_receive.result c.args.walk.now c.walk_receive.new.walk c.args.ask c.args.expr.now c.as_slice-in-Receive.result.now c.get-in-Receive.result.now c.get-in-Receive-2.result.now
    (c.in-Receive.is ∙ ap (λ x. f.Receive x c.in-Receive.timeout c.in-Receive.action) (sym c.as_slice-in-Receive.ensures) ∙ ap (λ x. f.Receive c.as_slice-in-Receive.result.now x c.in-Receive.action) (sym c.get-in-Receive.ensures)
    ∙ ap (f.Receive c.as_slice-in-Receive.result.now c.get-in-Receive.result.now) (sym c.get-in-Receive-2.ensures)) c.walk_receive.ensures

pub expressions::walk_expression-returns-in-Catch : goal.expressions::walk_expression-returns-in-Catch
expressions::walk_expression-returns-in-Catch t c =
    catch_exit c.walk_catch.result c.args.walk.now c.walk_catch.new.walk c.args.ask c.args.expr.now c.get-in-Catch.result.now (c.in-Catch.is ∙ ap f.Catch (sym c.get-in-Catch.ensures)) c.walk_catch.ensures

pub expressions::walk_one-returns : goal.expressions::walk_one-returns
expressions::walk_one-returns t c =
    (c.in_ok-places.ensures.0, λ U home sc s. c.first.ensures U ∙ ap (λ l. first (map (place_named U) l)) c.as_slice.ensures ∙ ap first (c.in_ok-places.ensures.1 U home sc s))

pub expressions::walk_all-loop-expr-init : goal.expressions::walk_all-loop-expr-init
expressions::walk_all-loop-expr-init t c =
    (going_begins c.args.walk.now _, λ U home sc s. ap (λ l. map (place_named U) l ++ places_of_all U home sc (all_trees c.args.exprs.now)) c.new-places.ensures)

pub expressions::walk_all-loop-expr-preserved : goal.expressions::walk_all-loop-expr-preserved
expressions::walk_all-loop-expr-preserved t c = (
  trees_round c.args.walk.now c.loop-expr.walk c.walk_one.new.walk c.args.exprs.now c.loop-expr.expr-index c.expr-item.result _ c.loop-expr-test.true c.expr-item.is c.in_ok-place.ensures.0 c.loop-expr.invariant.0,
  places_round c.args.walk.now c.loop-expr.walk c.args.exprs.now c.loop-expr.expr-index c.expr-item.result c.loop-expr.places c.add.new.self c.in_ok-place.place c.loop-expr-test.true c.expr-item.is c.loop-expr.invariant.0.rest
      c.in_ok-place.ensures.1 c.in_ok-add.ensures.ok c.loop-expr.invariant.1,
)

pub expressions::walk_all-returns : goal.expressions::walk_all-returns
expressions::walk_all-returns t c = (
  trees_end c.args.walk.now c.loop-expr.walk c.args.exprs.now c.loop-expr.expr-index _
      (let t = c.loop-expr-test.false in omega arith) c.loop-expr.invariant.0,
  places_end c.args.walk.now c.args.exprs.now c.loop-expr.expr-index c.loop-expr.places (let t = c.loop-expr-test.false in omega arith) c.loop-expr.invariant.1,
)

pub expressions::walk_pairs-loop-pair-init : goal.expressions::walk_pairs-loop-pair-init
expressions::walk_pairs-loop-pair-init t c =
    (going_begins c.args.walk.now _, λ U home sc s. ap (λ l. map (place_named U) l ++ places_of_pairs U home sc (all_pairs c.args.pairs.now)) c.new-places.ensures)

pub expressions::walk_pairs-loop-pair-preserved : goal.expressions::walk_pairs-loop-pair-preserved
expressions::walk_pairs-loop-pair-preserved t c = (
  pairs_round c.args.walk.now c.loop-pair.walk c.walk_one.new.walk c.walk_one-in-loop-pair.new.walk c.args.pairs.now c.loop-pair.pair-index c.pair-item.result _ c.loop-pair-test.true c.pair-item.is c.in_ok-key.ensures.0
      c.in_ok-value.ensures.0 c.loop-pair.invariant.0,
  pair_places_round c.args.walk.now c.loop-pair.walk c.walk_one.new.walk c.args.pairs.now c.loop-pair.pair-index c.pair-item.result c.loop-pair.places c.add.new.self c.add-in-loop-pair.new.self c.in_ok-key.key c.in_ok-value.value
      c.loop-pair-test.true c.pair-item.is c.loop-pair.invariant.0.rest c.in_ok-key.ensures.0.rest c.in_ok-key.ensures.1 c.in_ok-value.ensures.1 c.in_ok-add.ensures.ok c.in_ok-add-2.ensures.ok c.loop-pair.invariant.1,
)

pub expressions::walk_pairs-returns : goal.expressions::walk_pairs-returns
expressions::walk_pairs-returns t c = (
  pairs_end c.args.walk.now c.loop-pair.walk c.args.pairs.now c.loop-pair.pair-index _
      (let t = c.loop-pair-test.false in omega arith) c.loop-pair.invariant.0,
  pair_places_end c.args.walk.now c.args.pairs.now c.loop-pair.pair-index c.loop-pair.places (let t = c.loop-pair-test.false in omega arith) c.loop-pair.invariant.1,
)

pub expressions::walk_binary-loop-segment-init : goal.expressions::walk_binary-loop-segment-init
expressions::walk_binary-loop-segment-init t c =
    going_begins c.args.walk.now _

pub expressions::walk_binary-loop-segment-preserved : goal.expressions::walk_binary-loop-segment-preserved
expressions::walk_binary-loop-segment-preserved t c =
    segments_round c.args.walk.now c.loop-segment.walk c.walk_one.new.walk c.walk_all.new.walk c.args.segments.now c.loop-segment.segment-index c.segment-item.result c.as_slice.result.now _ c.loop-segment-test.true c.segment-item.is
    c.in_ok-walk_one.ensures.0 c.as_slice.ensures c.in_ok-walk_all.ensures.0 c.loop-segment.invariant

pub expressions::walk_binary-returns : goal.expressions::walk_binary-returns
expressions::walk_binary-returns t c =
    λ i. one_exit c.one.result c.args.walk.now c.loop-segment.walk one_value (m.binary i (all_segments c.args.segments.now)) p.Nowhere (λ U home sc. s.nowhere)
    (segments_end c.args.walk.now c.loop-segment.walk c.args.segments.now c.loop-segment.segment-index _ (let t = c.loop-segment-test.false in omega arith) c.loop-segment.invariant) (λ U home sc h. refl)
    (λ U home sc h. refl) c.one.ensures

pub expressions::walk_body-returns : goal.expressions::walk_body-returns
expressions::walk_body-returns t c =
    body_makes c.args.walk.now c.bind_parameters.new.self c.walk_one.new.walk c.flow.new.self _ c.len-around.result c.args.label c.args.params.now
    (tree c.args.body.now) c.in_ok-place.place c.len-around.ensures c.in_ok-bind_parameters.ensures c.in_ok-place.ensures.0 c.in_ok-place.ensures.1 c.in_ok-flow.ensures (ap (with_variables c.flow.new.self) c.leave.ensures)

pub expressions::walk_fun-returns : goal.expressions::walk_fun-returns
expressions::walk_fun-returns t c =
    subst (λ z. Walks c.args.walk.now c.walk_body.new.walk one_value (m.function c.args.mark z (tree c.args.fun.now.body)) c.one.result) c.as_slice-params.ensures
    (subst (λ z. Walks c.args.walk.now c.walk_body.new.walk one_value (m.function c.args.mark c.as_slice-params.result.now (tree z)) c.one.result) c.get.ensures
    (one_exit c.one.result c.args.walk.now c.walk_body.new.walk one_value (m.function c.args.mark c.as_slice-params.result.now (tree c.get.result.now)) c.part-place.result (λ U home sc. s.part home c.args.mark.label 0)
    (fun_makes c.args.walk.now c.hold.new.self c.open_parameters.new.self c.walk_body.new.walk c.args.mark c.as_slice-params.result.now (tree c.get.result.now)
    (length c.as_slice-params.result.now) c.part-place.result c.part-place.ensures refl c.in_ok-hold.ensures c.in_ok-open_parameters.ensures c.in_ok-walk_body.ensures)
    (part_named c.args.walk.now c.args.mark.label c.part-place.result c.part-place.ensures) (λ U home sc h. refl) c.one.ensures))

pub expressions::walk_listed-returns : goal.expressions::walk_listed-returns
expressions::walk_listed-returns t c =
    one_exit c.one.result c.args.walk.now c.flow_all.new.self one_value (m.listed c.args.mark (all_trees c.args.items.now) (tree c.args.tail.now)) c.part-place.result (λ U home sc. s.part home c.args.mark.label 0)
    (tail_makes c.args.walk.now c.walk_all.new.walk c.walk_one.new.walk c.flow.new.self c.flow_all.new.self c.args.mark.label (λ U home sc. rules_of_all U home sc (all_trees c.args.items.now))
    (λ U home sc. places_of_all U home sc (all_trees c.args.items.now)) (tree c.args.tail.now) c.as_slice.result.now c.in_ok-tail.tail c.part-place.result c.part-place.ensures c.in_ok-items.ensures.0
    (λ U home sc h. ap (map (place_named U)) c.as_slice.ensures ∙ c.in_ok-items.ensures.1 U home sc h) c.in_ok-tail.ensures.0 c.in_ok-tail.ensures.1 c.in_ok-flow.ensures c.in_ok-flow_all.ensures)
    (part_named c.args.walk.now c.args.mark.label c.part-place.result c.part-place.ensures) (λ U home sc h. refl) c.one.ensures

pub expressions::walk_tuple-returns : goal.expressions::walk_tuple-returns
expressions::walk_tuple-returns t c =
    one_exit c.one.result c.args.walk.now c.flow_all.new.self one_value (m.tuple c.args.mark (all_trees c.args.items.now)) c.part-place.result (λ U home sc. s.part home c.args.mark.label 0)
    (joined_makes c.args.walk.now c.walk_all.new.walk c.flow_all.new.self c.args.mark.label (λ U home sc. rules_of_all U home sc (all_trees c.args.items.now))
    (λ U home sc. places_of_all U home sc (all_trees c.args.items.now)) c.as_slice.result.now c.part-place.result c.part-place.ensures c.in_ok-items.ensures.0
    (λ U home sc h. ap (map (place_named U)) c.as_slice.ensures ∙ c.in_ok-items.ensures.1 U home sc h) c.in_ok-flow_all.ensures) (part_named c.args.walk.now c.args.mark.label c.part-place.result c.part-place.ensures)
    (λ U home sc h. refl) c.one.ensures

pub control::walk_steps-loop-step-init : goal.control::walk_steps-loop-step-init
control::walk_steps-loop-step-init t c =
    entering_begins c.args.walk.now _ _

pub control::walk_steps-loop-step-preserved : goal.control::walk_steps-loop-step-preserved
control::walk_steps-loop-step-preserved t c =
    steps_round c.args.walk.now c.loop-step.walk c.walk_step.new.walk c.args.steps.now c.loop-step.step-index c.step-item.result _ _ c.loop-step-test.true c.step-item.is c.in_ok-walk_step.ensures c.loop-step.invariant

pub control::walk_steps-returns : goal.control::walk_steps-returns
control::walk_steps-returns t c =
    steps_end c.args.walk.now c.loop-step.walk c.args.steps.now c.loop-step.step-index _ _ (let t = c.loop-step-test.false in omega arith) c.loop-step.invariant

pub control::walk_definitions-loop-def-init : goal.control::walk_definitions-loop-def-init
control::walk_definitions-loop-def-init t c =
    going_begins c.args.walk.now _

pub control::walk_definitions-returns : goal.control::walk_definitions-returns
control::walk_definitions-returns t c =
    definitions_end c.args.walk.now c.loop-def.walk c.args.defs.now c.loop-def.def-index _ (let t = c.loop-def-test.false in omega arith) c.loop-def.invariant

pub control::walk_clauses-loop-clause-init : goal.control::walk_clauses-loop-clause-init
control::walk_clauses-loop-clause-init t c =
    going_begins c.args.walk.now _

pub control::walk_clauses-loop-clause-preserved : goal.control::walk_clauses-loop-clause-preserved
control::walk_clauses-loop-clause-preserved t c =
    clauses_round c.args.walk.now c.loop-clause.walk c.walk_clause.new.walk c.args.label c.args.ask c.args.values.now c.args.clauses.now c.loop-clause.clause-index c.clause-item.result _ c.loop-clause-test.true c.clause-item.is
    c.in_ok-walk_clause.ensures c.loop-clause.invariant

pub control::walk_clauses-returns : goal.control::walk_clauses-returns
control::walk_clauses-returns t c =
    clauses_end c.args.walk.now c.loop-clause.walk c.args.label c.args.ask c.args.values.now c.args.clauses.now c.loop-clause.clause-index _ (let t = c.loop-clause-test.false in omega arith) c.loop-clause.invariant

pub patterns::walk_patterns-loop-pattern-init : goal.patterns::walk_patterns-loop-pattern-init
patterns::walk_patterns-loop-pattern-init t c =
    entering_begins c.args.walk.now _ _

pub patterns::walk_patterns-loop-pattern-preserved : goal.patterns::walk_patterns-loop-pattern-preserved
patterns::walk_patterns-loop-pattern-preserved t c =
    patterns_round c.args.walk.now c.loop-pattern.walk c.walk_pattern.new.walk c.args.place c.args.patterns.now c.loop-pattern.pattern-index c.pattern-item.result _ _ c.loop-pattern-test.true c.pattern-item.is
    c.in_ok-walk_pattern.ensures c.loop-pattern.invariant

pub patterns::walk_patterns-returns : goal.patterns::walk_patterns-returns
patterns::walk_patterns-returns t c =
    patterns_end c.args.walk.now c.loop-pattern.walk c.args.place c.args.patterns.now c.loop-pattern.pattern-index _ _ (let t = c.loop-pattern-test.false in omega arith) c.loop-pattern.invariant

pub patterns::walk_pattern_pairs-loop-pair-init : goal.patterns::walk_pattern_pairs-loop-pair-init
patterns::walk_pattern_pairs-loop-pair-init t c =
    entering_begins c.args.walk.now _ _

pub patterns::walk_pattern_pairs-loop-pair-preserved : goal.patterns::walk_pattern_pairs-loop-pair-preserved
patterns::walk_pattern_pairs-loop-pair-preserved t c =
    pat_pairs_round c.args.walk.now c.loop-pair.walk c.walk_one.new.walk c.walk_pattern.new.walk c.args.place c.args.pairs.now c.loop-pair.pair-index c.pair-item.result _ _ c.loop-pair-test.true c.pair-item.is c.in_ok-walk_one.ensures.0
    c.in_ok-walk_pattern.ensures c.loop-pair.invariant

pub patterns::walk_pattern_pairs-returns : goal.patterns::walk_pattern_pairs-returns
patterns::walk_pattern_pairs-returns t c =
    pat_pairs_end c.args.walk.now c.loop-pair.walk c.args.place c.args.pairs.now c.loop-pair.pair-index _ _ (let t = c.loop-pair-test.false in omega arith) c.loop-pair.invariant

pub patterns::walk_pattern_segments-loop-segment-init : goal.patterns::walk_pattern_segments-loop-segment-init
patterns::walk_pattern_segments-loop-segment-init t c =
    entering_begins c.args.walk.now _ _

pub patterns::walk_pattern_segments-loop-segment-preserved : goal.patterns::walk_pattern_segments-loop-segment-preserved
patterns::walk_pattern_segments-loop-segment-preserved t c =
    pat_segments_round c.args.walk.now c.loop-segment.walk c.walk_pattern.new.walk c.walk_all.new.walk c.args.segments.now c.loop-segment.segment-index c.segment-item.result c.as_slice.result.now _ _ c.loop-segment-test.true
    c.segment-item.is c.in_ok-walk_pattern.ensures c.as_slice.ensures c.in_ok-walk_all.ensures.0 c.loop-segment.invariant

pub patterns::walk_pattern_segments-returns : goal.patterns::walk_pattern_segments-returns
patterns::walk_pattern_segments-returns t c =
    pat_segments_end c.args.walk.now c.loop-segment.walk c.args.segments.now c.loop-segment.segment-index _ _ (let t = c.loop-segment-test.false in omega arith) c.loop-segment.invariant

pub patterns::walk_heads-loop-position-init : goal.patterns::walk_heads-loop-position-init
patterns::walk_heads-loop-position-init t c =
    entering_begins c.args.walk.now _ _

pub patterns::walk_heads-loop-position-preserved : goal.patterns::walk_heads-loop-position-preserved
patterns::walk_heads-loop-position-preserved t c =
    heads_round c.args.walk.now c.loop-position.walk c.walk_pattern.new.walk c.args.places.now c.place_at.result c.args.patterns.now c.loop-position.position c.index-patterns-position.result _ _
    (omega (arith, c.loop-position-test.true)) c.index-patterns-position.is c.place_at.ensures c.in_ok-walk_pattern.ensures c.loop-position.invariant

pub patterns::walk_heads-returns : goal.patterns::walk_heads-returns
patterns::walk_heads-returns t c =
    heads_end c.args.walk.now c.loop-position.walk c.args.places.now c.args.patterns.now c.loop-position.position _ _ (let t = c.loop-position-test.false in omega arith) c.loop-position.invariant

pub control::walk_joined-returns : goal.control::walk_joined-returns
control::walk_joined-returns t c =
    on_ok_weaker c.pass_on.result (λ two. joined_step c.args.walk.now c.walk_expression.new.walk c.pass_on.new.self c.args.label c.args.ask (tree c.args.expr.now) c.as_slice.result.now c.in_ok-places.ensures.0
    (λ U home sc h. ap (map (place_named U)) c.as_slice.ensures ∙ c.in_ok-places.ensures.1 U home sc h) two) c.pass_on.ensures

pub control::walk_under-returns : goal.control::walk_under-returns
control::walk_under-returns t c =
    under_step c.args.walk.now c.bind_all.new.self c.walk_joined.new.walk _ c.len-around.result c.args.label c.args.ask c.args.vars.now c.args.places.now
    (tree c.args.expr.now) c.len-around.ensures c.in_ok-bind_all.ensures c.in_ok-walk_joined.ensures (ap (with_variables c.walk_joined.new.walk) c.leave.ensures)

pub control::walk_chain-returns : goal.control::walk_chain-returns
control::walk_chain-returns t c =
    λ i. (
      chain_makes c.args.walk.now c.walk_steps.new.walk c.walk_expression.new.walk _ c.len-around.result c.args.ask (all_steps c.args.steps.now)
          (tree c.args.last.now) c.len-around.ensures c.in_ok-walk_steps.ensures c.in_ok-places.ensures.0 (ap
          (with_variables c.walk_expression.new.walk) c.leave.ensures),
      gives_inside c.args.walk.now c.walk_steps.new.walk _ _ c.in_ok-places.places _ c.in_ok-walk_steps.ensures c.in_ok-places.ensures.1,
    )

pub control::walk_clause-returns : goal.control::walk_clause-returns
control::walk_clause-returns t c =
    clause_told c.args.walk.now c.walk_heads.new.walk c.walk_one.new.walk c.walk_joined.new.walk _ c.len-around.result c.args.label c.args.ask c.args.values.now c.args.clause.now c.as_slice.result.now c.len-around.ensures
    c.as_slice.ensures c.in_ok-walk_heads.ensures c.in_ok-walk_one.ensures.0 c.in_ok-walk_joined.ensures (ap (with_variables c.walk_joined.new.walk) c.leave.ensures)

pub control::walk_case-returns : goal.control::walk_case-returns
control::walk_case-returns t c =
    parts_exit c.parts.result c.args.walk.now c.walk_clauses.new.walk c.args.ask (m.case c.args.mark (tree c.args.argument.now) (all_clauses c.args.clauses.now)) c.args.mark.label c.args.ask
    (case_makes c.args.walk.now c.walk_expression.new.walk c.walk_clauses.new.walk c.args.mark c.args.ask c.width.result (tree c.args.argument.now)
    (all_clauses c.args.clauses.now) c.as_slice.result.now c.width.ensures c.in_ok-values.ensures.0 (λ U home sc h. ap (map (place_named U)) c.as_slice.ensures ∙ c.in_ok-values.ensures.1 U home sc h) c.in_ok-walk_clauses.ensures)
    (λ U home sc. refl) c.parts.ensures

pub control::walk_receive-returns : goal.control::walk_receive-returns
control::walk_receive-returns t c =
    parts_exit c.parts.result c.args.walk.now c.walk_joined.new.walk c.args.ask (m.receive c.args.mark (all_clauses c.args.clauses.now) (tree c.args.timeout.now) (tree c.args.action.now)) c.args.mark.label c.args.ask
    (receive_makes c.args.walk.now c.walk_clauses.new.walk c.walk_one.new.walk c.walk_joined.new.walk c.args.mark c.args.ask (all_clauses c.args.clauses.now) (tree c.args.timeout.now)
    (tree c.args.action.now) c.in_ok-walk_clauses.ensures c.in_ok-walk_one.ensures.0 c.in_ok-walk_joined.ensures) (λ U home sc. refl) c.parts.ensures

pub control::walk_letrec-returns : goal.control::walk_letrec-returns
control::walk_letrec-returns t c =
    λ i. (
      letrec_makes c.args.walk.now (with_functions c.args.walk.now c.define_all.new.functions) c.walk_definitions.new.walk c.walk_expression.new.walk (with_functions c.walk_expression.new.walk c.leave.new.self) c.len-around.result
          (all_defs c.args.defs.now) c.len-around.ensures (ap (with_functions c.args.walk.now) c.in_ok-define_all.ensures) c.args.ask (tree c.args.body.now) c.in_ok-walk_definitions.ensures c.in_ok-places.ensures.0
          (ap (with_functions c.walk_expression.new.walk) c.leave.ensures),
      letrec_gives c.args.walk.now (with_functions c.args.walk.now c.define_all.new.functions) c.walk_definitions.new.walk c.walk_expression.new.walk
          (with_functions c.walk_expression.new.walk c.leave.new.self) c.len-around.result (all_defs c.args.defs.now) c.len-around.ensures (ap (with_functions c.args.walk.now) c.in_ok-define_all.ensures) c.args.ask
          (tree c.args.body.now) c.in_ok-places.places c.in_ok-walk_definitions.ensures c.in_ok-places.ensures.1,
    )

pub control::walk_definitions-loop-def-preserved : goal.control::walk_definitions-loop-def-preserved
control::walk_definitions-loop-def-preserved t c =
    definitions_round c.args.walk.now c.loop-def.walk c.walk_body.new.walk c.args.defs.now c.loop-def.def-index c.def-item.result _ c.loop-def-test.true c.def-item.is
    (definition_told c.loop-def.walk c.walk_body.new.walk c.def-item.result c.as_slice.result.now c.get.result.now c.as_slice.ensures c.get.ensures c.in_ok-walk_body.ensures) c.loop-def.invariant

pub control::walk_try-returns : goal.control::walk_try-returns
control::walk_try-returns t c =
    subst (λ z. Walks c.args.walk.now c.walk_under-2.new.walk c.args.ask (m.try c.args.mark (tree c.args.parts.now.arg) z (tree c.args.parts.now.body) c.args.parts.now.catch_vars
    (tree c.args.parts.now.handler)) c.parts.result) c.as_slice-vars.ensures (subst (λ z. Walks c.args.walk.now c.walk_under-2.new.walk c.args.ask (m.try c.args.mark (tree z) c.as_slice-vars.result.now
    (tree c.args.parts.now.body) c.args.parts.now.catch_vars (tree c.args.parts.now.handler)) c.parts.result) c.get.ensures
    (subst (λ z. Walks c.args.walk.now c.walk_under-2.new.walk c.args.ask (m.try c.args.mark (tree c.get.result.now) c.as_slice-vars.result.now (tree z) c.args.parts.now.catch_vars
    (tree c.args.parts.now.handler)) c.parts.result) c.get-2.ensures (subst (λ z. Walks c.args.walk.now c.walk_under-2.new.walk c.args.ask (m.try c.args.mark (tree c.get.result.now) c.as_slice-vars.result.now (tree c.get-2.result.now) z
    (tree c.args.parts.now.handler)) c.parts.result) c.as_slice-2.ensures (subst (λ z. Walks c.args.walk.now c.walk_under-2.new.walk c.args.ask (m.try c.args.mark (tree c.get.result.now) c.as_slice-vars.result.now
    (tree c.get-2.result.now) c.as_slice-2.result.now (tree z)) c.parts.result) c.get-3.ensures (parts_exit c.parts.result c.args.walk.now c.walk_under-2.new.walk c.args.ask (m.try c.args.mark
    (tree c.get.result.now) c.as_slice-vars.result.now (tree c.get-2.result.now) c.as_slice-2.result.now (tree c.get-3.result.now)) c.args.mark.label c.args.ask
    (try_makes c.args.walk.now c.walk_expression.new.walk c.walk_under.new.walk c.walk_under-2.new.walk c.args.mark c.args.ask (length c.as_slice-vars.result.now) (tree c.get.result.now) c.as_slice-vars.result.now
    (tree c.get-2.result.now) c.as_slice-2.result.now (tree c.get-3.result.now) c.as_slice.result.now refl c.in_ok-places.ensures.0
    (λ U home sc h. ap (map (place_named U)) c.as_slice.ensures ∙ c.in_ok-places.ensures.1 U home sc h) c.in_ok-walk_under.ensures c.in_ok-walk_under-2.ensures) (λ U home sc. refl) c.parts.ensures)))))

pub applications::walk_apply_value-returns : goal.applications::walk_apply_value-returns
applications::walk_apply_value-returns t c =
    let made = (value_makes c.args.walk.now c.walk_one.new.walk c.apply.new.self c.walk_all.new.walk c.args.mark (tree c.args.operator.now) (all_trees c.args.args.now) (length c.args.args.now) c.in_ok-place.place c.requires
    (sym (how_many-length c.args.args.now)) c.in_ok-place.ensures.0 c.in_ok-place.ensures.1 c.in_ok-apply.ensures c.in_ok-walk_all.ensures.0) in
    one_exit c.one.result c.args.walk.now c.walk_all.new.walk one_value (m.apply c.args.mark (tree c.args.operator.now) (all_trees c.args.args.now)) c.part.result (λ U home sc. s.part home c.args.mark.label 0) made
    (λ U home sc h. part_named c.walk_all.new.walk c.args.mark.label c.part.result c.part.ensures U home sc (sees_on U home sc c.args.walk.now c.walk_all.new.walk made.rest h))
    (λ U home sc h. value_place U home sc c.args.mark (tree c.args.operator.now) (all_trees c.args.args.now) c.requires) c.one.ensures

pub applications::walk_call-returns : goal.applications::walk_call-returns
applications::walk_call-returns t c =
    one_exit c.one.result c.args.walk.now c.walk_called.new.walk one_value (m.call c.args.mark (tree c.args.home.now) (tree c.args.name.now) (all_trees c.args.args.now)) c.in_ok-place.place
    (λ U home sc. call_place U home c.args.mark.label (literal_atom (tree c.args.home.now)) (literal_atom (tree c.args.name.now)) (how_many (all_trees c.args.args.now)))
    (call_makes c.args.walk.now c.walk_one.new.walk c.walk_one-2.new.walk c.walk_all.new.walk c.walk_called.new.walk c.args.mark (tree c.args.home.now) (tree c.args.name.now) (all_trees c.args.args.now)
    (length c.args.args.now) c.as_slice.result.now (sym (how_many-length c.args.args.now)) c.in_ok-walk_one.ensures.0 c.in_ok-walk_one-2.ensures.0 c.in_ok-places.ensures.0
    (λ U home sc h. ap (map (place_named U)) c.as_slice.ensures ∙ c.in_ok-places.ensures.1 U home sc h) c.in_ok-place.ensures.0)
    (λ U home sc h. c.in_ok-place.ensures.1 U home sc (sees_on U home sc c.walk_one-2.new.walk c.walk_all.new.walk c.in_ok-places.ensures.0.rest
    (sees_on U home sc c.walk_one.new.walk c.walk_one-2.new.walk c.in_ok-walk_one-2.ensures.0.rest (sees_on U home sc c.args.walk.now c.walk_one.new.walk c.in_ok-walk_one.ensures.0.rest h)))
    ∙ ap (call_place U home c.args.mark.label (literal_atom (tree c.args.home.now)) (literal_atom (tree c.args.name.now))) (sym (how_many-length c.args.args.now))) (λ U home sc h. refl) c.one.ensures

pub control::walk_step-returns-in_ok-places-in-Let : goal.control::walk_step-returns-in_ok-places-in-Let
control::walk_step-returns-in_ok-places-in-Let t c =
    on_ok_weaker c.bind_all.result (λ two. let_told c.args.walk.now c.walk_expression.new.walk c.bind_all.new.self c.args.step.now _ c.in-Let.vars c.as_slice.result.now c.in-Let.expr c.len.result c.in_ok-places-in-Let.places
    c.as_slice-in-Let.result.now c.in-Let.is c.as_slice.ensures c.len.ensures c.as_slice-in-Let.ensures c.in_ok-places-in-Let.ensures.0 c.in_ok-places-in-Let.ensures.1 two) c.bind_all.ensures

pub control::walk_step-returns-in_ok-walk_expression-in-Do : goal.control::walk_step-returns-in_ok-walk_expression-in-Do
control::walk_step-returns-in_ok-walk_expression-in-Do t c =
    do_told c.args.walk.now c.walk_expression-in-Do.new.walk c.args.step.now _ c.in-Do.expr c.in-Do.is c.in_ok-walk_expression-in-Do.ensures.0

pub applications::walk_apply_name-returns-then-name-args : goal.applications::walk_apply_name-returns-then-name-args
applications::walk_apply_name-returns-then-name-args t c =
    λ i j. one_exit c.one.result c.args.walk.now c.walk_all.new.walk one_value (m.apply i (m.local j c.args.name.now) (all_trees c.args.args.now)) p.Nowhere (λ U home sc. s.nowhere)
    (wrong_makes c.args.walk.now c.walk_all.new.walk i j c.args.name.now (all_trees c.args.args.now) (λ e. let d = c.if-name-args.true in let n = how_many-length c.args.args.now in omega (arith, d, n, e)) c.in_ok-places.ensures.0)
    (λ U home sc h. refl) (λ U home sc h. wrong_place c.args.walk.now c.walk_all.new.walk i j c.args.name.now (all_trees c.args.args.now)
    (λ e. let d = c.if-name-args.true in let n = how_many-length c.args.args.now in omega (arith, d, n, e)) U home sc) c.one.ensures

pub applications::walk_apply_name-returns-in-Some : goal.applications::walk_apply_name-returns-in-Some
applications::walk_apply_name-returns-in-Some t c =
    λ i j. let made = named_makes c.args.walk.now c.walk_all.new.walk i j c.args.name.now (all_trees c.args.args.now) c.in-Some.label (let d = c.if-name-args.false in let n = how_many-length c.args.args.now in omega (arith, d, n))
    (λ U home sc h. c.in-Some.ensures ∙ (sees_on U home sc c.args.walk.now c.walk_all.new.walk c.in_ok-places.ensures.0.rest h).functions c.args.name.now) c.flow_to_parameters.new.self c.as_slice.result.now c.in_ok-places.ensures.0
    (λ U home sc h. ap (map (place_named U)) c.as_slice.ensures ∙ c.in_ok-places.ensures.1 U home sc h) c.in_ok-flow_to_parameters-in-Some.ensures in one_exit c.one-in-Some.result c.args.walk.now c.flow_to_parameters.new.self one_value
    (m.apply i (m.local j c.args.name.now) (all_trees c.args.args.now)) (p.Returned c.flow_to_parameters.new.self.home c.in-Some.label) (λ U home sc. s.returned home c.in-Some.label) made
    (λ U home sc h. ap (λ x. s.returned x c.in-Some.label) (sees_on U home sc c.args.walk.now c.flow_to_parameters.new.self made.rest h).at_home)
    (λ U home sc h. named_place c.args.walk.now c.walk_all.new.walk i j c.args.name.now (all_trees c.args.args.now) c.in-Some.label (let d = c.if-name-args.false in let n = how_many-length c.args.args.now in omega (arith, d, n))
    (λ U home sc h. c.in-Some.ensures ∙ (sees_on U home sc c.args.walk.now c.walk_all.new.walk c.in_ok-places.ensures.0.rest h).functions c.args.name.now) U home sc h) c.one-in-Some.ensures

pub applications::walk_apply_name-returns : goal.applications::walk_apply_name-returns
applications::walk_apply_name-returns t c =
    λ i j. one_exit c.one-in-None.result c.args.walk.now c.walk_all.new.walk one_value (m.apply i (m.local j c.args.name.now) (all_trees c.args.args.now)) p.Nowhere (λ U home sc. s.nowhere)
    (undefined_makes c.args.walk.now c.walk_all.new.walk i j c.args.name.now (all_trees c.args.args.now) (λ U home sc h. c.in-None.ensures ∙
    (sees_on U home sc c.args.walk.now c.walk_all.new.walk c.in_ok-places.ensures.0.rest h).functions c.args.name.now) c.in_ok-places.ensures.0) (λ U home sc h. refl)
    (λ U home sc h. undefined_place c.args.walk.now c.walk_all.new.walk i j c.args.name.now (all_trees c.args.args.now) U home sc
    (c.in-None.ensures ∙ (sees_on U home sc c.args.walk.now c.walk_all.new.walk c.in_ok-places.ensures.0.rest h).functions c.args.name.now)) c.one-in-None.ensures

pub expressions::walk_new_map-returns : goal.expressions::walk_new_map-returns
expressions::walk_new_map-returns t c =
    one_exit c.one.result c.args.walk.now c.flow_all.new.self one_value (m.new_map c.args.mark (all_pairs c.args.pairs.now)) c.part-place.result (λ U home sc. s.part home c.args.mark.label 0)
    (joined_makes c.args.walk.now c.walk_pairs.new.walk c.flow_all.new.self c.args.mark.label (λ U home sc. rules_of_pairs U home sc (all_pairs c.args.pairs.now))
    (λ U home sc. places_of_pairs U home sc (all_pairs c.args.pairs.now)) c.as_slice.result.now c.part-place.result c.part-place.ensures c.in_ok-parts.ensures.0
    (λ U home sc h. ap (map (place_named U)) c.as_slice.ensures ∙ c.in_ok-parts.ensures.1 U home sc h) c.in_ok-flow_all.ensures) (part_named c.args.walk.now c.args.mark.label c.part-place.result c.part-place.ensures)
    (λ U home sc h. refl) c.one.ensures

pub expressions::walk_updated_map-returns : goal.expressions::walk_updated_map-returns
expressions::walk_updated_map-returns t c =
    one_exit c.one.result c.args.walk.now c.flow_all.new.self one_value (m.updated_map c.args.mark (all_pairs c.args.pairs.now) (tree c.args.map.now)) c.part-place.result (λ U home sc. s.part home c.args.mark.label 0)
    (tail_makes c.args.walk.now c.walk_pairs.new.walk c.walk_one.new.walk c.flow.new.self c.flow_all.new.self c.args.mark.label (λ U home sc. rules_of_pairs U home sc (all_pairs c.args.pairs.now))
    (λ U home sc. places_of_pairs U home sc (all_pairs c.args.pairs.now)) (tree c.args.map.now) c.as_slice.result.now c.in_ok-map.map c.part-place.result c.part-place.ensures c.in_ok-parts.ensures.0
    (λ U home sc h. ap (map (place_named U)) c.as_slice.ensures ∙ c.in_ok-parts.ensures.1 U home sc h) c.in_ok-map.ensures.0 c.in_ok-map.ensures.1 c.in_ok-flow.ensures c.in_ok-flow_all.ensures)
    (part_named c.args.walk.now c.args.mark.label c.part-place.result c.part-place.ensures) (λ U home sc h. refl) c.one.ensures

pub patterns::walk_pattern-returns-in-Var : goal.patterns::walk_pattern-returns-in-Var
patterns::walk_pattern-returns-in-Var t c =
    binds_exit c.args.walk.now c.args.pattern.now c.args.place c.bind.result c.bind.new.self c.in-Var.name c.in-Var.is c.bind.ensures

pub patterns::walk_pattern-returns-in-Tuple : goal.patterns::walk_pattern-returns-in-Tuple
patterns::walk_pattern-returns-in-Tuple t c =
    tuple_of_exit c.args.walk.now c.args.pattern.now c.args.place c.walk_patterns-in-Tuple.result c.walk_patterns-in-Tuple.new.walk c.as_slice-in-Tuple.result.now
    (c.in-Tuple.is ∙ ap pf.Tuple (sym c.as_slice-in-Tuple.ensures)) c.walk_patterns-in-Tuple.ensures

pub patterns::walk_pattern-returns-in-Map : goal.patterns::walk_pattern-returns-in-Map
patterns::walk_pattern-returns-in-Map t c =
    map_of_exit c.args.walk.now c.args.pattern.now c.args.place c.walk_pattern_pairs.result c.walk_pattern_pairs.new.walk c.as_slice-in-Map.result.now (c.in-Map.is ∙ ap pf.Map (sym c.as_slice-in-Map.ensures)) c.walk_pattern_pairs.ensures

pub patterns::walk_pattern-returns-in-Binary : goal.patterns::walk_pattern-returns-in-Binary
patterns::walk_pattern-returns-in-Binary t c =
    binary_of_exit c.args.walk.now c.args.pattern.now c.args.place c.walk_pattern_segments.result c.walk_pattern_segments.new.walk c.as_slice-in-Binary.result.now
    (c.in-Binary.is ∙ ap pf.Binary (sym c.as_slice-in-Binary.ensures)) c.walk_pattern_segments.ensures

pub patterns::walk_pattern-returns-in_ok-walk_patterns-in-Listed : goal.patterns::walk_pattern-returns-in_ok-walk_patterns-in-Listed
patterns::walk_pattern-returns-in_ok-walk_patterns-in-Listed t c =
    list_of_exit c.args.walk.now c.args.pattern.now c.args.place c.walk_pattern.result c.walk_patterns.new.walk c.walk_pattern.new.walk c.as_slice.result.now c.get.result.now
    (c.in-Listed.is ∙ ap (λ x. pf.Listed x c.in-Listed.tail) (sym c.as_slice.ensures) ∙ ap (pf.Listed c.as_slice.result.now) (sym c.get.ensures)) c.in_ok-walk_patterns-in-Listed.ensures c.walk_pattern.ensures

pub patterns::walk_pattern-returns-in_ok-bind-in-Alias : goal.patterns::walk_pattern-returns-in_ok-bind-in-Alias
patterns::walk_pattern-returns-in_ok-bind-in-Alias t c =
    alias_exit c.args.walk.now c.args.pattern.now c.args.place c.walk_pattern-in-Alias.result c.bind-in-Alias.new.self c.walk_pattern-in-Alias.new.walk c.in-Alias.var c.get-in-Alias.result.now
    (c.in-Alias.is ∙ ap (pf.Alias c.in-Alias.var) (sym c.get-in-Alias.ensures)) c.in_ok-bind-in-Alias.ensures c.walk_pattern-in-Alias.ensures
