use Rattle.std.proofs.Common.{◌+◌, Some, drop, length, refl, sym, ap, ◌∙◌}
use Rattle.cons_gen_rows.proofs.Reading.{read_one, read_two, read_three}
use Rattle.type_kinds.proofs.Results.{always}
use Rattle.core_ast.specs.declared.syntax.Form.TheVariants as f
use Rattle.core_ast.specs.declared.syntax.Segment.{out-Segment}
use Rattle.core_ast.specs.Model as m
use Rattle.core_ast.specs.Named.{local_name}
use Rattle.core_ast.specs.Tree.{all_clauses, all_defs, all_pairs, all_segments, all_steps, all_trees, tree}
use Rattle.core_ast.proofs.Forms.{apply_tree, binary_tree, call_tree, case_tree, catch_tree, chain_tree, external_tree, fun_tree, letrec_tree, listed_tree}
use Rattle.core_ast.proofs.Forms.{literal_tree, local_tree, new_map_tree, primop_tree, receive_tree, try_tree, tuple_tree, updated_map_tree, values_tree, variable_tree}
use Rattle.type_lattice.specs.Types.{any}
use Rattle.cons_tree.specs.Constraints.{constraint}
use Rattle.cons_solve.specs.Environments.{solution}
use Rattle.cons_gen_rows.specs.Words.{function_type, literal_type}
use Rattle.module_flow_state.specs.steps.Walking.{world_of, walk_scope_of}
use Rattle.module_flow_walk.proofs.ExpressionExits.{applied_gives, applied_noted, binary_noted, call_gives, call_noted, case_noted, catch_noted, chain_form_noted, form_given}
use Rattle.module_flow_walk.proofs.ExpressionExits.{form_silent, fun_noted, letrec_form_noted, listed_noted, named_call_gives, named_call_noted, new_map_noted, operator_gives}
use Rattle.module_flow_walk.proofs.ExpressionExits.{operator_noted, primop_noted, receive_noted, try_noted, tuple_noted, unnamed_call, updated_map_noted, value_is, values_noted}
use Rattle.module_flow_walk.proofs.FormExits.{updated_told}
use Rattle.module_flow_walk.proofs.FormRounds.{next_pair, next_segment, pairs_given_round, pairs_round, segments_given_round, segments_round}
use Rattle.module_flow_walk.proofs.+flow.Goals as goal
use Rattle.module_flow_calls.specs.NodeContext.{under}
use Rattle.module_flow_walk.specs.Findings.{found_in_steps}
use Rattle.module_flow_walk.specs.Contributions.{contributions_of_steps}
use Rattle.module_flow_walk.specs.Walk.{passed, see_steps}
use Rattle.module_flow_walk.proofs.ClauseExits.{clause_noted, clause_told, clauses_end, clauses_noted, clauses_noted_round, clauses_round}
use Rattle.module_flow_walk.proofs.ControlExits.{chain_given, chain_noted, functions_noted, functions_round, letrec_given, letrec_noted, matching_given, matching_noted, under_given, under_noted}
use Rattle.module_flow_walk.proofs.Silence.{guard_silent}
use Rattle.module_flow_walk.proofs.StepRounds.{steps_begin, steps_round}
use Rattle.module_flow_walk.proofs.Walks.{told}

pub forms::walk_pairs-loop-pair-preserved : goal.forms::walk_pairs-loop-pair-preserved
forms::walk_pairs-loop-pair-preserved t c =
    let i = c.loop-pair.pair-index in
    let p = c.pair-item.result in
    let next = next_pair c.args.pairs.now i p c.loop-pair-test.true c.pair-item.is in
    record {
      given =
          pairs_given_round (world_of c.args.context.now) c.args.around c.loop-pair.walker c.walk_one.new.walker c.walk_one-in-loop-pair.new.walker _ c.loop-pair.all c.in_ok-key.key c.in_ok-held.held p.exact (tree p.key) (tree p.value)
          (all_pairs (drop (i + 1) c.args.pairs.now)) (all_pairs (drop i c.args.pairs.now)) next
          c.in_ok-key.ensures.noted c.in_ok-held.ensures.noted c.in_ok-key.ensures.given c.in_ok-held.ensures.given c.loop-pair.invariant.given;
      noted =
          pairs_round (world_of c.args.context.now) c.args.around c.loop-pair.walker c.walk_one.new.walker c.walk_one-in-loop-pair.new.walker _ p.exact (tree p.key) (tree p.value) (all_pairs (drop (i + 1) c.args.pairs.now))
          (all_pairs (drop i c.args.pairs.now)) next
          c.in_ok-key.ensures.noted c.in_ok-held.ensures.noted c.loop-pair.invariant.noted;
    }

pub forms::walk_segments-loop-segment-preserved : goal.forms::walk_segments-loop-segment-preserved
forms::walk_segments-loop-segment-preserved t c =
    let i = c.loop-segment.segment-index in
    let s = out-Segment c.segment-item.result in
    let args = c.as_slice.result.now in
    let next = next_segment c.args.segments.now i c.segment-item.result args c.loop-segment-test.true c.segment-item.is c.as_slice.ensures in
    record {
      given =
          segments_given_round (world_of c.args.context.now) c.args.around c.loop-segment.walker c.walk_one.new.walker c.walk_all.new.walker _ c.loop-segment.all c.in_ok-held.held c.is_some.result (tree s.value) (all_trees args)
          (all_segments (drop (i + 1) c.args.segments.now)) (all_segments (drop i c.args.segments.now)) c.in_ok-args.args next
          c.in_ok-held.ensures.noted c.in_ok-args.ensures.noted c.in_ok-held.ensures.given c.in_ok-args.ensures.given c.is_some.ensures c.loop-segment.invariant.given;
      noted =
          segments_round (world_of c.args.context.now) c.args.around c.loop-segment.walker c.walk_one.new.walker c.walk_all.new.walker _ (tree s.value) (all_trees args) (all_segments (drop (i + 1) c.args.segments.now))
          (all_segments (drop i c.args.segments.now)) next
          c.in_ok-held.ensures.noted c.in_ok-args.ensures.noted c.loop-segment.invariant.noted;
    }

pub forms::walk_old-returns-in-Some-clause-given : goal.forms::walk_old-returns-in-Some-clause-given
forms::walk_old-returns-in-Some-clause-given t c =
    updated_told c.meets-common.result (world_of c.args.context.now) _ (tree c.args.map.now) c.in_ok-given.given c.in-Some.types c.first-ty.result c.kind.result c.in_ok-given.ensures.given c.in-Some.is c.first-ty.ensures
    c.kind.ensures.value c.meets-common.ensures

pub expressions::walk_expression-returns-in-Var : goal.expressions::walk_expression-returns-in-Var
expressions::walk_expression-returns-in-Var t c = record {
  given = form_given (world_of c.args.context.now) c.args.ask c.args.walker.now c.args.expr.now (m.variable c.args.expr.now.mark c.in-Var.name) (variable_tree c.args.expr.now c.in-Var.name c.in-Var.is) c.variable.result c.variable.ensures;
  noted = always c.variable.result (form_silent (world_of c.args.context.now) c.args.ask c.args.walker.now c.args.expr.now (m.variable c.args.expr.now.mark c.in-Var.name)
      (variable_tree c.args.expr.now c.in-Var.name c.in-Var.is) c.args.around refl refl);
}

pub expressions::walk_expression-returns-in-Local : goal.expressions::walk_expression-returns-in-Local
expressions::walk_expression-returns-in-Local t c = record {
  given = form_given (world_of c.args.context.now) c.args.ask c.args.walker.now c.args.expr.now (m.local c.args.expr.now.mark c.in-Local.name) (local_tree c.args.expr.now c.in-Local.name c.in-Local.is) c.value.result
      (value_is c.value.result c.function_type.result (function_type c.in-Local.name.arity) (c.function_type.ensures) c.value.ensures);
  noted = always c.value.result (form_silent (world_of c.args.context.now) c.args.ask c.args.walker.now c.args.expr.now (m.local c.args.expr.now.mark c.in-Local.name)
      (local_tree c.args.expr.now c.in-Local.name c.in-Local.is) c.args.around refl refl);
}

pub expressions::walk_expression-returns-in-External : goal.expressions::walk_expression-returns-in-External
expressions::walk_expression-returns-in-External t c = record {
  given = form_given (world_of c.args.context.now) c.args.ask c.args.walker.now c.args.expr.now (m.external c.args.expr.now.mark c.in-External.field-0 c.in-External.name)
      (external_tree c.args.expr.now c.in-External.field-0 c.in-External.name c.in-External.is) c.value-in-External.result
      (value_is c.value-in-External.result c.function_type-in-External.result (function_type c.in-External.name.arity) (c.function_type-in-External.ensures) c.value-in-External.ensures);
  noted = always c.value-in-External.result (form_silent (world_of c.args.context.now) c.args.ask c.args.walker.now c.args.expr.now (m.external c.args.expr.now.mark c.in-External.field-0 c.in-External.name)
      (external_tree c.args.expr.now c.in-External.field-0 c.in-External.name c.in-External.is) c.args.around refl refl);
}

pub expressions::walk_expression-returns-in_ok-literal_type-in-Lit : goal.expressions::walk_expression-returns-in_ok-literal_type-in-Lit
expressions::walk_expression-returns-in_ok-literal_type-in-Lit t c = record {
  given = form_given (world_of c.args.context.now) c.args.ask c.args.walker.now c.args.expr.now (m.literal c.args.expr.now.mark c.in-Lit.literal) (literal_tree c.args.expr.now c.in-Lit.literal c.in-Lit.is) c.value-in-Lit.result
      (value_is c.value-in-Lit.result c.in_ok-literal_type-in-Lit.field-0 (literal_type c.in-Lit.literal) (c.in_ok-literal_type-in-Lit.ensures) c.value-in-Lit.ensures);
  noted = always c.value-in-Lit.result (form_silent (world_of c.args.context.now) c.args.ask c.args.walker.now c.args.expr.now (m.literal c.args.expr.now.mark c.in-Lit.literal)
      (literal_tree c.args.expr.now c.in-Lit.literal c.in-Lit.is) c.args.around refl refl);
}

pub expressions::walk_expression-returns-in_ok-walk_fun-in-Fun : goal.expressions::walk_expression-returns-in_ok-walk_fun-in-Fun
expressions::walk_expression-returns-in_ok-walk_fun-in-Fun t c = record {
  given = form_given (world_of c.args.context.now) c.args.ask c.args.walker.now c.args.expr.now (m.function c.args.expr.now.mark c.in-Fun.fun.params (tree c.in-Fun.fun.body))
      (fun_tree c.args.expr.now c.in-Fun.fun c.in-Fun.is) c.value-in-Fun.result (value_is c.value-in-Fun.result c.function_type-in-Fun.result (function_type (length c.in-Fun.fun.params))
      (c.function_type-in-Fun.ensures ∙ ap (λ n. function_type n) c.len.ensures) c.value-in-Fun.ensures);
  noted = fun_noted (world_of c.args.context.now) c.args.around c.under-around.result c.args.ask c.args.walker.now c.walk_fun.new.walker c.args.expr.now c.under-around.ensures c.value-in-Fun.result c.in-Fun.fun.params
      (tree c.in-Fun.fun.body) (fun_tree c.args.expr.now c.in-Fun.fun c.in-Fun.is) (always c.value-in-Fun.result c.in_ok-walk_fun-in-Fun.ensures.noted);
}

pub expressions::walk_expression-returns-in-Listed : goal.expressions::walk_expression-returns-in-Listed
expressions::walk_expression-returns-in-Listed t c = record {
  given = form_given (world_of c.args.context.now) c.args.ask c.args.walker.now c.args.expr.now (m.listed c.args.expr.now.mark (all_trees c.as_slice.result.now) (tree c.get.result.now))
      (listed_tree c.args.expr.now c.as_slice.result.now c.get.result.now (read_two f.Listed c.in-Listed.is c.as_slice.ensures c.get.ensures)) c.walk_listed.result c.walk_listed.ensures.given;
  noted = listed_noted (world_of c.args.context.now) c.args.around c.under-around.result c.args.ask c.args.walker.now c.walk_listed.new.walker c.args.expr.now c.under-around.ensures c.walk_listed.result (all_trees c.as_slice.result.now)
      (tree c.get.result.now) (listed_tree c.args.expr.now c.as_slice.result.now c.get.result.now (read_two f.Listed c.in-Listed.is c.as_slice.ensures c.get.ensures)) c.walk_listed.ensures.noted;
}

pub expressions::walk_expression-returns-in-Tuple : goal.expressions::walk_expression-returns-in-Tuple
expressions::walk_expression-returns-in-Tuple t c = record {
  given = form_given (world_of c.args.context.now) c.args.ask c.args.walker.now c.args.expr.now (m.tuple c.args.expr.now.mark (all_trees c.as_slice-in-Tuple.result.now))
      (tuple_tree c.args.expr.now c.as_slice-in-Tuple.result.now (read_one f.Tuple c.in-Tuple.is c.as_slice-in-Tuple.ensures)) c.walk_tuple.result c.walk_tuple.ensures.given;
  noted = tuple_noted (world_of c.args.context.now) c.args.around c.under-around.result c.args.ask c.args.walker.now c.walk_tuple.new.walker c.args.expr.now c.under-around.ensures c.walk_tuple.result
      (all_trees c.as_slice-in-Tuple.result.now) (tuple_tree c.args.expr.now c.as_slice-in-Tuple.result.now (read_one f.Tuple c.in-Tuple.is c.as_slice-in-Tuple.ensures)) c.walk_tuple.ensures.noted;
}

pub expressions::walk_expression-returns-in-None : goal.expressions::walk_expression-returns-in-None
expressions::walk_expression-returns-in-None t c = record {
  given = form_given (world_of c.args.context.now) c.args.ask c.args.walker.now c.args.expr.now (m.new_map c.args.expr.now.mark (all_pairs c.as_slice-in-None.result.now))
      (new_map_tree c.args.expr.now c.as_slice-in-None.result.now (read_two f.Map c.in-Map.is c.as_slice-in-None.ensures (sym c.in-None.is))) c.walk_map.result c.walk_map.ensures.given;
  noted = new_map_noted (world_of c.args.context.now) c.args.around c.under-around.result c.args.ask c.args.walker.now c.walk_map.new.walker c.args.expr.now c.under-around.ensures c.walk_map.result (all_pairs c.as_slice-in-None.result.now)
      (new_map_tree c.args.expr.now c.as_slice-in-None.result.now (read_two f.Map c.in-Map.is c.as_slice-in-None.ensures (sym c.in-None.is))) c.walk_map.ensures.noted;
}

pub expressions::walk_expression-returns-in-Some : goal.expressions::walk_expression-returns-in-Some
expressions::walk_expression-returns-in-Some t c = record {
  given = form_given (world_of c.args.context.now) c.args.ask c.args.walker.now c.args.expr.now (m.updated_map c.args.expr.now.mark (all_pairs c.as_slice-in-Some.result.now) (tree c.get-in-Some.result.now))
      (updated_map_tree c.args.expr.now c.as_slice-in-Some.result.now c.get-in-Some.result.now (read_two f.Map c.in-Map.is c.as_slice-in-Some.ensures (ap (λ z. Some z) c.get-in-Some.ensures ∙ sym c.in-Some.is))) c.walk_updated_map.result
      c.walk_updated_map.ensures.given;
  noted = updated_map_noted (world_of c.args.context.now) c.args.around c.under-around.result c.args.ask c.args.walker.now c.walk_updated_map.new.walker c.args.expr.now c.under-around.ensures c.walk_updated_map.result
      (all_pairs c.as_slice-in-Some.result.now) (tree c.get-in-Some.result.now) (updated_map_tree c.args.expr.now c.as_slice-in-Some.result.now c.get-in-Some.result.now
      (read_two f.Map c.in-Map.is c.as_slice-in-Some.ensures (ap (λ z. Some z) c.get-in-Some.ensures ∙ sym c.in-Some.is))) c.walk_updated_map.ensures.noted;
}

pub expressions::walk_expression-returns-in-Binary : goal.expressions::walk_expression-returns-in-Binary
expressions::walk_expression-returns-in-Binary t c = record {
  given = form_given (world_of c.args.context.now) c.args.ask c.args.walker.now c.args.expr.now (m.binary c.args.expr.now.mark (all_segments c.as_slice-in-Binary.result.now))
      (binary_tree c.args.expr.now c.as_slice-in-Binary.result.now (read_one f.Binary c.in-Binary.is c.as_slice-in-Binary.ensures)) c.walk_binary.result c.walk_binary.ensures.given;
  noted = binary_noted (world_of c.args.context.now) c.args.around c.under-around.result c.args.ask c.args.walker.now c.walk_binary.new.walker c.args.expr.now c.under-around.ensures c.walk_binary.result
      (all_segments c.as_slice-in-Binary.result.now) (binary_tree c.args.expr.now c.as_slice-in-Binary.result.now (read_one f.Binary c.in-Binary.is c.as_slice-in-Binary.ensures)) c.walk_binary.ensures.noted;
}

pub expressions::walk_expression-returns-in-Values : goal.expressions::walk_expression-returns-in-Values
expressions::walk_expression-returns-in-Values t c = record {
  given = form_given (world_of c.args.context.now) c.args.ask c.args.walker.now c.args.expr.now (m.values c.args.expr.now.mark (all_trees c.as_slice-in-Values.result.now))
      (values_tree c.args.expr.now c.as_slice-in-Values.result.now (read_one f.Values c.in-Values.is c.as_slice-in-Values.ensures)) c.walk_values.result c.walk_values.ensures.given;
  noted = values_noted (world_of c.args.context.now) c.args.around c.under-around.result c.args.ask c.args.walker.now c.walk_values.new.walker c.args.expr.now c.under-around.ensures c.walk_values.result
      (all_trees c.as_slice-in-Values.result.now) (values_tree c.args.expr.now c.as_slice-in-Values.result.now (read_one f.Values c.in-Values.is c.as_slice-in-Values.ensures)) c.walk_values.ensures.noted;
}

pub expressions::walk_expression-returns-in-Chain : goal.expressions::walk_expression-returns-in-Chain
expressions::walk_expression-returns-in-Chain t c = record {
  given = form_given (world_of c.args.context.now) c.args.ask c.args.walker.now c.args.expr.now (m.chain c.args.expr.now.mark (all_steps c.as_slice-in-Chain.result.now) (tree c.get-in-Chain.result.now))
      (chain_tree c.args.expr.now c.as_slice-in-Chain.result.now c.get-in-Chain.result.now (read_two f.Chain c.in-Chain.is c.as_slice-in-Chain.ensures c.get-in-Chain.ensures)) c.walk_chain.result c.walk_chain.ensures.given;
  noted = chain_form_noted (world_of c.args.context.now) c.args.around c.under-around.result c.args.ask c.args.walker.now c.walk_chain.new.walker c.args.expr.now c.under-around.ensures c.walk_chain.result
      (all_steps c.as_slice-in-Chain.result.now) (tree c.get-in-Chain.result.now)
      (chain_tree c.args.expr.now c.as_slice-in-Chain.result.now c.get-in-Chain.result.now (read_two f.Chain c.in-Chain.is c.as_slice-in-Chain.ensures c.get-in-Chain.ensures)) c.walk_chain.ensures.noted;
}

pub expressions::walk_expression-returns-in-Case : goal.expressions::walk_expression-returns-in-Case
expressions::walk_expression-returns-in-Case t c = record {
  given = form_given (world_of c.args.context.now) c.args.ask c.args.walker.now c.args.expr.now (m.case c.args.expr.now.mark (tree c.get-in-Case.result.now) (all_clauses c.as_slice-in-Case.result.now))
      (case_tree c.args.expr.now c.get-in-Case.result.now c.as_slice-in-Case.result.now (read_two f.Case c.in-Case.is c.get-in-Case.ensures c.as_slice-in-Case.ensures)) c.walk_case.result c.walk_case.ensures.given;
  noted = case_noted (world_of c.args.context.now) c.args.around c.under-around.result c.args.ask c.args.walker.now c.walk_case.new.walker c.args.expr.now c.under-around.ensures c.walk_case.result (tree c.get-in-Case.result.now)
      (all_clauses c.as_slice-in-Case.result.now) (case_tree c.args.expr.now c.get-in-Case.result.now c.as_slice-in-Case.result.now (read_two f.Case c.in-Case.is c.get-in-Case.ensures c.as_slice-in-Case.ensures)) c.walk_case.ensures.noted;
}

pub expressions::walk_expression-returns-in-Letrec : goal.expressions::walk_expression-returns-in-Letrec
expressions::walk_expression-returns-in-Letrec t c = record {
  given = form_given (world_of c.args.context.now) c.args.ask c.args.walker.now c.args.expr.now (m.letrec c.args.expr.now.mark (all_defs c.as_slice-in-Letrec.result.now) (tree c.get-in-Letrec.result.now))
      (letrec_tree c.args.expr.now c.as_slice-in-Letrec.result.now c.get-in-Letrec.result.now (read_two f.Letrec c.in-Letrec.is c.as_slice-in-Letrec.ensures c.get-in-Letrec.ensures)) c.walk_letrec.result c.walk_letrec.ensures.given;
  noted = letrec_form_noted (world_of c.args.context.now) c.args.around c.under-around.result c.args.ask c.args.walker.now c.walk_letrec.new.walker c.args.expr.now c.under-around.ensures c.walk_letrec.result
      (all_defs c.as_slice-in-Letrec.result.now) (tree c.get-in-Letrec.result.now)
      (letrec_tree c.args.expr.now c.as_slice-in-Letrec.result.now c.get-in-Letrec.result.now (read_two f.Letrec c.in-Letrec.is c.as_slice-in-Letrec.ensures c.get-in-Letrec.ensures)) c.walk_letrec.ensures.noted;
}

pub expressions::walk_expression-returns-in-Some-local_name : goal.expressions::walk_expression-returns-in-Some-local_name
expressions::walk_expression-returns-in-Some-local_name t c = record {
  given = applied_gives (world_of c.args.context.now) c.args.ask c.args.walker.now c.args.expr.now c.walk_application.result (tree c.get-in-Apply.result.now) (all_trees c.as_slice-in-Some-local_name.result.now)
      (apply_tree c.args.expr.now c.get-in-Apply.result.now c.as_slice-in-Some-local_name.result.now (read_two f.Apply c.in-Apply.is c.get-in-Apply.ensures c.as_slice-in-Some-local_name.ensures)) c.in-Some-local_name.name.now
      c.in-Some-local_name.ensures c.walk_application.ensures.given;
  noted = applied_noted (world_of c.args.context.now) c.args.around c.under-around.result c.args.ask c.args.walker.now c.walk_application.new.walker c.args.expr.now c.under-around.ensures c.walk_application.result
      (tree c.get-in-Apply.result.now) (all_trees c.as_slice-in-Some-local_name.result.now)
      (apply_tree c.args.expr.now c.get-in-Apply.result.now c.as_slice-in-Some-local_name.result.now (read_two f.Apply c.in-Apply.is c.get-in-Apply.ensures c.as_slice-in-Some-local_name.ensures)) c.in-Some-local_name.name.now
      c.in-Some-local_name.ensures c.walk_application.ensures.noted;
}

pub expressions::walk_expression-returns-in-None-local_name : goal.expressions::walk_expression-returns-in-None-local_name
expressions::walk_expression-returns-in-None-local_name t c = record {
  given = operator_gives (world_of c.args.context.now) c.args.ask c.args.walker.now c.args.expr.now c.walk_operator.result (tree c.get-in-None-local_name.result.now) (all_trees c.as_slice-in-None-local_name.result.now)
      (apply_tree c.args.expr.now c.get-in-None-local_name.result.now c.as_slice-in-None-local_name.result.now (read_two f.Apply c.in-Apply.is c.get-in-None-local_name.ensures c.as_slice-in-None-local_name.ensures))
      (ap (λ z. local_name (tree z)) (c.get-in-None-local_name.ensures ∙ sym c.get-in-Apply.ensures) ∙ c.in-None-local_name.ensures) c.walk_operator.ensures.given;
  noted = operator_noted (world_of c.args.context.now) c.args.around c.under-around.result c.args.ask c.args.walker.now c.walk_operator.new.walker c.args.expr.now c.under-around.ensures c.walk_operator.result
      (tree c.get-in-None-local_name.result.now) (all_trees c.as_slice-in-None-local_name.result.now)
      (apply_tree c.args.expr.now c.get-in-None-local_name.result.now c.as_slice-in-None-local_name.result.now (read_two f.Apply c.in-Apply.is c.get-in-None-local_name.ensures c.as_slice-in-None-local_name.ensures))
      (ap (λ z. local_name (tree z)) (c.get-in-None-local_name.ensures ∙ sym c.get-in-Apply.ensures) ∙ c.in-None-local_name.ensures) c.walk_operator.ensures.noted;
}

pub expressions::walk_expression-returns-in-Some-call_names : goal.expressions::walk_expression-returns-in-Some-call_names
expressions::walk_expression-returns-in-Some-call_names t c = record {
  given = named_call_gives (world_of c.args.context.now) c.args.ask c.args.walker.now c.args.expr.now c.walk_named_call.result (tree c.get-in-Call.result.now) (tree c.get-in-Call-2.result.now)
      (all_trees c.as_slice-in-Some-call_names.result.now) (call_tree c.args.expr.now c.get-in-Call.result.now c.get-in-Call-2.result.now c.as_slice-in-Some-call_names.result.now
      (read_three f.Call c.in-Call.is c.get-in-Call.ensures c.get-in-Call-2.ensures c.as_slice-in-Some-call_names.ensures)) c.in-Some-call_names.module.now c.in-Some-call_names.function.now c.in-Some-call_names.ensures
      c.walk_named_call.ensures.given;
  noted = named_call_noted (world_of c.args.context.now) c.args.around c.under-around.result c.args.ask c.args.walker.now c.walk_named_call.new.walker c.args.expr.now c.under-around.ensures c.walk_named_call.result
      (tree c.get-in-Call.result.now) (tree c.get-in-Call-2.result.now) (all_trees c.as_slice-in-Some-call_names.result.now)
      (call_tree c.args.expr.now c.get-in-Call.result.now c.get-in-Call-2.result.now c.as_slice-in-Some-call_names.result.now
      (read_three f.Call c.in-Call.is c.get-in-Call.ensures c.get-in-Call-2.ensures c.as_slice-in-Some-call_names.ensures)) c.in-Some-call_names.module.now c.in-Some-call_names.function.now c.in-Some-call_names.ensures
      c.walk_named_call.ensures.noted;
}

pub expressions::walk_expression-returns-in-None-call_names : goal.expressions::walk_expression-returns-in-None-call_names
expressions::walk_expression-returns-in-None-call_names t c = record {
  given = call_gives (world_of c.args.context.now) c.args.ask c.args.walker.now c.args.expr.now c.walk_call.result (tree c.get-in-None-call_names.result.now) (tree c.get-in-None-call_names-2.result.now)
      (all_trees c.as_slice-in-None-call_names.result.now) (call_tree c.args.expr.now c.get-in-None-call_names.result.now c.get-in-None-call_names-2.result.now c.as_slice-in-None-call_names.result.now
      (read_three f.Call c.in-Call.is c.get-in-None-call_names.ensures c.get-in-None-call_names-2.ensures c.as_slice-in-None-call_names.ensures))
      (unnamed_call c.get-in-Call.result.now c.get-in-Call-2.result.now c.get-in-None-call_names.result.now c.get-in-None-call_names-2.result.now (c.get-in-None-call_names.ensures ∙ sym c.get-in-Call.ensures)
      (c.get-in-None-call_names-2.ensures ∙ sym c.get-in-Call-2.ensures) c.in-None-call_names.ensures) c.walk_call.ensures.given;
  noted = call_noted (world_of c.args.context.now) c.args.around c.under-around.result c.args.ask c.args.walker.now c.walk_call.new.walker c.args.expr.now c.under-around.ensures c.walk_call.result (tree c.get-in-None-call_names.result.now)
      (tree c.get-in-None-call_names-2.result.now) (all_trees c.as_slice-in-None-call_names.result.now)
      (call_tree c.args.expr.now c.get-in-None-call_names.result.now c.get-in-None-call_names-2.result.now c.as_slice-in-None-call_names.result.now
      (read_three f.Call c.in-Call.is c.get-in-None-call_names.ensures c.get-in-None-call_names-2.ensures c.as_slice-in-None-call_names.ensures))
      (unnamed_call c.get-in-Call.result.now c.get-in-Call-2.result.now c.get-in-None-call_names.result.now c.get-in-None-call_names-2.result.now (c.get-in-None-call_names.ensures ∙ sym c.get-in-Call.ensures)
      (c.get-in-None-call_names-2.ensures ∙ sym c.get-in-Call-2.ensures) c.in-None-call_names.ensures) c.walk_call.ensures.noted;
}

pub expressions::walk_expression-returns-in-Primop : goal.expressions::walk_expression-returns-in-Primop
expressions::walk_expression-returns-in-Primop t c = record {
  given = form_given (world_of c.args.context.now) c.args.ask c.args.walker.now c.args.expr.now (m.primop c.args.expr.now.mark c.in-Primop.name (all_trees c.as_slice-in-Primop.result.now))
      (primop_tree c.args.expr.now c.in-Primop.name c.as_slice-in-Primop.result.now (read_two f.Primop c.in-Primop.is refl c.as_slice-in-Primop.ensures)) c.walk_primop.result c.walk_primop.ensures.given;
  noted = primop_noted (world_of c.args.context.now) c.args.around c.under-around.result c.args.ask c.args.walker.now c.walk_primop.new.walker c.args.expr.now c.under-around.ensures c.walk_primop.result c.in-Primop.name
      (all_trees c.as_slice-in-Primop.result.now) (primop_tree c.args.expr.now c.in-Primop.name c.as_slice-in-Primop.result.now (read_two f.Primop c.in-Primop.is refl c.as_slice-in-Primop.ensures)) c.walk_primop.ensures.noted;
}

pub expressions::walk_expression-returns-in-Try : goal.expressions::walk_expression-returns-in-Try
expressions::walk_expression-returns-in-Try t c = record {
  given = form_given (world_of c.args.context.now) c.args.ask c.args.walker.now c.args.expr.now
      (m.try c.args.expr.now.mark (tree c.in-Try.parts.arg) c.in-Try.parts.vars (tree c.in-Try.parts.body) c.in-Try.parts.catch_vars (tree c.in-Try.parts.handler))
      (try_tree c.args.expr.now c.in-Try.parts c.in-Try.is) c.walk_try.result c.walk_try.ensures.given;
  noted = try_noted (world_of c.args.context.now) c.args.around c.under-around.result c.args.ask c.args.walker.now c.walk_try.new.walker c.args.expr.now c.under-around.ensures c.walk_try.result (tree c.in-Try.parts.arg) c.in-Try.parts.vars
      (tree c.in-Try.parts.body) c.in-Try.parts.catch_vars (tree c.in-Try.parts.handler) (try_tree c.args.expr.now c.in-Try.parts c.in-Try.is) c.walk_try.ensures.noted;
}

pub expressions::walk_expression-returns-in-Receive : goal.expressions::walk_expression-returns-in-Receive
expressions::walk_expression-returns-in-Receive t c = record {
  given = form_given (world_of c.args.context.now) c.args.ask c.args.walker.now c.args.expr.now
      (m.receive c.args.expr.now.mark (all_clauses c.as_slice-in-Receive.result.now) (tree c.get-in-Receive.result.now) (tree c.get-in-Receive-2.result.now))
      (receive_tree c.args.expr.now c.as_slice-in-Receive.result.now c.get-in-Receive.result.now c.get-in-Receive-2.result.now
      (read_three f.Receive c.in-Receive.is c.as_slice-in-Receive.ensures c.get-in-Receive.ensures c.get-in-Receive-2.ensures)) c.walk_receive.result c.walk_receive.ensures.given;
  noted = receive_noted (world_of c.args.context.now) c.args.around c.under-around.result c.args.ask c.args.walker.now c.walk_receive.new.walker c.args.expr.now c.under-around.ensures c.walk_receive.result
      (all_clauses c.as_slice-in-Receive.result.now) (tree c.get-in-Receive.result.now) (tree c.get-in-Receive-2.result.now)
      (receive_tree c.args.expr.now c.as_slice-in-Receive.result.now c.get-in-Receive.result.now c.get-in-Receive-2.result.now
      (read_three f.Receive c.in-Receive.is c.as_slice-in-Receive.ensures c.get-in-Receive.ensures c.get-in-Receive-2.ensures)) c.walk_receive.ensures.noted;
}

pub expressions::walk_expression-returns-in_ok-given-in-Catch : goal.expressions::walk_expression-returns-in_ok-given-in-Catch
expressions::walk_expression-returns-in_ok-given-in-Catch t c = record {
  given = form_given (world_of c.args.context.now) c.args.ask c.args.walker.now c.args.expr.now (m.catch c.args.expr.now.mark (tree c.get-in-Catch.result.now))
      (catch_tree c.args.expr.now c.get-in-Catch.result.now (read_one f.Catch c.in-Catch.is c.get-in-Catch.ensures)) c.value-in-Catch.result
      (value_is c.value-in-Catch.result c.any.result (any) (c.any.ensures.value) c.value-in-Catch.ensures);
  noted = catch_noted (world_of c.args.context.now) c.args.around c.under-around.result c.args.ask c.args.walker.now c.walk_expression.new.walker c.args.expr.now c.under-around.ensures c.value-in-Catch.result
      (tree c.get-in-Catch.result.now) (catch_tree c.args.expr.now c.get-in-Catch.result.now (read_one f.Catch c.in-Catch.is c.get-in-Catch.ensures)) (always c.value-in-Catch.result c.in_ok-given-in-Catch.ensures.noted);
}

pub control::walk_under-returns : goal.control::walk_under-returns
control::walk_under-returns t c = record {
  given = under_given (world_of c.args.context.now) c.args.around c.args.ask (tree c.args.expr.now) c.args.walker.now c.bind.new.self c.in_ok-given.given c.args.vars.now c.args.types c.in_ok-bind.ensures c.in_ok-given.ensures.given;
  noted =
      under_noted (world_of c.args.context.now) c.args.around c.args.ask (tree c.args.expr.now) c.args.walker.now c.bind.new.self c.walk_expression.new.walker c.leave.new.self c.args.vars.now c.args.types
      c.position-position.result.variables c.position-position.result.types
      c.position-position.ensures.variables c.position-position.ensures.types c.in_ok-bind.ensures c.in_ok-given.ensures.noted c.leave.ensures;
}

pub control::walk_passed_under-returns : goal.control::walk_passed_under-returns
control::walk_passed_under-returns t c = record {
  given = told c.passed.result _ _ (ap (passed c.args.ask) c.in_ok-given.ensures.given) c.passed.ensures;
  noted = always c.passed.result c.in_ok-given.ensures.noted;
}

pub control::walk_passed-returns : goal.control::walk_passed-returns
control::walk_passed-returns t c = record {
  given = told c.passed.result _ _ (ap (passed c.args.ask) c.in_ok-given.ensures.given) c.passed.ensures;
  noted = always c.passed.result c.in_ok-given.ensures.noted;
}

pub control::walk_chain-returns : goal.control::walk_chain-returns
control::walk_chain-returns t c = record {
  given =
      chain_given (world_of c.args.context.now) c.under_steps-inner.result c.args.ask (tree c.args.last.now) c.in_ok-there.there (see_steps (world_of c.args.context.now) (walk_scope_of c.args.walker.now) (all_steps c.args.steps.now))
      (walk_scope_of c.walk_steps.new.walker) c.in_ok-given.given
      c.in_ok-there.ensures.given c.in_ok-given.ensures.given;
  noted =
      chain_noted (world_of c.args.context.now) c.under_steps-inner.result c.args.ask (tree c.args.last.now) c.args.walker.now c.walk_steps.new.walker c.walk_last.new.walker c.leave.new.self c.in_ok-there.there
      (see_steps (world_of c.args.context.now) (walk_scope_of c.args.walker.now) (all_steps c.args.steps.now)) (contributions_of_steps (world_of c.args.context.now) (walk_scope_of c.args.walker.now) (all_steps c.args.steps.now))
      (found_in_steps (world_of c.args.context.now) c.args.around (walk_scope_of c.args.walker.now) (all_steps c.args.steps.now))
      c.position-position.result.variables c.position-position.result.types _ c.position-position.ensures.variables c.position-position.ensures.types c.under_steps-inner.ensures c.in_ok-there.ensures.noted c.in_ok-there.ensures.given
      c.in_ok-given.ensures.noted c.leave.ensures;
}

pub control::walk_steps-loop-step-init : goal.control::walk_steps-loop-step-init
control::walk_steps-loop-step-init t c = steps_begin (world_of c.args.context.now) c.args.around c.args.walker.now c.args.steps.now

pub control::walk_steps-loop-step-preserved : goal.control::walk_steps-loop-step-preserved
control::walk_steps-loop-step-preserved t c =
    steps_round (world_of c.args.context.now) c.args.around c.args.walker.now c.args.steps.now c.loop-step.inner c.loop-step.walker c.loop-step.step-index c.walk_step.new.walker c.under-inner.result c.step-item.result c.in_ok-there.there
    c.loop-step-test.true c.step-item.is
    (c.under-inner.ensures ∙ ap (under c.loop-step.inner) c.step_note.ensures) c.loop-step.invariant c.in_ok-there.ensures.given c.in_ok-there.ensures.noted c.if-not-there.false

pub clauses::walk_matching-returns : goal.clauses::walk_matching-returns
clauses::walk_matching-returns t c = record {
  given = matching_given (world_of c.args.context.now) c.args.around c.args.ask (all_clauses c.args.clauses.now) c.args.walker.now c.add_types.new.self c.in_ok-given.given c.args.types c.args.matched.now c.in_ok-add_types.ensures
      c.in_ok-given.ensures.given;
  noted =
      matching_noted (world_of c.args.context.now) c.args.around c.args.ask (all_clauses c.args.clauses.now) c.args.walker.now c.add_types.new.self c.walk_clauses.new.walker c.leave.new.self c.args.types c.args.matched.now
      c.position-position.result.variables c.position-position.result.types
      c.position-position.ensures.variables c.position-position.ensures.types c.in_ok-add_types.ensures c.in_ok-given.ensures.noted c.leave.ensures;
}

pub clauses::walk_clauses-loop-clause-preserved : goal.clauses::walk_clauses-loop-clause-preserved
clauses::walk_clauses-loop-clause-preserved t c = record {
  given =
      clauses_round (world_of c.args.context.now) c.args.around c.args.ask c.args.matched.now c.args.clauses.now c.loop-clause.walker c.loop-clause.clause-index c.walk_clause.new.walker c.clause-item.result c.loop-clause-test.true
      c.clause-item.is c.in_ok-other.ensures.noted
      c.type_facts.ensures c.loop-clause.given c.in_ok-other.other c.in_ok-given.given _ c.in_ok-other.ensures.given c.in_ok-given.ensures c.loop-clause.invariant.given;
  noted =
      clauses_noted_round (world_of c.args.context.now) c.args.around c.args.ask c.args.matched.now c.args.clauses.now c.loop-clause.walker c.loop-clause.clause-index c.walk_clause.new.walker c.clause-item.result c.loop-clause-test.true
      c.clause-item.is c.in_ok-other.ensures.noted
      _ c.loop-clause.invariant.noted;
}

pub clauses::walk_clauses-returns : goal.clauses::walk_clauses-returns
clauses::walk_clauses-returns t c = record {
  given = clauses_end (world_of c.args.context.now) c.args.around c.args.ask c.args.matched.now c.args.clauses.now c.loop-clause.walker c.loop-clause.clause-index c.loop-clause.given _ c.loop-clause-test.false c.loop-clause.invariant.given;
  noted = clauses_noted (world_of c.args.context.now) c.args.around c.args.ask c.args.matched.now c.args.clauses.now c.loop-clause.walker c.loop-clause.clause-index _ c.loop-clause-test.false c.loop-clause.invariant.noted;
}

pub clauses::walk_clause-returns : goal.clauses::walk_clause-returns
clauses::walk_clause-returns t c = record {
  given =
      clause_told (world_of c.args.context.now) c.args.around c.args.ask c.args.matched.now c.args.walker.now c.add_slots.new.self c.walk_guard.new.walker c.args.clause.now c.head.new.scope c.len-first.result c.in_ok-head.head.slots
      c.in_ok-head.head.rows c.at.result.now
      c.len-first.ensures c.in_ok-head.ensures.slots c.in_ok-head.ensures.variables c.in_ok-head.ensures.functions c.in_ok-add_slots.ensures c.at.ensures c.in_ok-head.ensures.rows c.in_ok-walk_guard.ensures.noted c.in_ok-given.given
      c.in_ok-given.ensures.given;
  noted =
      clause_noted (world_of c.args.context.now) c.args.around c.args.ask c.args.matched.now c.args.walker.now c.add_slots.new.self c.walk_guard.new.walker c.args.clause.now c.head.new.scope c.len-first.result c.in_ok-head.head.slots
      c.in_ok-head.head.rows c.at.result.now
      c.len-first.ensures c.in_ok-head.ensures.slots c.in_ok-head.ensures.variables c.in_ok-head.ensures.functions c.in_ok-add_slots.ensures c.at.ensures c.in_ok-head.ensures.rows c.in_ok-walk_guard.ensures.noted
      c.walk_body.new.walker c.leave.new.self c.under-around.result c.position-position.result.variables c.position-position.result.types c.under-around.ensures c.position-position.ensures.variables c.position-position.ensures.types
      c.in_ok-given.ensures.noted c.leave.ensures;
}

pub control::walk_letrec-returns : goal.control::walk_letrec-returns
control::walk_letrec-returns t c = record {
  given =
      letrec_given (world_of c.args.context.now) c.args.around c.args.ask (all_defs c.args.defs.now)
      (tree c.args.body.now) c.args.walker.now c.define.new.self c.walk_functions.new.walker _ _ c.in_ok-given.given c.in_ok-define.ensures c.in_ok-walk_functions.ensures.noted c.in_ok-given.ensures.given;
  noted =
      letrec_noted (world_of c.args.context.now) c.args.around c.args.ask (all_defs c.args.defs.now)
      (tree c.args.body.now) c.args.walker.now c.define.new.self c.walk_functions.new.walker c.walk_passed.new.walker c.undefine.new.self c.len-functions.result c.len-labels.result
      c.len-functions.ensures c.len-labels.ensures c.in_ok-define.ensures c.in_ok-walk_functions.ensures.noted c.in_ok-given.ensures.noted c.undefine.ensures;
}

pub control::walk_functions-loop-def-preserved : goal.control::walk_functions-loop-def-preserved
control::walk_functions-loop-def-preserved t c =
    functions_round (world_of c.args.context.now) c.args.around c.args.defs.now c.loop-def.walker c.loop-def.def-index c.walk_function.new.walker _ c.def-item.result c.loop-def-test.true c.def-item.is c.in_ok-walk_function.ensures.noted
    c.loop-def.invariant

pub control::walk_functions-returns : goal.control::walk_functions-returns
control::walk_functions-returns t c = record {
  noted = functions_noted (world_of c.args.context.now) c.args.around c.args.defs.now c.loop-def.walker c.loop-def.def-index _ c.loop-def-test.false c.loop-def.invariant;
}

pub clauses::walk_guard-returns-then-is_silent : goal.clauses::walk_guard-returns-then-is_silent
clauses::walk_guard-returns-then-is_silent t c = record {
  noted = guard_silent (world_of c.args.context.now) c.args.walker.now (solution (constraint c.args.patterns.now) c.args.walker.now.types) (tree c.args.guard.now) (c.is_silent.ensures c.if-is_silent.true);
}
