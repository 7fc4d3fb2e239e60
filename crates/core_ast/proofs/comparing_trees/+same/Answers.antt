use Rattle.std.proofs.Common.{arith, map}
use Rattle.type_kinds.proofs.Truths.{refuted}
use Rattle.core_ast.specs.Tree.{tree, pattern_tree, all_trees, all_patterns, all_clauses, all_pairs, all_pat_pairs, all_segments, all_pat_segments, all_steps, all_defs}
use Rattle.core_ast.specs.Compared.{compared_variable, compared, compared_all, compared_pairs, compared_segments, compared_steps, compared_clauses}
use Rattle.core_ast.specs.Compared.{compared_defs, compared_pattern, compared_patterns, compared_pat_pairs, compared_pat_segments}
use Rattle.core_ast.specs.declared.syntax.Expr.{Expr}
use Rattle.core_ast.specs.declared.syntax.Form.TheShapes.{weighed-Form-Chain-0-at-5, weighed-Form-Letrec-0-at-6}
use Rattle.core_ast.proofs.syntax.Expr.TheLaws.{the_size}
use Rattle.core_ast.proofs.SameItems.{no_heavier, flags_differ, flags_same, through, begun, one_more, unlike, alike, other_length, all_same}
use Rattle.core_ast.proofs.SameItems.{pairs_same, segments_same, steps_same, clauses_same, defs_same, patterns_same, pat_pairs_same, pat_segments_same}
use Rattle.core_ast.proofs.SameForms.{last, ends, stops, along, composed_left, control_left, none_left, other_mark, other_pattern_mark, variable_same, local_same, external_same, literal_same, fun_same, listed_same, tuple_same}
use Rattle.core_ast.proofs.SameForms.{binary_same, values_same, chain_same, case_same, letrec_same, apply_same, call_same, primop_same, receive_same, catch_same, try_same, binds_same, equals_same, list_of_same, tuple_of_same, map_of_same}
use Rattle.core_ast.proofs.SameForms.{binary_of_same, alias_same, map_same, clause_same, pair_same, segment_same, pat_pair_same, pat_segment_same, def_same, let_same, do_same, other_variable, other_local, other_external}
use Rattle.core_ast.proofs.SameForms.{other_literal, other_fun, other_listed, other_tuple, other_binary, other_values, other_chain, other_case, other_letrec, other_apply, other_call, other_primop, other_receive, other_catch, other_try}
use Rattle.core_ast.proofs.SameForms.{other_binds, other_equals, other_list_of, other_tuple_of, other_map_of, other_binary_of, other_alias, other_map, let_and_do, do_and_let, updated_some, updated_none, some_and_none, none_and_some}
use Rattle.core_ast.proofs.comparing_trees.+same.Goals as goal

pub same_all-returns-then-a-b : goal.same_all-returns-then-a-b
same_all-returns-then-a-b t c = through _ (all_same c.args.places _ _) (other_length _ _ _ c.if-a-b.true)

pub same_all-loop-i-init : goal.same_all-loop-i-init
same_all-loop-i-init t c = begun _ _ _ c.if-a-b.false

pub same_all-loop-i-preserved : goal.same_all-loop-i-preserved
same_all-loop-i-preserved t c = one_more _ _ _ _ _ _ _ c.loop-i-test.true c.loop-i.invariant c.index-a-i.is c.index-b-i.is c.same_expr.ensures c.if-not-same_expr.false

pub same_all-returns-then-not-same_expr : goal.same_all-returns-then-not-same_expr
same_all-returns-then-not-same_expr t c = through _ (all_same c.args.places _ _) (unlike _ _ _ _ _ _ _ c.loop-i-test.true c.loop-i.invariant c.index-a-i.is c.index-b-i.is c.same_expr.ensures c.if-not-same_expr.true)

pub same_all-returns : goal.same_all-returns
same_all-returns t c = through _ (all_same c.args.places _ _) (alike _ _ _ _ c.loop-i.invariant (omega arith))

pub same_pairs-returns-then-a-b : goal.same_pairs-returns-then-a-b
same_pairs-returns-then-a-b t c = through _ (pairs_same c.args.places _ _) (other_length _ _ _ c.if-a-b.true)

pub same_pairs-loop-i-init : goal.same_pairs-loop-i-init
same_pairs-loop-i-init t c = begun _ _ _ c.if-a-b.false

pub same_pairs-loop-i-preserved : goal.same_pairs-loop-i-preserved
same_pairs-loop-i-preserved t c = one_more _ _ _ _ _ _ _ c.loop-i-test.true c.loop-i.invariant c.index-a-i.is c.index-b-i.is c.same_pair.ensures c.if-not-same_pair.false

pub same_pairs-returns-then-not-same_pair : goal.same_pairs-returns-then-not-same_pair
same_pairs-returns-then-not-same_pair t c = through _ (pairs_same c.args.places _ _) (unlike _ _ _ _ _ _ _ c.loop-i-test.true c.loop-i.invariant c.index-a-i.is c.index-b-i.is c.same_pair.ensures c.if-not-same_pair.true)

pub same_pairs-returns : goal.same_pairs-returns
same_pairs-returns t c = through _ (pairs_same c.args.places _ _) (alike _ _ _ _ c.loop-i.invariant (omega arith))

pub same_segments-returns-then-a-b : goal.same_segments-returns-then-a-b
same_segments-returns-then-a-b t c = through _ (segments_same c.args.places _ _) (other_length _ _ _ c.if-a-b.true)

pub same_segments-loop-i-init : goal.same_segments-loop-i-init
same_segments-loop-i-init t c = begun _ _ _ c.if-a-b.false

pub same_segments-loop-i-preserved : goal.same_segments-loop-i-preserved
same_segments-loop-i-preserved t c = one_more _ _ _ _ _ _ _ c.loop-i-test.true c.loop-i.invariant c.index-a-i.is c.index-b-i.is c.same_segment.ensures c.if-not-same_segment.false

pub same_segments-returns-then-not-same_segment : goal.same_segments-returns-then-not-same_segment
same_segments-returns-then-not-same_segment t c = through _ (segments_same c.args.places _ _) (unlike _ _ _ _ _ _ _ c.loop-i-test.true c.loop-i.invariant c.index-a-i.is c.index-b-i.is c.same_segment.ensures c.if-not-same_segment.true)

pub same_segments-returns : goal.same_segments-returns
same_segments-returns t c = through _ (segments_same c.args.places _ _) (alike _ _ _ _ c.loop-i.invariant (omega arith))

pub same_steps-returns-then-a-b : goal.same_steps-returns-then-a-b
same_steps-returns-then-a-b t c = through _ (steps_same c.args.places _ _) (other_length _ _ _ c.if-a-b.true)

pub same_steps-loop-i-init : goal.same_steps-loop-i-init
same_steps-loop-i-init t c = begun _ _ _ c.if-a-b.false

pub same_steps-loop-i-preserved : goal.same_steps-loop-i-preserved
same_steps-loop-i-preserved t c = one_more _ _ _ _ _ _ _ c.loop-i-test.true c.loop-i.invariant c.index-a-i.is c.index-b-i.is c.same_step.ensures c.if-not-same_step.false

pub same_steps-returns-then-not-same_step : goal.same_steps-returns-then-not-same_step
same_steps-returns-then-not-same_step t c = through _ (steps_same c.args.places _ _) (unlike _ _ _ _ _ _ _ c.loop-i-test.true c.loop-i.invariant c.index-a-i.is c.index-b-i.is c.same_step.ensures c.if-not-same_step.true)

pub same_steps-returns : goal.same_steps-returns
same_steps-returns t c = through _ (steps_same c.args.places _ _) (alike _ _ _ _ c.loop-i.invariant (omega arith))

pub same_clauses-returns-then-a-b : goal.same_clauses-returns-then-a-b
same_clauses-returns-then-a-b t c = through _ (clauses_same c.args.places _ _) (other_length _ _ _ c.if-a-b.true)

pub same_clauses-loop-i-init : goal.same_clauses-loop-i-init
same_clauses-loop-i-init t c = begun _ _ _ c.if-a-b.false

pub same_clauses-loop-i-preserved : goal.same_clauses-loop-i-preserved
same_clauses-loop-i-preserved t c = one_more _ _ _ _ _ _ _ c.loop-i-test.true c.loop-i.invariant c.index-a-i.is c.index-b-i.is c.same_clause.ensures c.if-not-same_clause.false

pub same_clauses-returns-then-not-same_clause : goal.same_clauses-returns-then-not-same_clause
same_clauses-returns-then-not-same_clause t c = through _ (clauses_same c.args.places _ _) (unlike _ _ _ _ _ _ _ c.loop-i-test.true c.loop-i.invariant c.index-a-i.is c.index-b-i.is c.same_clause.ensures c.if-not-same_clause.true)

pub same_clauses-returns : goal.same_clauses-returns
same_clauses-returns t c = through _ (clauses_same c.args.places _ _) (alike _ _ _ _ c.loop-i.invariant (omega arith))

pub same_defs-returns-then-a-b : goal.same_defs-returns-then-a-b
same_defs-returns-then-a-b t c = through _ (defs_same c.args.places _ _) (other_length _ _ _ c.if-a-b.true)

pub same_defs-loop-i-init : goal.same_defs-loop-i-init
same_defs-loop-i-init t c = begun _ _ _ c.if-a-b.false

pub same_defs-loop-i-preserved : goal.same_defs-loop-i-preserved
same_defs-loop-i-preserved t c = one_more _ _ _ _ _ _ _ c.loop-i-test.true c.loop-i.invariant c.index-a-i.is c.index-b-i.is c.same_definition.ensures c.if-not-same_definition.false

pub same_defs-returns-then-not-same_definition : goal.same_defs-returns-then-not-same_definition
same_defs-returns-then-not-same_definition t c = through _ (defs_same c.args.places _ _) (unlike _ _ _ _ _ _ _ c.loop-i-test.true c.loop-i.invariant c.index-a-i.is c.index-b-i.is c.same_definition.ensures c.if-not-same_definition.true)

pub same_defs-returns : goal.same_defs-returns
same_defs-returns t c = through _ (defs_same c.args.places _ _) (alike _ _ _ _ c.loop-i.invariant (omega arith))

pub same_patterns-returns-then-a-b : goal.same_patterns-returns-then-a-b
same_patterns-returns-then-a-b t c = through _ (patterns_same c.args.places _ _) (other_length _ _ _ c.if-a-b.true)

pub same_patterns-loop-i-init : goal.same_patterns-loop-i-init
same_patterns-loop-i-init t c = begun _ _ _ c.if-a-b.false

pub same_patterns-loop-i-preserved : goal.same_patterns-loop-i-preserved
same_patterns-loop-i-preserved t c = one_more _ _ _ _ _ _ _ c.loop-i-test.true c.loop-i.invariant c.index-a-i.is c.index-b-i.is c.same_pattern.ensures c.if-not-same_pattern.false

pub same_patterns-returns-then-not-same_pattern : goal.same_patterns-returns-then-not-same_pattern
same_patterns-returns-then-not-same_pattern t c = through _ (patterns_same c.args.places _ _) (unlike _ _ _ _ _ _ _ c.loop-i-test.true c.loop-i.invariant c.index-a-i.is c.index-b-i.is c.same_pattern.ensures c.if-not-same_pattern.true)

pub same_patterns-returns : goal.same_patterns-returns
same_patterns-returns t c = through _ (patterns_same c.args.places _ _) (alike _ _ _ _ c.loop-i.invariant (omega arith))

pub same_pat_pairs-returns-then-a-b : goal.same_pat_pairs-returns-then-a-b
same_pat_pairs-returns-then-a-b t c = through _ (pat_pairs_same c.args.places _ _) (other_length _ _ _ c.if-a-b.true)

pub same_pat_pairs-loop-i-init : goal.same_pat_pairs-loop-i-init
same_pat_pairs-loop-i-init t c = begun _ _ _ c.if-a-b.false

pub same_pat_pairs-loop-i-preserved : goal.same_pat_pairs-loop-i-preserved
same_pat_pairs-loop-i-preserved t c = one_more _ _ _ _ _ _ _ c.loop-i-test.true c.loop-i.invariant c.index-a-i.is c.index-b-i.is c.same_pat_pair.ensures c.if-not-same_pat_pair.false

pub same_pat_pairs-returns-then-not-same_pat_pair : goal.same_pat_pairs-returns-then-not-same_pat_pair
same_pat_pairs-returns-then-not-same_pat_pair t c = through _ (pat_pairs_same c.args.places _ _) (unlike _ _ _ _ _ _ _ c.loop-i-test.true c.loop-i.invariant c.index-a-i.is c.index-b-i.is c.same_pat_pair.ensures c.if-not-same_pat_pair.true)

pub same_pat_pairs-returns : goal.same_pat_pairs-returns
same_pat_pairs-returns t c = through _ (pat_pairs_same c.args.places _ _) (alike _ _ _ _ c.loop-i.invariant (omega arith))

pub same_pat_segments-returns-then-a-b : goal.same_pat_segments-returns-then-a-b
same_pat_segments-returns-then-a-b t c = through _ (pat_segments_same c.args.places _ _) (other_length _ _ _ c.if-a-b.true)

pub same_pat_segments-loop-i-init : goal.same_pat_segments-loop-i-init
same_pat_segments-loop-i-init t c = begun _ _ _ c.if-a-b.false

pub same_pat_segments-loop-i-preserved : goal.same_pat_segments-loop-i-preserved
same_pat_segments-loop-i-preserved t c = one_more _ _ _ _ _ _ _ c.loop-i-test.true c.loop-i.invariant c.index-a-i.is c.index-b-i.is c.same_pat_segment.ensures c.if-not-same_pat_segment.false

pub same_pat_segments-returns-then-not-same_pat_segment : goal.same_pat_segments-returns-then-not-same_pat_segment
same_pat_segments-returns-then-not-same_pat_segment t c = through _ (pat_segments_same c.args.places _ _)
    (unlike _ _ _ _ _ _ _ c.loop-i-test.true c.loop-i.invariant c.index-a-i.is c.index-b-i.is c.same_pat_segment.ensures c.if-not-same_pat_segment.true)

pub same_pat_segments-returns : goal.same_pat_segments-returns
same_pat_segments-returns t c = through _ (pat_segments_same c.args.places _ _) (alike _ _ _ _ c.loop-i.invariant (omega arith))

pub same_form-returns-in-Var-form : goal.same_form-returns-in-Var-form
same_form-returns-in-Var-form t c = variable_same c.args.places _ _ _ _ _ c.in-Var.is c.in-Var-form.is c.requires c.is.ensures

pub same_form-returns-in-Local-form : goal.same_form-returns-in-Local-form
same_form-returns-in-Local-form t c = local_same c.args.places _ _ _ _ _ c.in-Local.is c.in-Local-form.is c.requires c.same_name.ensures

pub same_form-returns-in-Lit-form : goal.same_form-returns-in-Lit-form
same_form-returns-in-Lit-form t c = literal_same c.args.places _ _ _ _ _ c.in-Lit.is c.in-Lit-form.is c.requires c.same_literal.ensures

pub same_form-returns-then-is : goal.same_form-returns-then-is
same_form-returns-then-is t c = external_same c.args.places _ _ _ _ _ _ _ c.in-External.is c.in-External-form.is c.requires (last _ c.same_name-then-is.ensures (λ q. (c.is-in-External-form.ensures.0 c.if-is.true, q)) (λ w. w.1))

pub same_form-returns-else-is : goal.same_form-returns-else-is
same_form-returns-else-is t c = external_same c.args.places _ _ _ _ _ _ _ c.in-External.is c.in-External-form.is c.requires (ends _ c.is-in-External-form.ensures c.if-is.false (λ w. w.0))

pub same_form-returns-in-Tuple-form : goal.same_form-returns-in-Tuple-form
same_form-returns-in-Tuple-form t c = tuple_same c.args.places _ _ _ _ _ c.in-Tuple.is c.in-Tuple-form.is c.requires
    (along (λ xs. compared_all c.args.places (all_trees xs)) _ _ _ _ _ c.as_slice.ensures c.as_slice-in-Tuple-form.ensures c.same_all.ensures)

pub same_form-returns-in-Values-form : goal.same_form-returns-in-Values-form
same_form-returns-in-Values-form t c = values_same c.args.places _ _ _ _ _ c.in-Values.is c.in-Values-form.is c.requires
    (along (λ xs. compared_all c.args.places (all_trees xs)) _ _ _ _ _ c.as_slice-in-Values-form.ensures c.as_slice-in-Values-form-2.ensures c.same_all-in-Values-form.ensures)

pub same_form-returns-in-Binary-form : goal.same_form-returns-in-Binary-form
same_form-returns-in-Binary-form t c = binary_same c.args.places _ _ _ _ _ c.in-Binary.is c.in-Binary-form.is c.requires
    (along (λ ss. compared_segments c.args.places (all_segments ss)) _ _ _ _ _ c.as_slice-in-Binary-form.ensures c.as_slice-in-Binary-form-2.ensures c.same_segments.ensures)

pub same_form-returns-in_default-form : goal.same_form-returns-in_default-form
same_form-returns-in_default-form t c = other_variable c.args.places _ _ _ c.in-Var.is c.in_default-form.not-Var

pub same_form-returns-in_default-form-2 : goal.same_form-returns-in_default-form-2
same_form-returns-in_default-form-2 t c = other_local c.args.places _ _ _ c.in-Local.is c.in_default-form-2.not-Local

pub same_form-returns-in_default-form-3 : goal.same_form-returns-in_default-form-3
same_form-returns-in_default-form-3 t c = other_external c.args.places _ _ _ _ c.in-External.is c.in_default-form-3.not-External

pub same_form-returns-in_default-form-4 : goal.same_form-returns-in_default-form-4
same_form-returns-in_default-form-4 t c = other_literal c.args.places _ _ _ c.in-Lit.is c.in_default-form-4.not-Lit

pub same_form-returns-in_default-form-5 : goal.same_form-returns-in_default-form-5
same_form-returns-in_default-form-5 t c = other_tuple c.args.places _ _ _ c.in-Tuple.is c.in_default-form-5.not-Tuple

pub same_form-returns-in_default-form-6 : goal.same_form-returns-in_default-form-6
same_form-returns-in_default-form-6 t c = other_values c.args.places _ _ _ c.in-Values.is c.in_default-form-6.not-Values

pub same_form-returns-in_default-form-7 : goal.same_form-returns-in_default-form-7
same_form-returns-in_default-form-7 t c = other_binary c.args.places _ _ _ c.in-Binary.is c.in_default-form-7.not-Binary

pub same_form-returns-in_default : goal.same_form-returns-in_default
same_form-returns-in_default t c = c.same_composed.ensures

pub same_form-same_composed-requires : goal.same_form-same_composed-requires
same_form-same_composed-requires t c = (
  omega arith,
  (
    c.requires,
    composed_left c.args.a.now c.in_default.not-Var c.in_default.not-Local c.in_default.not-External c.in_default.not-Lit c.in_default.not-Tuple c.in_default.not-Values c.in_default.not-Binary,
  ),
)

pub same_composed-returns-then-same_variables : goal.same_composed-returns-then-same_variables
same_composed-returns-then-same_variables t c = fun_same c.args.places _ _ _ _ _ c.in-Fun.is c.in-Fun-form.is c.requires.marks
    (last _ (along (λ e. compared c.args.places (tree e)) _ _ _ _ _ c.get.ensures c.get-then-same_variables.ensures c.same_expr.ensures)
    (λ q. ((along (map (compared_variable c.args.places)) _ _ _ _ _ c.as_slice.ensures c.as_slice-in-Fun-form.ensures c.same_variables.ensures).0 c.if-same_variables.true, q)) (λ w. w.1))

pub same_composed-returns-else-same_variables : goal.same_composed-returns-else-same_variables
same_composed-returns-else-same_variables t c = fun_same c.args.places _ _ _ _ _ c.in-Fun.is c.in-Fun-form.is c.requires.marks
    (ends _ (along (map (compared_variable c.args.places)) _ _ _ _ _ c.as_slice.ensures c.as_slice-in-Fun-form.ensures c.same_variables.ensures) c.if-same_variables.false (λ w. w.0))

pub same_composed-returns-then-same_all : goal.same_composed-returns-then-same_all
same_composed-returns-then-same_all t c = listed_same c.args.places _ _ _ _ _ _ _ c.in-Listed.is c.in-Listed-form.is c.requires.marks
    (last _ (along (λ e. compared c.args.places (tree e)) _ _ _ _ _ c.get-then-same_all.ensures c.get-then-same_all-2.ensures c.same_expr-then-same_all.ensures)
    (λ q. ((along (λ xs. compared_all c.args.places (all_trees xs)) _ _ _ _ _ c.as_slice-in-Listed-form.ensures c.as_slice-in-Listed-form-2.ensures c.same_all.ensures).0 c.if-same_all.true, q)) (λ w. w.1))

pub same_composed-returns-else-same_all : goal.same_composed-returns-else-same_all
same_composed-returns-else-same_all t c = listed_same c.args.places _ _ _ _ _ _ _ c.in-Listed.is c.in-Listed-form.is c.requires.marks
    (ends _ (along (λ xs. compared_all c.args.places (all_trees xs)) _ _ _ _ _ c.as_slice-in-Listed-form.ensures c.as_slice-in-Listed-form-2.ensures c.same_all.ensures) c.if-same_all.false (λ w. w.0))

pub same_composed-returns-then-same_pairs : goal.same_composed-returns-then-same_pairs
same_composed-returns-then-same_pairs t c = map_same c.args.places _ _ _ _ _ _ _ c.in-Map.is c.in-Map-form.is c.requires.marks
    (last _ c.same_updated.ensures (λ q. ((along (λ ps. compared_pairs c.args.places (all_pairs ps)) _ _ _ _ _ c.as_slice-in-Map-form.ensures c.as_slice-in-Map-form-2.ensures c.same_pairs.ensures).0 c.if-same_pairs.true, q)) (λ w. w.1))

pub same_composed-returns-else-same_pairs : goal.same_composed-returns-else-same_pairs
same_composed-returns-else-same_pairs t c = map_same c.args.places _ _ _ _ _ _ _ c.in-Map.is c.in-Map-form.is c.requires.marks
    (ends _ (along (λ ps. compared_pairs c.args.places (all_pairs ps)) _ _ _ _ _ c.as_slice-in-Map-form.ensures c.as_slice-in-Map-form-2.ensures c.same_pairs.ensures) c.if-same_pairs.false (λ w. w.0))

pub same_composed-returns-then-same_expr : goal.same_composed-returns-then-same_expr
same_composed-returns-then-same_expr t c = apply_same c.args.places _ _ _ _ _ _ _ c.in-Apply.is c.in-Apply-form.is c.requires.marks
    (last _ (along (λ xs. compared_all c.args.places (all_trees xs)) _ _ _ _ _ c.as_slice-then-same_expr.ensures c.as_slice-then-same_expr-2.ensures c.same_all-then-same_expr.ensures)
    (λ q. ((along (λ e. compared c.args.places (tree e)) _ _ _ _ _ c.get-in-Apply-form.ensures c.get-in-Apply-form-2.ensures c.same_expr-in-Apply-form.ensures).0 c.if-same_expr.true, q)) (λ w. w.1))

pub same_composed-returns-else-same_expr : goal.same_composed-returns-else-same_expr
same_composed-returns-else-same_expr t c = apply_same c.args.places _ _ _ _ _ _ _ c.in-Apply.is c.in-Apply-form.is c.requires.marks
    (ends _ (along (λ e. compared c.args.places (tree e)) _ _ _ _ _ c.get-in-Apply-form.ensures c.get-in-Apply-form-2.ensures c.same_expr-in-Apply-form.ensures) c.if-same_expr.false (λ w. w.0))

pub same_composed-returns-then-is : goal.same_composed-returns-then-is
same_composed-returns-then-is t c = primop_same c.args.places _ _ _ _ _ _ _ c.in-Primop.is c.in-Primop-form.is c.requires.marks
    (last _ (along (λ xs. compared_all c.args.places (all_trees xs)) _ _ _ _ _ c.as_slice-then-is.ensures c.as_slice-then-is-2.ensures c.same_all-then-is.ensures) (λ q. (c.is.ensures.0 c.if-is.true, q)) (λ w. w.1))

pub same_composed-returns-else-is : goal.same_composed-returns-else-is
same_composed-returns-else-is t c = primop_same c.args.places _ _ _ _ _ _ _ c.in-Primop.is c.in-Primop-form.is c.requires.marks (ends _ c.is.ensures c.if-is.false (λ w. w.0))

pub same_composed-returns-in-Catch-form : goal.same_composed-returns-in-Catch-form
same_composed-returns-in-Catch-form t c = catch_same c.args.places _ _ _ _ _ c.in-Catch.is c.in-Catch-form.is c.requires.marks
    (along (λ e. compared c.args.places (tree e)) _ _ _ _ _ c.get-in-Catch-form.ensures c.get-in-Catch-form-2.ensures c.same_expr-in-Catch-form.ensures)

pub same_composed-returns-in_default-form : goal.same_composed-returns-in_default-form
same_composed-returns-in_default-form t c = other_fun c.args.places _ _ _ c.in-Fun.is c.in_default-form.not-Fun

pub same_composed-returns-in_default-form-2 : goal.same_composed-returns-in_default-form-2
same_composed-returns-in_default-form-2 t c = other_listed c.args.places _ _ _ _ c.in-Listed.is c.in_default-form-2.not-Listed

pub same_composed-returns-in_default-form-3 : goal.same_composed-returns-in_default-form-3
same_composed-returns-in_default-form-3 t c = other_map c.args.places _ _ _ _ c.in-Map.is c.in_default-form-3.not-Map

pub same_composed-returns-in_default-form-4 : goal.same_composed-returns-in_default-form-4
same_composed-returns-in_default-form-4 t c = other_apply c.args.places _ _ _ _ c.in-Apply.is c.in_default-form-4.not-Apply

pub same_composed-returns-in_default-form-5 : goal.same_composed-returns-in_default-form-5
same_composed-returns-in_default-form-5 t c = other_primop c.args.places _ _ _ _ c.in-Primop.is c.in_default-form-5.not-Primop

pub same_composed-returns-in_default-form-6 : goal.same_composed-returns-in_default-form-6
same_composed-returns-in_default-form-6 t c = other_catch c.args.places _ _ _ c.in-Catch.is c.in_default-form-6.not-Catch

pub same_composed-returns-in_default : goal.same_composed-returns-in_default
same_composed-returns-in_default t c = c.same_control.ensures

pub same_composed-same_control-requires : goal.same_composed-same_control-requires
same_composed-same_control-requires t c = (
  omega arith,
  (
    c.requires.marks,
    control_left c.args.a.now c.requires.composed c.in_default.not-Fun c.in_default.not-Listed c.in_default.not-Map c.in_default.not-Apply c.in_default.not-Primop c.in_default.not-Catch,
  ),
)

pub same_control-returns-then-same_steps : goal.same_control-returns-then-same_steps
same_control-returns-then-same_steps t c = chain_same c.args.places _ _ _ _ _ _ _ c.in-Chain.is c.in-Chain-form.is c.requires.marks
    (last _ (along (λ e. compared c.args.places (tree e)) _ _ _ _ _ c.get.ensures c.get-then-same_steps.ensures c.same_expr.ensures)
    (λ q. ((along (λ ss. compared_steps c.args.places (all_steps ss)) _ _ _ _ _ c.as_slice.ensures c.as_slice-in-Chain-form.ensures c.same_steps.ensures).0 c.if-same_steps.true, q)) (λ w. w.1))

pub same_control-returns-else-same_steps : goal.same_control-returns-else-same_steps
same_control-returns-else-same_steps t c = chain_same c.args.places _ _ _ _ _ _ _ c.in-Chain.is c.in-Chain-form.is c.requires.marks
    (ends _ (along (λ ss. compared_steps c.args.places (all_steps ss)) _ _ _ _ _ c.as_slice.ensures c.as_slice-in-Chain-form.ensures c.same_steps.ensures) c.if-same_steps.false (λ w. w.0))

pub same_control-returns-then-same_expr : goal.same_control-returns-then-same_expr
same_control-returns-then-same_expr t c = case_same c.args.places _ _ _ _ _ _ _ c.in-Case.is c.in-Case-form.is c.requires.marks
    (last _ (along (λ cs. compared_clauses c.args.places (all_clauses cs)) _ _ _ _ _ c.as_slice-then-same_expr.ensures c.as_slice-then-same_expr-2.ensures c.same_clauses.ensures)
    (λ q. ((along (λ e. compared c.args.places (tree e)) _ _ _ _ _ c.get-in-Case-form.ensures c.get-in-Case-form-2.ensures c.same_expr-in-Case-form.ensures).0 c.if-same_expr.true, q)) (λ w. w.1))

pub same_control-returns-else-same_expr : goal.same_control-returns-else-same_expr
same_control-returns-else-same_expr t c = case_same c.args.places _ _ _ _ _ _ _ c.in-Case.is c.in-Case-form.is c.requires.marks
    (ends _ (along (λ e. compared c.args.places (tree e)) _ _ _ _ _ c.get-in-Case-form.ensures c.get-in-Case-form-2.ensures c.same_expr-in-Case-form.ensures) c.if-same_expr.false (λ w. w.0))

pub same_control-returns-then-same_defs : goal.same_control-returns-then-same_defs
same_control-returns-then-same_defs t c = letrec_same c.args.places _ _ _ _ _ _ _ c.in-Letrec.is c.in-Letrec-form.is c.requires.marks
    (last _ (along (λ e. compared c.args.places (tree e)) _ _ _ _ _ c.get-then-same_defs.ensures c.get-then-same_defs-2.ensures c.same_expr-then-same_defs.ensures)
    (λ q. ((along (λ ds. compared_defs c.args.places (all_defs ds)) _ _ _ _ _ c.as_slice-in-Letrec-form.ensures c.as_slice-in-Letrec-form-2.ensures c.same_defs.ensures).0 c.if-same_defs.true, q)) (λ w. w.1))

pub same_control-returns-else-same_defs : goal.same_control-returns-else-same_defs
same_control-returns-else-same_defs t c = letrec_same c.args.places _ _ _ _ _ _ _ c.in-Letrec.is c.in-Letrec-form.is c.requires.marks
    (ends _ (along (λ ds. compared_defs c.args.places (all_defs ds)) _ _ _ _ _ c.as_slice-in-Letrec-form.ensures c.as_slice-in-Letrec-form-2.ensures c.same_defs.ensures) c.if-same_defs.false (λ w. w.0))

pub same_control-returns-in-Try-form : goal.same_control-returns-in-Try-form
same_control-returns-in-Try-form t c = try_same c.args.places _ _ _ _ _ c.in-Try.is c.in-Try-form.is c.requires.marks c.same_try.ensures

pub same_control-returns-then-not-same_expr : goal.same_control-returns-then-not-same_expr
same_control-returns-then-not-same_expr t c = call_same c.args.places _ _ _ _ _ _ _ _ _ c.in-Call.is c.in-Call-form.is c.requires.marks
    (stops _ (along (λ e. compared c.args.places (tree e)) _ _ _ _ _ c.get-in-Call-form.ensures c.get-in-Call-form-2.ensures c.same_expr-in-Call-form.ensures) c.if-not-same_expr.true (λ w. w.0))

pub same_control-returns-else-same_expr-2 : goal.same_control-returns-else-same_expr-2
same_control-returns-else-same_expr-2 t c = call_same c.args.places _ _ _ _ _ _ _ _ _ c.in-Call.is c.in-Call-form.is c.requires.marks
    (ends _ (along (λ e. compared c.args.places (tree e)) _ _ _ _ _ c.get-in-Call-form-3.ensures c.get-in-Call-form-4.ensures c.same_expr-in-Call-form-2.ensures) c.if-same_expr-2.false (λ w. w.1))

pub same_control-returns-then-same_expr-2 : goal.same_control-returns-then-same_expr-2
same_control-returns-then-same_expr-2 t c = call_same c.args.places _ _ _ _ _ _ _ _ _ c.in-Call.is c.in-Call-form.is c.requires.marks
    (last _ (along (λ xs. compared_all c.args.places (all_trees xs)) _ _ _ _ _ c.as_slice-then-same_expr-2-2.ensures c.as_slice-then-same_expr-2-3.ensures c.same_all.ensures)
    (λ q. (
      (along (λ e. compared c.args.places (tree e)) _ _ _ _ _ c.get-in-Call-form.ensures c.get-in-Call-form-2.ensures c.same_expr-in-Call-form.ensures).0 c.if-not-same_expr.false,
      (along (λ e. compared c.args.places (tree e)) _ _ _ _ _ c.get-in-Call-form-3.ensures c.get-in-Call-form-4.ensures c.same_expr-in-Call-form-2.ensures).0 c.if-same_expr-2.true,
      q,
    )) (λ w. w.2))

pub same_control-returns-then-not-same_clauses : goal.same_control-returns-then-not-same_clauses
same_control-returns-then-not-same_clauses t c = receive_same c.args.places _ _ _ _ _ _ _ _ _ c.in-Receive.is c.in-Receive-form.is c.requires.marks
    (stops _ (along (λ cs. compared_clauses c.args.places (all_clauses cs)) _ _ _ _ _ c.as_slice-in-Receive-form.ensures c.as_slice-in-Receive-form-2.ensures c.same_clauses-in-Receive-form.ensures) c.if-not-same_clauses.true (λ w. w.0))

pub same_control-returns-else-same_expr-3 : goal.same_control-returns-else-same_expr-3
same_control-returns-else-same_expr-3 t c = receive_same c.args.places _ _ _ _ _ _ _ _ _ c.in-Receive.is c.in-Receive-form.is c.requires.marks
    (ends _ (along (λ e. compared c.args.places (tree e)) _ _ _ _ _ c.get-in-Receive-form.ensures c.get-in-Receive-form-2.ensures c.same_expr-in-Receive-form.ensures) c.if-same_expr-3.false (λ w. w.1))

pub same_control-returns-then-same_expr-3 : goal.same_control-returns-then-same_expr-3
same_control-returns-then-same_expr-3 t c = receive_same c.args.places _ _ _ _ _ _ _ _ _ c.in-Receive.is c.in-Receive-form.is c.requires.marks
    (last _ (along (λ e. compared c.args.places (tree e)) _ _ _ _ _ c.get-then-same_expr-3.ensures c.get-then-same_expr-3-2.ensures c.same_expr-then-same_expr-3.ensures)
    (λ q. (
      (along (λ cs. compared_clauses c.args.places (all_clauses cs)) _ _ _ _ _ c.as_slice-in-Receive-form.ensures c.as_slice-in-Receive-form-2.ensures c.same_clauses-in-Receive-form.ensures).0 c.if-not-same_clauses.false,
      (along (λ e. compared c.args.places (tree e)) _ _ _ _ _ c.get-in-Receive-form.ensures c.get-in-Receive-form-2.ensures c.same_expr-in-Receive-form.ensures).0 c.if-same_expr-3.true,
      q,
    )) (λ w. w.2))

pub same_control-returns-in_default-form : goal.same_control-returns-in_default-form
same_control-returns-in_default-form t c = other_chain c.args.places _ _ _ _ c.in-Chain.is c.in_default-form.not-Chain

pub same_control-returns-in_default-form-2 : goal.same_control-returns-in_default-form-2
same_control-returns-in_default-form-2 t c = other_case c.args.places _ _ _ _ c.in-Case.is c.in_default-form-2.not-Case

pub same_control-returns-in_default-form-3 : goal.same_control-returns-in_default-form-3
same_control-returns-in_default-form-3 t c = other_letrec c.args.places _ _ _ _ c.in-Letrec.is c.in_default-form-3.not-Letrec

pub same_control-returns-in_default-form-4 : goal.same_control-returns-in_default-form-4
same_control-returns-in_default-form-4 t c = other_call c.args.places _ _ _ _ _ c.in-Call.is c.in_default-form-4.not-Call

pub same_control-returns-in_default-form-5 : goal.same_control-returns-in_default-form-5
same_control-returns-in_default-form-5 t c = other_try c.args.places _ _ _ c.in-Try.is c.in_default-form-5.not-Try

pub same_control-returns-in_default-form-6 : goal.same_control-returns-in_default-form-6
same_control-returns-in_default-form-6 t c = other_receive c.args.places _ _ _ _ _ c.in-Receive.is c.in_default-form-6.not-Receive

pub same_control-returns-in_default : goal.same_control-returns-in_default
same_control-returns-in_default t c = none_left c.args.places _ _ c.requires.control c.in_default.not-Chain c.in_default.not-Case c.in_default.not-Letrec c.in_default.not-Call c.in_default.not-Try c.in_default.not-Receive

pub same_expr-returns-then-not-same_mark : goal.same_expr-returns-then-not-same_mark
same_expr-returns-then-not-same_mark t c = other_mark c.args.places _ _ _ c.same_mark.ensures c.if-not-same_mark.true

pub same_expr-returns : goal.same_expr-returns
same_expr-returns t c = c.same_form.ensures

pub same_pattern-returns-then-not-same_mark : goal.same_pattern-returns-then-not-same_mark
same_pattern-returns-then-not-same_mark t c = other_pattern_mark c.args.places _ _ _ c.same_mark.ensures c.if-not-same_mark.true

pub same_pattern-returns : goal.same_pattern-returns
same_pattern-returns t c = c.same_pattern_form.ensures

pub same_clause-returns-then-not-same_mark : goal.same_clause-returns-then-not-same_mark
same_clause-returns-then-not-same_mark t c = clause_same c.args.places _ _ _ (stops _ c.same_mark.ensures c.if-not-same_mark.true (λ w. w.0))

pub same_clause-returns-then-not-same_patterns : goal.same_clause-returns-then-not-same_patterns
same_clause-returns-then-not-same_patterns t c = clause_same c.args.places _ _ _
    (stops _ (along (λ ps. compared_patterns c.args.places (all_patterns ps)) _ _ _ _ _ c.as_slice.ensures c.as_slice-2.ensures c.same_patterns.ensures) c.if-not-same_patterns.true (λ w. w.1))

pub same_clause-returns-else-same_expr : goal.same_clause-returns-else-same_expr
same_clause-returns-else-same_expr t c = clause_same c.args.places _ _ _ (ends _ c.same_expr.ensures c.if-same_expr.false (λ w. w.2))

pub same_clause-returns-then-same_expr : goal.same_clause-returns-then-same_expr
same_clause-returns-then-same_expr t c = clause_same c.args.places _ _ _ (last _ c.same_expr-then-same_expr.ensures
    (λ q. (
      c.same_mark.ensures.0 c.if-not-same_mark.false,
      (along (λ ps. compared_patterns c.args.places (all_patterns ps)) _ _ _ _ _ c.as_slice.ensures c.as_slice-2.ensures c.same_patterns.ensures).0 c.if-not-same_patterns.false,
      c.same_expr.ensures.0 c.if-same_expr.true,
      q,
    )) (λ w. w.3))

pub same_definition-returns-then-not-same_name : goal.same_definition-returns-then-not-same_name
same_definition-returns-then-not-same_name t c = def_same c.args.places c.args.a.now c.args.b.now _ (stops _ c.same_name.ensures c.if-not-same_name.true (λ w. w.0))

pub same_definition-returns-then-not-same_mark : goal.same_definition-returns-then-not-same_mark
same_definition-returns-then-not-same_mark t c = def_same c.args.places c.args.a.now c.args.b.now _ (stops _ c.same_mark.ensures c.if-not-same_mark.true (λ w. w.1))

pub same_definition-returns-else-same_variables : goal.same_definition-returns-else-same_variables
same_definition-returns-else-same_variables t c = def_same c.args.places c.args.a.now c.args.b.now _
    (ends _ (along (map (compared_variable c.args.places)) _ _ _ _ _ c.as_slice.ensures c.as_slice-2.ensures c.same_variables.ensures) c.if-same_variables.false (λ w. w.2))

pub same_definition-returns-then-same_variables : goal.same_definition-returns-then-same_variables
same_definition-returns-then-same_variables t c = def_same c.args.places c.args.a.now c.args.b.now _
    (last _ (along (λ e. compared c.args.places (tree e)) _ _ _ _ _ c.get.ensures c.get-then-same_variables.ensures c.same_expr.ensures)
    (λ q. (
      c.same_name.ensures.0 c.if-not-same_name.false,
      c.same_mark.ensures.0 c.if-not-same_mark.false,
      (along (map (compared_variable c.args.places)) _ _ _ _ _ c.as_slice.ensures c.as_slice-2.ensures c.same_variables.ensures).0 c.if-same_variables.true,
      q,
    )) (λ w. w.3))

pub same_pair-returns-then-a-b : goal.same_pair-returns-then-a-b
same_pair-returns-then-a-b t c = pair_same c.args.places _ _ _ (refuted (λ w. flags_differ _ _ c.if-a-b.true w.0))

pub same_pair-returns-else-same_expr : goal.same_pair-returns-else-same_expr
same_pair-returns-else-same_expr t c = pair_same c.args.places _ _ _ (ends _ c.same_expr.ensures c.if-same_expr.false (λ w. w.1))

pub same_pair-returns-then-same_expr : goal.same_pair-returns-then-same_expr
same_pair-returns-then-same_expr t c = pair_same c.args.places _ _ _ (last _ c.same_expr-then-same_expr.ensures (λ q. (flags_same _ _ c.if-a-b.false, c.same_expr.ensures.0 c.if-same_expr.true, q)) (λ w. w.2))

pub same_pat_pair-returns-else-same_expr : goal.same_pat_pair-returns-else-same_expr
same_pat_pair-returns-else-same_expr t c = pat_pair_same c.args.places _ _ _ (ends _ c.same_expr.ensures c.if-same_expr.false (λ w. w.0))

pub same_pat_pair-returns-then-same_expr : goal.same_pat_pair-returns-then-same_expr
same_pat_pair-returns-then-same_expr t c = pat_pair_same c.args.places _ _ _ (last _ c.same_pattern.ensures (λ q. (c.same_expr.ensures.0 c.if-same_expr.true, q)) (λ w. w.1))

pub same_segment-returns-else-same_expr : goal.same_segment-returns-else-same_expr
same_segment-returns-else-same_expr t c = segment_same c.args.places _ _ _ (ends _ c.same_expr.ensures c.if-same_expr.false (λ w. w.0))

pub same_segment-returns-then-same_expr : goal.same_segment-returns-then-same_expr
same_segment-returns-then-same_expr t c = segment_same c.args.places _ _ _ (last _ (along (λ xs. compared_all c.args.places (all_trees xs)) _ _ _ _ _ c.as_slice.ensures c.as_slice-then-same_expr.ensures c.same_all.ensures)
    (λ q. (c.same_expr.ensures.0 c.if-same_expr.true, q)) (λ w. w.1))

pub same_pat_segment-returns-else-same_pattern : goal.same_pat_segment-returns-else-same_pattern
same_pat_segment-returns-else-same_pattern t c = pat_segment_same c.args.places _ _ _ (ends _ c.same_pattern.ensures c.if-same_pattern.false (λ w. w.0))

pub same_pat_segment-returns-then-same_pattern : goal.same_pat_segment-returns-then-same_pattern
same_pat_segment-returns-then-same_pattern t c = pat_segment_same c.args.places _ _ _
    (last _ (along (λ xs. compared_all c.args.places (all_trees xs)) _ _ _ _ _ c.as_slice.ensures c.as_slice-then-same_pattern.ensures c.same_all.ensures) (λ q. (c.same_pattern.ensures.0 c.if-same_pattern.true, q)) (λ w. w.1))

pub same_pattern_form-returns-in-Var-Var : goal.same_pattern_form-returns-in-Var-Var
same_pattern_form-returns-in-Var-Var t c = binds_same c.args.places _ _ _ _ _ c.in-Var-Var.is-0 c.in-Var-Var.is-1 c.requires c.is.ensures

pub same_pattern_form-returns-in-Lit-Lit : goal.same_pattern_form-returns-in-Lit-Lit
same_pattern_form-returns-in-Lit-Lit t c = equals_same c.args.places _ _ _ _ _ c.in-Lit-Lit.is-0 c.in-Lit-Lit.is-1 c.requires c.same_literal.ensures

pub same_pattern_form-returns-then-same_patterns : goal.same_pattern_form-returns-then-same_patterns
same_pattern_form-returns-then-same_patterns t c = list_of_same c.args.places _ _ _ _ _ _ _ c.in-Listed-Listed.is-0 c.in-Listed-Listed.is-1 c.requires
    (last _ (along (λ p. compared_pattern c.args.places (pattern_tree p)) _ _ _ _ _ c.get.ensures c.get-then-same_patterns.ensures c.same_pattern.ensures)
    (λ q. ((along (λ ps. compared_patterns c.args.places (all_patterns ps)) _ _ _ _ _ c.as_slice.ensures c.as_slice-in-Listed-Listed.ensures c.same_patterns.ensures).0 c.if-same_patterns.true, q)) (λ w. w.1))

pub same_pattern_form-returns-else-same_patterns : goal.same_pattern_form-returns-else-same_patterns
same_pattern_form-returns-else-same_patterns t c = list_of_same c.args.places _ _ _ _ _ _ _ c.in-Listed-Listed.is-0 c.in-Listed-Listed.is-1 c.requires
    (ends _ (along (λ ps. compared_patterns c.args.places (all_patterns ps)) _ _ _ _ _ c.as_slice.ensures c.as_slice-in-Listed-Listed.ensures c.same_patterns.ensures) c.if-same_patterns.false (λ w. w.0))

pub same_pattern_form-returns-in-Tuple-Tuple : goal.same_pattern_form-returns-in-Tuple-Tuple
same_pattern_form-returns-in-Tuple-Tuple t c = tuple_of_same c.args.places _ _ _ _ _ c.in-Tuple-Tuple.is-0 c.in-Tuple-Tuple.is-1 c.requires
    (along (λ ps. compared_patterns c.args.places (all_patterns ps)) _ _ _ _ _ c.as_slice-in-Tuple-Tuple.ensures c.as_slice-in-Tuple-Tuple-2.ensures c.same_patterns-in-Tuple-Tuple.ensures)

pub same_pattern_form-returns-in-Map-Map : goal.same_pattern_form-returns-in-Map-Map
same_pattern_form-returns-in-Map-Map t c = map_of_same c.args.places _ _ _ _ _ c.in-Map-Map.is-0 c.in-Map-Map.is-1 c.requires
    (along (λ ps. compared_pat_pairs c.args.places (all_pat_pairs ps)) _ _ _ _ _ c.as_slice-in-Map-Map.ensures c.as_slice-in-Map-Map-2.ensures c.same_pat_pairs.ensures)

pub same_pattern_form-returns-in-Binary-Binary : goal.same_pattern_form-returns-in-Binary-Binary
same_pattern_form-returns-in-Binary-Binary t c = binary_of_same c.args.places _ _ _ _ _ c.in-Binary-Binary.is-0 c.in-Binary-Binary.is-1 c.requires
    (along (λ ss. compared_pat_segments c.args.places (all_pat_segments ss)) _ _ _ _ _ c.as_slice-in-Binary-Binary.ensures c.as_slice-in-Binary-Binary-2.ensures c.same_pat_segments.ensures)

pub same_pattern_form-returns-then-same_variable : goal.same_pattern_form-returns-then-same_variable
same_pattern_form-returns-then-same_variable t c = alias_same c.args.places _ _ _ _ _ _ _ c.in-Alias-Alias.is-0 c.in-Alias-Alias.is-1 c.requires
    (last _ (along (λ p. compared_pattern c.args.places (pattern_tree p)) _ _ _ _ _ c.get-then-same_variable.ensures c.get-then-same_variable-2.ensures c.same_pattern-then-same_variable.ensures)
    (λ q. (c.same_variable.ensures.0 c.if-same_variable.true, q)) (λ w. w.1))

pub same_pattern_form-returns-else-same_variable : goal.same_pattern_form-returns-else-same_variable
same_pattern_form-returns-else-same_variable t c = alias_same c.args.places _ _ _ _ _ _ _ c.in-Alias-Alias.is-0 c.in-Alias-Alias.is-1 c.requires (ends _ c.same_variable.ensures c.if-same_variable.false (λ w. w.0))

pub same_pattern_form-returns-in_default : goal.same_pattern_form-returns-in_default
same_pattern_form-returns-in_default t c = other_binds c.args.places _ _ _ c.in_default.is-0 c.in_default.not-Var-1

pub same_pattern_form-returns-in_default-2 : goal.same_pattern_form-returns-in_default-2
same_pattern_form-returns-in_default-2 t c = other_equals c.args.places _ _ _ c.in_default.is-0 c.in_default.not-Lit-1

pub same_pattern_form-returns-in_default-3 : goal.same_pattern_form-returns-in_default-3
same_pattern_form-returns-in_default-3 t c = other_list_of c.args.places _ _ _ _ c.in_default.is-0 c.in_default.not-Listed-1

pub same_pattern_form-returns-in_default-4 : goal.same_pattern_form-returns-in_default-4
same_pattern_form-returns-in_default-4 t c = other_tuple_of c.args.places _ _ _ c.in_default.is-0 c.in_default.not-Tuple-1

pub same_pattern_form-returns-in_default-5 : goal.same_pattern_form-returns-in_default-5
same_pattern_form-returns-in_default-5 t c = other_map_of c.args.places _ _ _ c.in_default.is-0 c.in_default.not-Map-1

pub same_pattern_form-returns-in_default-6 : goal.same_pattern_form-returns-in_default-6
same_pattern_form-returns-in_default-6 t c = other_binary_of c.args.places _ _ _ c.in_default.is-0 c.in_default.not-Binary-1

pub same_pattern_form-returns-in_default-7 : goal.same_pattern_form-returns-in_default-7
same_pattern_form-returns-in_default-7 t c = other_alias c.args.places _ _ _ _ c.in_default.is-0 c.in_default.not-Alias-1

pub same_step-returns-then-not-same_mark : goal.same_step-returns-then-not-same_mark
same_step-returns-then-not-same_mark t c = let_same c.args.places _ _ _ _ _ _ _ _ _ c.in-Let-Let.is-0 c.in-Let-Let.is-1 (stops _ c.same_mark.ensures c.if-not-same_mark.true (λ w. w.0))

pub same_step-returns-else-same_variables : goal.same_step-returns-else-same_variables
same_step-returns-else-same_variables t c = let_same c.args.places _ _ _ _ _ _ _ _ _ c.in-Let-Let.is-0 c.in-Let-Let.is-1
    (ends _ (along (map (compared_variable c.args.places)) _ _ _ _ _ c.as_slice.ensures c.as_slice-in-Let-Let.ensures c.same_variables.ensures) c.if-same_variables.false (λ w. w.1))

pub same_step-returns-then-same_variables : goal.same_step-returns-then-same_variables
same_step-returns-then-same_variables t c = let_same c.args.places _ _ _ _ _ _ _ _ _ c.in-Let-Let.is-0 c.in-Let-Let.is-1
    (last _ c.same_expr.ensures (λ q. (
      c.same_mark.ensures.0 c.if-not-same_mark.false,
      (along (map (compared_variable c.args.places)) _ _ _ _ _ c.as_slice.ensures c.as_slice-in-Let-Let.ensures c.same_variables.ensures).0 c.if-same_variables.true,
      q,
    )) (λ w. w.2))

pub same_step-returns-else-same_mark : goal.same_step-returns-else-same_mark
same_step-returns-else-same_mark t c = do_same c.args.places _ _ _ _ _ _ _ c.in-Do-Do.is-0 c.in-Do-Do.is-1 (ends _ c.same_mark-in-Do-Do.ensures c.if-same_mark.false (λ w. w.0))

pub same_step-returns-then-same_mark : goal.same_step-returns-then-same_mark
same_step-returns-then-same_mark t c = do_same c.args.places _ _ _ _ _ _ _ c.in-Do-Do.is-0 c.in-Do-Do.is-1 (last _ c.same_expr-then-same_mark.ensures (λ q. (c.same_mark-in-Do-Do.ensures.0 c.if-same_mark.true, q)) (λ w. w.1))

pub same_step-returns-in_default : goal.same_step-returns-in_default
same_step-returns-in_default t c = let_and_do c.args.places _ _ _ _ _ _ _ c.in_default.is-0 c.in_default.is-1

pub same_step-returns-in_default-2 : goal.same_step-returns-in_default-2
same_step-returns-in_default-2 t c = do_and_let c.args.places _ _ _ _ _ _ _ c.in_default.is-0 c.in_default.is-1

pub same_try-returns-then-not-same_expr : goal.same_try-returns-then-not-same_expr
same_try-returns-then-not-same_expr t c = stops _ (along (λ e. compared c.args.places (tree e)) _ _ _ _ _ c.get.ensures c.get-2.ensures c.same_expr.ensures) c.if-not-same_expr.true (λ w. w.0)

pub same_try-returns-then-not-same_expr-2 : goal.same_try-returns-then-not-same_expr-2
same_try-returns-then-not-same_expr-2 t c = stops _ (along (λ e. compared c.args.places (tree e)) _ _ _ _ _ c.get-3.ensures c.get-4.ensures c.same_expr-2.ensures) c.if-not-same_expr-2.true (λ w. w.1)

pub same_try-returns-then-not-same_expr-3 : goal.same_try-returns-then-not-same_expr-3
same_try-returns-then-not-same_expr-3 t c = stops _ (along (λ e. compared c.args.places (tree e)) _ _ _ _ _ c.get-5.ensures c.get-6.ensures c.same_expr-3.ensures) c.if-not-same_expr-3.true (λ w. w.2)

pub same_try-returns-else-same_variables : goal.same_try-returns-else-same_variables
same_try-returns-else-same_variables t c = ends _ (along (map (compared_variable c.args.places)) _ _ _ _ _ c.as_slice.ensures c.as_slice-2.ensures c.same_variables.ensures) c.if-same_variables.false (λ w. w.3)

pub same_try-returns-then-same_variables : goal.same_try-returns-then-same_variables
same_try-returns-then-same_variables t c = last _ (along (map (compared_variable c.args.places)) _ _ _ _ _ c.as_slice-then-same_variables.ensures c.as_slice-then-same_variables-2.ensures c.same_variables-then-same_variables.ensures)
    (λ q. (
      (along (λ e. compared c.args.places (tree e)) _ _ _ _ _ c.get.ensures c.get-2.ensures c.same_expr.ensures).0 c.if-not-same_expr.false,
      (along (λ e. compared c.args.places (tree e)) _ _ _ _ _ c.get-3.ensures c.get-4.ensures c.same_expr-2.ensures).0 c.if-not-same_expr-2.false,
      (along (λ e. compared c.args.places (tree e)) _ _ _ _ _ c.get-5.ensures c.get-6.ensures c.same_expr-3.ensures).0 c.if-not-same_expr-3.false,
      (along (map (compared_variable c.args.places)) _ _ _ _ _ c.as_slice.ensures c.as_slice-2.ensures c.same_variables.ensures).0 c.if-same_variables.true,
      q,
    )) (λ w. w.4)

pub same_updated-returns-in-None-None : goal.same_updated-returns-in-None-None
same_updated-returns-in-None-None t c = updated_none c.args.places _ _ c.in-None-None.is-0 c.in-None-None.is-1

pub same_updated-returns-in-Some-Some : goal.same_updated-returns-in-Some-Some
same_updated-returns-in-Some-Some t c = updated_some c.args.places _ _ _ _ _ c.in-Some-Some.is-0 c.in-Some-Some.is-1 (along (λ e. compared c.args.places (tree e)) _ _ _ _ _ c.get.ensures c.get-in-Some-Some.ensures c.same_expr.ensures)

pub same_updated-returns-in_default : goal.same_updated-returns-in_default
same_updated-returns-in_default t c = some_and_none c.args.places _ _ _ c.in_default.is-0 c.in_default.is-1

pub same_updated-returns-in_default-2 : goal.same_updated-returns-in_default-2
same_updated-returns-in_default-2 t c = none_and_some c.args.places _ _ _ c.in_default.is-0 c.in_default.is-1

pub same_steps-same_step-requires : goal.same_steps-same_step-requires
same_steps-same_step-requires t c = (omega (arith, c.decreases, no_heavier (weighed-Form-Chain-0-at-5.weight Expr the_size) c.args.a.now c.loop-i.i c.index-a-i.result c.loop-i-test.true c.index-a-i.is), tt)

pub same_defs-same_definition-requires : goal.same_defs-same_definition-requires
same_defs-same_definition-requires t c = (omega (arith, c.decreases, no_heavier (weighed-Form-Letrec-0-at-6.weight Expr the_size) c.args.a.now c.loop-i.i c.index-a-i.result c.loop-i-test.true c.index-a-i.is), tt)
