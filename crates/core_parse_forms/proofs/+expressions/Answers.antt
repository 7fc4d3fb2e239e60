use Rattle.std.proofs.Common.{rules, [], ap, ◌∙◌, arith, refl, Bool, ◌+◌, subst, sym}
use Rattle.core_ast.specs.Tree.{all_segments, segment_parts, all_patterns, pattern_tree, tree, all_pat_segments, pat_segment_parts, all_pat_pairs, pat_pair_parts}
use Rattle.core_parse_forms.proofs.MoreFormExits.{binary_bad, binary_ok, case_0_bad, case_1_bad, case_2_bad, case_3_bad, case_ok, one_clause, fun_end, fun_1_bad, fun_2_bad, fun_3_bad, fun_ok}
use Rattle.std.proofs.lemmas.Bool.{iff_false, both_ways}
use Rattle.core_parse_forms.specs.steps.Items.{number_segment, number_pat_segment, number_pat_pair}
use Rattle.core_parse_forms.proofs.ItemExits.{closes_segments, segment_item, segments_of, items_nothing, items_empty, items_bad, items_first, items_end, items_close, items_worse}
use Rattle.core_parse_forms.proofs.ItemExits.{items_more, items_other, closes_expressions, expression_item, expressions_of, closes_pattern_segments, pattern_segment_item}
use Rattle.core_parse_forms.proofs.ItemExits.{pattern_segments_of, closes_pattern_pairs, pattern_pair_item, pattern_pairs_of, closes_patterns, patterns_of, pattern_item, pattern_pair_kept}
use Rattle.core_parse_forms.proofs.RowExits.{segment_0_bad, segment_1_bad, segment_2_bad, segment_3_bad, segment_4_bad, segment_ok, definitions_start, definitions_next, definition_0_bad}
use Rattle.core_parse_forms.proofs.RowExits.{definition_1_bad, definition_2_bad, definition_ok, noted_function_none, function_bare_bad, function_bare, function_in_bad}
use Rattle.core_parse_forms.proofs.RowExits.{function_note_bad, function_noted, function_none, function_dull, function_1_bad, function_2_bad, function_3_bad, function_4_bad, function_ok}
use Rattle.core_parse_forms.proofs.ChainExits.{chain_last_bad, begins_sort, chain_first_bad, chain_first, chain_step_bad, chain_step, is_let, step_do_bad, step_do, step_vars_bad, step_equals_bad, step_value_bad, step_in_bad, step_let}
use Rattle.core_parse_forms.proofs.ClauseListExits.{clauses_start, clauses_end, clauses_close, clauses_bad, clauses_next, clause_kept}
use Rattle.core_parse_forms.specs.steps.Clauses.{ReadsHead, in_patterns, no_when}
use Rattle.core_parse_forms.proofs.ClauseExits.{guard_bad, arrow_bad, body_bad, clause_read, clause_note_bad, clause_noted_read, clause_none, head_several, head_several_bad, head_bare_bad, head_one_bad, head_one_read, head_open_end}
use Rattle.core_parse_forms.proofs.ClauseExits.{inner_several, inner_several_bad, inner_bare_bad, inner_either, inner_either_bad, second_bad, second_either, second_either_bad, second_when, second_when_bad, head_variable_deep}
use Rattle.core_parse_forms.proofs.ClauseExits.{head_variable_end, head_noted_bad, head_noted_when, head_noted_when_bad, head_named_bad, head_named_either, head_named_either_bad, head_variable_bad, head_variable_when}
use Rattle.core_parse_forms.proofs.ClauseResults.{clause_marked, single_head, head_labels, single_shorter, either_head, either_shorter, variable_is, binds_is, or_memory}
use Rattle.std.proofs.lemmas.Result.{IfErr-weaker}
use Rattle.core_parse_grammar.proofs.LeafExits.{two_at_least, first_shorter}
use Rattle.core_parse_forms.specs.steps.Patterns.{ReadsInBrackets}
use Rattle.core_parse_forms.proofs.FormExits.{try_0_bad, try_1_bad, try_2_bad, try_3_bad, try_4_bad, try_5_bad, try_6_bad, try_7_bad, try_8_bad, try_ok, clauses_alone, receive_0_bad, receive_1_bad}
use Rattle.core_parse_forms.proofs.FormExits.{receive_2_bad, receive_3_bad, receive_ok, catch_0_bad, catch_ok, tuple_0_bad, tuple_ok, values_0_bad, values_ok, letrec_0_bad, letrec_1_bad, letrec_ok, apply_0_bad}
use Rattle.core_parse_forms.proofs.FormExits.{apply_1_bad, apply_2_bad, apply_ok, call_0_bad, call_1_bad, call_2_bad, call_3_bad, call_4_bad, call_ok, primop_0_bad, primop_1_bad, primop_2_bad, primop_ok}
use Rattle.core_parse_forms.proofs.RunExits.{definitions_end, definitions_close, definitions_bad}
use Rattle.core_parse_forms.proofs.ExpressionListExits.{list_open_end, list_nil, list_unclosed, list_closes, list_done, list_first_bad, list_first_item, list_ran_out, list_stuck, list_shut, list_comma_bad, list_item, list_bar_end}
use Rattle.core_parse_forms.proofs.ExpressionListExits.{list_text, list_inner_end, list_tail_nil, list_merge_bad, list_merge, list_round_bad, list_note_bad, list_noted, list_tail_bad, list_tailed, one_more, one_deeper, not_this_sort}
use Rattle.core_parse_forms.proofs.StringExits.{string_weight}
use Rattle.core_parse_forms.proofs.ExpressionExits.{expression_none, expression_list, expression_list_bad, expression_list_deep, expression_bare, expression_bare_bad, expression_in_bad, expression_note_bad, expression_noted, bare_none}
use Rattle.core_parse_forms.proofs.ExpressionExits.{bare_expression_deep, bare_expression_dull, bare_other, bare_other_bad, variable_made, literal_made, other_none, other_else, other_variable, other_literal, other_nil_bad, other_nil}
use Rattle.core_parse_grammar.specs.Labels.{number, number_pattern}
use Rattle.core_parse_forms.proofs.PairExits.{map_expression_bad, map_expression_new, map_expression_updated, map_pair_end, map_pair_bare_ok, map_pair_bare_bad, map_pair_open_end, map_pair_second_bad, map_pair_second_ok}
use Rattle.core_parse_forms.proofs.PairExits.{map_pair_second_note_bad, map_pair_key_bad, map_pair_key_end, map_pair_noted_ok, map_pair_noted_value_bad, map_pair_key_note_bad, map_pair_value_bad, map_pair_ok, map_pair_note_bad}
use Rattle.core_parse_forms.proofs.PairExits.{bare_map_pair_key_bad, bare_map_pair_value_bad, bare_map_pair_ok, key_value_end, key_value_other, key_value_bad, key_value, pair_valued, pair_carried, pair_parts_are}
use Rattle.core_parse_forms.proofs.MapPairExits.{map_pairs_begin, map_pairs_end, map_pairs_close, map_bar_refused, map_bar_done, map_pairs_no_comma, map_pairs_first}
use Rattle.core_parse_forms.proofs.MapPairExits.{map_pairs_comma, one_is_some, updated_bad, updated_lacks, map_pairs_bad, map_pairs_more, pair_kept}
use Rattle.core_parse_forms.proofs.PatternFormExits.{binary_pattern_bad, binary_pattern_ok, pattern_segment_0_bad, pattern_segment_1_bad, pattern_segment_2_bad, pattern_segment_3_bad, pattern_segment_4_bad}
use Rattle.core_parse_forms.proofs.PatternFormExits.{pattern_segment_ok, map_pattern_bad, map_pattern_ok, pattern_pair_end, pattern_pair_bare_ok, pattern_pair_bare_bad, pattern_pair_open_end}
use Rattle.core_parse_forms.proofs.PatternFormExits.{pattern_pair_second_bad, pattern_pair_second_ok, pattern_pair_second_note_bad, pattern_pair_key_bad, pattern_pair_key_end, pattern_pair_noted_ok}
use Rattle.core_parse_forms.proofs.PatternFormExits.{pattern_pair_noted_value_bad, pattern_pair_key_note_bad, pattern_pair_value_bad, pattern_pair_ok, pattern_pair_note_bad, bare_pattern_pair_key_bad}
use Rattle.core_parse_forms.proofs.PatternFormExits.{bare_pattern_pair_value_bad, bare_pattern_pair_ok, pattern_value_lacks, pattern_value_bad, pattern_value, pattern_value_pair, tuple_pattern_bad, tuple_pattern_ok}
use Rattle.core_parse_grammar.specs.Grammar.{pattern_segment, pattern_pair}
use Rattle.core_parse_forms.proofs.PatternExits.{sort_differs, brackets_end, brackets_bad, brackets_note_bad, brackets_noted, name_made, brackets_deep, brackets_variable_end, brackets_variable_bad, brackets_variable}
use Rattle.core_parse_forms.proofs.PatternExits.{brackets_alias_bad, brackets_alias_note_bad, brackets_alias_noted, noted_variable_bad, noted_variable_last, noted_alias_bad, noted_alias, binds_made, equals_made, tuple_made}
use Rattle.core_parse_grammar.specs.Readings.{mark}
use Rattle.core_ast.specs.Notes.{marked}
use Rattle.core_parse_forms.proofs.BarePatternExits.{named_read, bare_open_end, bare_open_other, bare_open_deep, bare_note_bad, bare_equals_bad, bare_named_bad, bare_named, pattern_none, pattern_bare_bad, pattern_bare_ok}
use Rattle.core_parse_forms.proofs.BarePatternExits.{pattern_brackets_bad, pattern_brackets, bare_pattern_none, bare_pattern_deep, bare_pattern_dull, bare_text_limit, bare_once, bare_else_bad, bare_else_ok, other_pattern_none}
use Rattle.core_parse_forms.proofs.BarePatternExits.{other_pattern_literal, other_pattern_nil_bad, other_pattern_nil, other_pattern_dull, other_no_bracket, other_pattern_variable, other_pattern_named_bad, other_pattern_named}
use Rattle.core_parse_forms.proofs.PatternListExits.{pattern_list_open_end, pattern_list_nil, pattern_list_unclosed, pattern_list_closes, pattern_list_done, pattern_list_first_bad, pattern_list_first_item}
use Rattle.core_parse_forms.proofs.PatternListExits.{pattern_list_end, pattern_list_stuck, pattern_list_shut, pattern_list_comma_bad, pattern_list_item, pattern_list_bar_end, pattern_list_string, pattern_list_inner_end}
use Rattle.core_parse_forms.proofs.PatternListExits.{pattern_list_tail_nil, pattern_list_merge_bad, pattern_list_merge, pattern_list_round_bad, pattern_list_round, pattern_list_tail_bad, pattern_list_tail}
use Rattle.core_parse_grammar.proofs.ConstantExits.{within_limit}
use Rattle.core_ast.specs.declared.syntax.Literal.TheVariants as l
use Rattle.core_ast.specs.Model as m
use Rattle.core_scan.specs.declared.sort.Sort.TheVariants as s
use Rattle.core_parse_forms.proofs.+expressions.Goals as goal

pub binaries::binary-returns-in-Err-clause-err : goal.binaries::binary-returns-in-Err-clause-err
binaries::binary-returns-in-Err-clause-err t c = binary_bad _ 0 _ _ _ _ _ c.requires.starts c.requires.shallow c.requires.sort _ c.in-Err.ensures.err

pub binaries::binary-returns-in-Ok-binary-clause-ok : goal.binaries::binary-returns-in-Ok-binary-clause-ok
binaries::binary-returns-in-Ok-binary-clause-ok t c = binary_ok _ _ _ _ _ _ _ c.requires.starts c.requires.shallow c.requires.sort _ _ _ c.in-Ok.ensures.ok _
    (c.in-Ok-binary.ensures ∙ ap (λ k. m.binary k (all_segments c.in-Ok.found.value)) c.mark-mark.ensures)

pub binaries::segments-returns-in-Err-clause-err : goal.binaries::segments-returns-in-Err-clause-err
binaries::segments-returns-in-Err-clause-err t c = items_nothing _ _ (closes_segments _) number_segment segment_parts 0 _ _ c.in-Err.ensures.err

pub binaries::segments-returns-then-same-clause-ok : goal.binaries::segments-returns-then-same-clause-ok
binaries::segments-returns-then-same-clause-ok t c = segments_of (items_empty _ _ (closes_segments _) number_segment segment_parts _ _ _ _ _ _ c.in-Ok.ensures.ok _ c.new-items.ensures (c.same.ensures.0 c.if-same.true))

pub binaries::segments-returns-in-Err-segment-clause-err : goal.binaries::segments-returns-in-Err-segment-clause-err
binaries::segments-returns-in-Err-segment-clause-err t c = items_bad _ _ (closes_segments _) number_segment segment_parts 0 _ _ _ _ _ c.in-Ok.ensures.ok (iff_false c.same.ensures c.if-same.false) _ c.in-Err-segment.ensures.err

pub binaries::segments-loop-found-init : goal.binaries::segments-loop-found-init
binaries::segments-loop-found-init t c = record {
  so_far = items_first _ _ (closes_segments _) number_segment segment_parts _ _ _ _ _ _ c.in-Ok.ensures.ok (iff_false c.same.ensures c.if-same.false) _ _ _ _ _ c.new-items.ensures c.in-Ok-kept.ensures
      (segment_item c.in-Ok-segment.ensures.ok);
  labels = c.in-Ok-segment.ensures.labels;
  shorter = c.in-Ok-segment.ensures.shorter;
}

pub binaries::segments-returns-in-Err-next-clause-err : goal.binaries::segments-returns-in-Err-next-clause-err
binaries::segments-returns-in-Err-next-clause-err t c = items_end _ _ (closes_segments _) number_segment segment_parts _ _ _ _ _ c.loop-found.invariant.so_far _ c.in-Err-next.ensures.err

pub binaries::segments-returns-then-same-2-clause-ok : goal.binaries::segments-returns-then-same-2-clause-ok
binaries::segments-returns-then-same-2-clause-ok t c = segments_of (items_close _ _ (closes_segments _) number_segment segment_parts _ _ _ _ _ c.loop-found.invariant.so_far _ _ _ _ c.in-Ok-next.ensures.ok
    (c.same-in-loop-found.ensures.0 c.if-same-2.true))

pub binaries::segments-returns-then-not-same-clause-err : goal.binaries::segments-returns-then-not-same-clause-err
binaries::segments-returns-then-not-same-clause-err t c = items_other _ _ (closes_segments _) number_segment segment_parts _ _ _ _ _ c.loop-found.invariant.so_far _ _ _ _ c.in-Ok-next.ensures.ok
    (iff_false c.same-in-loop-found.ensures c.if-same-2.false) (iff_false c.same-in-loop-found-2.ensures c.if-not-same.true)

pub binaries::segments-returns-in-Err-segment-2-clause-err : goal.binaries::segments-returns-in-Err-segment-2-clause-err
binaries::segments-returns-in-Err-segment-2-clause-err t c = items_worse _ _ (closes_segments _) number_segment segment_parts _ _ _ _ _ c.loop-found.invariant.so_far _ _ _ _ c.in-Ok-next.ensures.ok
    (c.same-in-loop-found-2.ensures.0 c.if-not-same.false) _ c.in-Err-segment-2.ensures.err

pub binaries::segments-loop-found-preserved : goal.binaries::segments-loop-found-preserved
binaries::segments-loop-found-preserved t c = record {
  so_far = items_more _ _ (closes_segments _) number_segment segment_parts _ _ _ _ _ c.loop-found.invariant.so_far _ _ _ _ c.in-Ok-next.ensures.ok (c.same-in-loop-found-2.ensures.0 c.if-not-same.false) _ _ _ _ c.in-Ok-kept-2.ensures
      (segment_item c.in-Ok-segment-2.ensures.ok);
  labels = omega (arith, c.loop-found.invariant.labels, c.in-Ok-next.ensures.lighter, c.in-Ok-segment-2.ensures.labels);
  shorter = omega (arith, c.loop-found.invariant.shorter, c.in-Ok-next.ensures.shorter, c.in-Ok-segment-2.ensures.shorter);
}

pub binaries::segment-returns-in-Err-clause-err : goal.binaries::segment-returns-in-Err-clause-err
binaries::segment-returns-in-Err-clause-err t c = segment_0_bad _ 0 _ _ c.in-Err.ensures.err

pub binaries::segment-returns-in-Err-expression-clause-err : goal.binaries::segment-returns-in-Err-expression-clause-err
binaries::segment-returns-in-Err-expression-clause-err t c = segment_1_bad _ 0 _ _ c.in-Ok.ensures.ok _ c.in-Err-expression.ensures.err

pub binaries::segment-returns-in-Err-take-clause-err : goal.binaries::segment-returns-in-Err-take-clause-err
binaries::segment-returns-in-Err-take-clause-err t c = segment_2_bad _ _ _ _ c.in-Ok.ensures.ok _ _ _ c.in-Ok-expression.ensures.ok _ c.in-Err-take.ensures.err

pub binaries::segment-returns-in-Err-take-2-clause-err : goal.binaries::segment-returns-in-Err-take-2-clause-err
binaries::segment-returns-in-Err-take-2-clause-err t c = segment_3_bad _ _ _ _ c.in-Ok.ensures.ok _ _ _ c.in-Ok-expression.ensures.ok _ c.in-Ok-take.ensures.ok _ c.in-Err-take-2.ensures.err

pub binaries::segment-returns-in-Err-expressions-clause-err : goal.binaries::segment-returns-in-Err-expressions-clause-err
binaries::segment-returns-in-Err-expressions-clause-err t c = segment_4_bad _ _ _ _ c.in-Ok.ensures.ok _ _ _ c.in-Ok-expression.ensures.ok _ c.in-Ok-take.ensures.ok _ c.in-Ok-take-2.ensures.ok _ c.in-Err-expressions.ensures.err

pub binaries::segment-returns-in-Ok-segment-clause-ok : goal.binaries::segment-returns-in-Ok-segment-clause-ok
binaries::segment-returns-in-Ok-segment-clause-ok t c = segment_ok _ _ _ _ c.in-Ok.ensures.ok _ _ _ c.in-Ok-expression.ensures.ok _ c.in-Ok-take.ensures.ok _ c.in-Ok-take-2.ensures.ok _ _ _ c.in-Ok-expressions.ensures.ok _
    c.in-Ok-segment.ensures

pub chains::chain-returns-in-Err-expression-clause-err : goal.chains::chain-returns-in-Err-expression-clause-err
chains::chain-returns-in-Err-expression-clause-err t c = chain_last_bad _ _ _ c.requires.shallow _ _ _ _ c.in-Ok.ensures.ok _ c.in-Err-expression.ensures.err

pub chains::chain-returns-in-Ok-expression-clause-ok : goal.chains::chain-returns-in-Ok-expression-clause-ok
chains::chain-returns-in-Ok-expression-clause-ok t c = record { behind = _; next = _; steps_are = c.in-Ok.ensures.ok; no_step = c.in-Ok.ensures.last; last_is = c.in-Ok-expression.ensures.ok }

pub chains::steps-returns-in-Err-clause-err : goal.chains::steps-returns-in-Err-clause-err
chains::steps-returns-in-Err-clause-err t c = chain_first_bad _ 0 c.requires.shallow _ _ _ _ _ c.requires.starts c.requires.sort _ c.in-Err.ensures.err

pub chains::steps-loop-word-init : goal.chains::steps-loop-word-init
chains::steps-loop-word-init t c = record {
  so_far = chain_first _ _ c.requires.shallow _ _ _ _ _ c.requires.starts c.requires.sort _ _ _ _ _ c.new-frames.ensures c.if-not-added.ensures.added refl c.in-Ok.ensures.ok;
  labels = omega (arith, c.in-Ok.ensures.labels, c.requires.lighter);
  shorter = omega (arith, c.in-Ok.ensures.shorter, c.requires.shorter);
}

pub chains::steps-loop-word-preserved : goal.chains::steps-loop-word-preserved
chains::steps-loop-word-preserved t c = record {
  so_far = chain_step _ _ _ c.requires.shallow _ _ _ _ c.loop-word.invariant.so_far _ _ _ _ _ c.in-Some.ensures.found _ _ _ _ c.if-not-added-2.ensures.added refl c.in-Ok-step.ensures.ok;
  labels = omega (arith, c.loop-word.invariant.labels, c.in-Ok-step.ensures.labels, c.in-Some.ensures.lighter);
  shorter = omega (arith, c.loop-word.invariant.shorter, c.in-Ok-step.ensures.shorter, c.in-Some.ensures.shorter);
}

pub chains::steps-returns-in-Err-step-clause-err : goal.chains::steps-returns-in-Err-step-clause-err
chains::steps-returns-in-Err-step-clause-err t c = chain_step_bad _ _ _ c.requires.shallow _ _ _ _ c.loop-word.invariant.so_far _ _ _ _ _ c.in-Some.ensures.found _ c.in-Err-step.ensures.err

pub chains::step-returns-in-Ok-do_step-clause-ok : goal.chains::step-returns-in-Ok-do_step-clause-ok
chains::step-returns-in-Ok-do_step-clause-ok t c = step_do _ _ _ _ _ (c.same.ensures.0 c.if-same.true) _ _ _ _ c.in-Ok.ensures.ok _ c.mark-mark.ensures c.in-Ok-do_step.ensures

pub chains::step-returns-in-Err-clause-err : goal.chains::step-returns-in-Err-clause-err
chains::step-returns-in-Err-clause-err t c = step_do_bad _ 0 c.args.word.place _ _ (c.same.ensures.0 c.if-same.true) _ c.in-Err.ensures.err

pub chains::step-returns-in-Err-variables-clause-err : goal.chains::step-returns-in-Err-variables-clause-err
chains::step-returns-in-Err-variables-clause-err t c = step_vars_bad _ 0 c.args.word.place _ _ (is_let _ c.requires.sort (λ z. iff_false c.same.ensures c.if-same.false z)) _ c.in-Err-variables.ensures.err

pub chains::step-returns-in-Err-take-clause-err : goal.chains::step-returns-in-Err-take-clause-err
chains::step-returns-in-Err-take-clause-err t c = step_equals_bad _ 0 c.args.word.place _ _ (is_let _ c.requires.sort (λ z. iff_false c.same.ensures c.if-same.false z)) _ _ c.in-Ok-variables.ensures.ok _ c.in-Err-take.ensures.err

pub chains::step-returns-in-Err-expression-clause-err : goal.chains::step-returns-in-Err-expression-clause-err
chains::step-returns-in-Err-expression-clause-err t c = step_value_bad _ 0 c.args.word.place _ _
    (is_let _ c.requires.sort (λ z. iff_false c.same.ensures c.if-same.false z)) _ _ c.in-Ok-variables.ensures.ok _ c.in-Ok-take.ensures.ok _ c.in-Err-expression.ensures.err

pub chains::step-returns-in-Err-take-2-clause-err : goal.chains::step-returns-in-Err-take-2-clause-err
chains::step-returns-in-Err-take-2-clause-err t c = step_in_bad _ c.args.label c.args.word.place _ _
    (is_let _ c.requires.sort (λ z. iff_false c.same.ensures c.if-same.false z)) _ _ c.in-Ok-variables.ensures.ok _ c.in-Ok-take.ensures.ok _ _ _ c.in-Ok-expression.ensures.ok _ c.in-Err-take-2.ensures.err

pub chains::step-returns-in-Ok-let_step-clause-ok : goal.chains::step-returns-in-Ok-let_step-clause-ok
chains::step-returns-in-Ok-let_step-clause-ok t c = step_let _ _ _ _ _ (is_let _ c.requires.sort (λ z. iff_false c.same.ensures c.if-same.false z)) _ _ c.in-Ok-variables.ensures.ok _ c.in-Ok-take.ensures.ok _ _ _
    c.in-Ok-expression.ensures.ok _ c.in-Ok-take-2.ensures.ok _ _ c.mark-mark.ensures c.in-Ok-let_step.ensures

pub clauses::clauses-returns-in-Err-clause-err : goal.clauses::clauses-returns-in-Err-clause-err
clauses::clauses-returns-in-Err-clause-err t c = clauses_end _ _ c.args.label c.requires.closes [] _ _ [] _ (clauses_start _ _ _ c.requires.closes [] _ [] refl) _ c.in-Err.ensures.err

pub clauses::clauses-returns-then-same-clause-ok : goal.clauses::clauses-returns-then-same-clause-ok
clauses::clauses-returns-then-same-clause-ok t c = clauses_close _ _ _ c.requires.closes c.args.items _ _ c.args.items _ (clauses_start _ _ _ c.requires.closes c.args.items _ c.args.items refl) _ _ _ _ c.in-Ok.ensures.ok
    (c.same.ensures.0 c.if-same.true)

pub clauses::clauses-returns-in-Err-clause-clause-err : goal.clauses::clauses-returns-in-Err-clause-clause-err
clauses::clauses-returns-in-Err-clause-clause-err t c = clauses_bad _ _ c.args.label c.requires.closes [] _ _ [] _ (clauses_start _ _ _ c.requires.closes [] _ [] refl) _ _ _ _ c.in-Ok.ensures.ok
    (λ e. both_ways _ c.if-same.false (c.same.ensures.1 e)) _ c.in-Err-clause.ensures.err

pub clauses::clauses-loop-found-init : goal.clauses::clauses-loop-found-init
clauses::clauses-loop-found-init t c = record {
  so_far = clauses_next _ _ _ c.requires.closes c.args.items _ _ c.args.items _ (clauses_start _ _ _ c.requires.closes c.args.items _ c.args.items refl) _ _ _ _ c.in-Ok.ensures.ok
      (λ e. both_ways _ c.if-same.false (c.same.ensures.1 e)) _ _ _ _ c.in-Ok-with_clause.ensures.2 (clause_kept c.in-Ok-with_clause.ensures.1 c.in-Ok-clause.ensures.ok);
  labels = c.in-Ok-clause.ensures.labels;
  shorter = omega (arith, c.in-Ok-clause.ensures.shorter);
}

pub clauses::clauses-returns-in-Err-next-clause-err : goal.clauses::clauses-returns-in-Err-next-clause-err
clauses::clauses-returns-in-Err-next-clause-err t c = clauses_end _ _ _ c.requires.closes _ _ _ _ _ c.loop-found.invariant.so_far _ c.in-Err-next.ensures.err

pub clauses::clauses-returns-then-same-2-clause-ok : goal.clauses::clauses-returns-then-same-2-clause-ok
clauses::clauses-returns-then-same-2-clause-ok t c = clauses_close _ _ _ c.requires.closes _ _ _ _ _ c.loop-found.invariant.so_far _ _ _ _ c.in-Ok-next.ensures.ok (c.same-in-loop-found.ensures.0 c.if-same-2.true)

pub clauses::clauses-returns-then-same-2-clause-labels : goal.clauses::clauses-returns-then-same-2-clause-labels
clauses::clauses-returns-then-same-2-clause-labels t c = omega (arith, c.loop-found.invariant.labels, c.in-Ok-next.ensures.lighter)

pub clauses::clauses-returns-then-same-2-clause-shorter : goal.clauses::clauses-returns-then-same-2-clause-shorter
clauses::clauses-returns-then-same-2-clause-shorter t c = omega (arith, c.loop-found.invariant.shorter, c.in-Ok-next.ensures.shorter)

pub clauses::clauses-loop-found-preserved : goal.clauses::clauses-loop-found-preserved
clauses::clauses-loop-found-preserved t c = record {
  so_far = clauses_next _ _ _ c.requires.closes _ _ _ _ _ c.loop-found.invariant.so_far _ _ _ _ c.in-Ok-next.ensures.ok (λ e. both_ways _ c.if-same-2.false (c.same-in-loop-found.ensures.1 e)) _ _ _ _ c.in-Ok-with_clause-2.ensures.2
      (clause_kept c.in-Ok-with_clause-2.ensures.1 c.in-Ok-clause-2.ensures.ok);
  labels = omega (arith, c.loop-found.invariant.labels, c.in-Ok-clause-2.ensures.labels);
  shorter = omega (arith, c.loop-found.invariant.shorter, c.in-Ok-clause-2.ensures.shorter);
}

pub clauses::clauses-returns-in-Err-clause-2-clause-err : goal.clauses::clauses-returns-in-Err-clause-2-clause-err
clauses::clauses-returns-in-Err-clause-2-clause-err t c = clauses_bad _ _ _ c.requires.closes _ _ _ _ _ c.loop-found.invariant.so_far _ _ _ _ c.in-Ok-next.ensures.ok
    (λ e. both_ways _ c.if-same-2.false (c.same-in-loop-found.ensures.1 e)) _ c.in-Err-clause-2.ensures.err

pub clauses::clause-returns-in-Err-expression-clause-err : goal.clauses::clause-returns-in-Err-expression-clause-err
clauses::clause-returns-in-Err-expression-clause-err t c = guard_bad c.args.depth c.args.label _ _ _ _ _ _ c.in-Ok.ensures.ok _ c.in-Err-expression.ensures.err

pub clauses::clause-returns-in-Err-take-clause-err : goal.clauses::clause-returns-in-Err-take-clause-err
clauses::clause-returns-in-Err-take-clause-err t c = arrow_bad c.args.depth c.args.label _ _ _ _ _ _ c.in-Ok.ensures.ok _ _ _ c.in-Ok-expression.ensures.ok _ c.in-Err-take.ensures.err

pub clauses::clause-returns-in-Err-expression-2-clause-err : goal.clauses::clause-returns-in-Err-expression-2-clause-err
clauses::clause-returns-in-Err-expression-2-clause-err t c = body_bad c.args.depth c.args.label _ _ _ _ _ _ c.in-Ok.ensures.ok _ _ _ c.in-Ok-expression.ensures.ok _ c.in-Ok-take.ensures.ok _ c.in-Err-expression-2.ensures.err

pub clauses::clause-returns-then-not-noted-clause-ok : goal.clauses::clause-returns-then-not-noted-clause-ok
clauses::clause-returns-then-not-noted-clause-ok t c = clause_read c.args.depth c.args.label _ _ _ _ _
    (subst (λ (x : Bool). ReadsHead c.args.depth (c.args.label + 1) c.args.tokens.now (all_patterns c.in-Ok.found.patterns) c.in-Ok.found.place x c.in-Ok.found.rest.now c.in-Ok.found.label) c.if-not-noted.true c.in-Ok.ensures.ok) _ _ _
    c.in-Ok-expression.ensures.ok _ c.in-Ok-take.ensures.ok _ _ _ c.in-Ok-expression-2.ensures.ok _ (clause_marked _ _ _ _ _ _ refl c.mark-mark.ensures)

pub clauses::clause-returns-then-not-noted-clause-labels : goal.clauses::clause-returns-then-not-noted-clause-labels
clauses::clause-returns-then-not-noted-clause-labels t c = omega (arith, c.in-Ok.ensures.labels, c.in-Ok-expression.ensures.labels, c.in-Ok-take.ensures.lighter, c.in-Ok-expression-2.ensures.labels)

pub clauses::clause-returns-then-not-noted-clause-shorter : goal.clauses::clause-returns-then-not-noted-clause-shorter
clauses::clause-returns-then-not-noted-clause-shorter t c = omega (arith, c.in-Ok.ensures.shorter, c.in-Ok-expression.ensures.shorter, c.in-Ok-take.ensures.shorter, c.in-Ok-expression-2.ensures.shorter)

pub clauses::clause-returns-in-Ok-annotation-clause-ok : goal.clauses::clause-returns-in-Ok-annotation-clause-ok
clauses::clause-returns-in-Ok-annotation-clause-ok t c = clause_noted_read c.args.depth c.args.label _ _ _ _ _
    (subst (λ (x : Bool). ReadsHead c.args.depth (c.args.label + 1) c.args.tokens.now (all_patterns c.in-Ok.found.patterns) c.in-Ok.found.place x c.in-Ok.found.rest.now c.in-Ok.found.label) c.if-not-noted.false c.in-Ok.ensures.ok) _ _ _
    c.in-Ok-expression.ensures.ok _ c.in-Ok-take.ensures.ok _ _ _ c.in-Ok-expression-2.ensures.ok _ _ _ _ refl (clause_marked _ _ _ _ _ _ refl (c.with_note.ensures ∙ ap (marked _) c.mark-mark.ensures)) c.in-Ok-annotation.ensures.ok

pub clauses::clause-returns-in-Ok-annotation-clause-labels : goal.clauses::clause-returns-in-Ok-annotation-clause-labels
clauses::clause-returns-in-Ok-annotation-clause-labels t c = omega (arith, c.in-Ok.ensures.labels, c.in-Ok-expression.ensures.labels, c.in-Ok-take.ensures.lighter, c.in-Ok-expression-2.ensures.labels, c.in-Ok-annotation.ensures.lighter)

pub clauses::clause-returns-in-Ok-annotation-clause-shorter : goal.clauses::clause-returns-in-Ok-annotation-clause-shorter
clauses::clause-returns-in-Ok-annotation-clause-shorter t c = omega (arith, c.in-Ok.ensures.shorter, c.in-Ok-expression.ensures.shorter, c.in-Ok-take.ensures.shorter, c.in-Ok-expression-2.ensures.shorter, c.in-Ok-annotation.ensures.shorter)

pub clauses::clause-returns-in-Err-annotation-clause-err : goal.clauses::clause-returns-in-Err-annotation-clause-err
clauses::clause-returns-in-Err-annotation-clause-err t c = clause_note_bad c.args.depth c.args.label _ _ _ _ _
    (subst (λ (x : Bool). ReadsHead c.args.depth (c.args.label + 1) c.args.tokens.now (all_patterns c.in-Ok.found.patterns) c.in-Ok.found.place x c.in-Ok.found.rest.now c.in-Ok.found.label) c.if-not-noted.false c.in-Ok.ensures.ok) _ _ _
    c.in-Ok-expression.ensures.ok _ c.in-Ok-take.ensures.ok _ _ _ c.in-Ok-expression-2.ensures.ok _ c.in-Err-annotation.ensures.err

pub clauses::head-returns-in-Err-clause-err : goal.clauses::head-returns-in-Err-clause-err
clauses::head-returns-in-Err-clause-err t c = clause_none c.args.depth c.args.label _ _ c.in-Err.ensures.err

pub clauses::head-returns-in-Ok-several-clause-ok : goal.clauses::head-returns-in-Ok-several-clause-ok
clauses::head-returns-in-Ok-several-clause-ok t c = head_several c.args.depth c.args.label _ _ _ _ _ c.in-Ok.ensures.ok
    (c.same-2.ensures.0 c.if-same-2.true) _ _ _ _ _ c.in-Ok-several.ensures.place c.in-Ok-several.ensures.noted c.in-Ok-several.ensures.ok

pub clauses::head-returns-in-Ok-several-clause-labels : goal.clauses::head-returns-in-Ok-several-clause-labels
clauses::head-returns-in-Ok-several-clause-labels t c = omega (arith, c.in-Ok.ensures.lighter, c.in-Ok-several.ensures.labels)

pub clauses::head-returns-in-Ok-several-clause-shorter : goal.clauses::head-returns-in-Ok-several-clause-shorter
clauses::head-returns-in-Ok-several-clause-shorter t c = omega (arith, c.in-Ok.ensures.shorter, c.in-Ok-several.ensures.shorter)

pub clauses::head-returns-in-Err-several-clause-err : goal.clauses::head-returns-in-Err-several-clause-err
clauses::head-returns-in-Err-several-clause-err t c = head_several_bad c.args.depth c.args.label _ _ _ _ _ c.in-Ok.ensures.ok (c.same-2.ensures.0 c.if-same-2.true) _ c.in-Err-several.ensures.err

pub clauses::head-returns-in-Ok-bare_pattern-clause-ok : goal.clauses::head-returns-in-Ok-bare_pattern-clause-ok
clauses::head-returns-in-Ok-bare_pattern-clause-ok t c = single_head _ _ _ _ _ _ _ _
    (head_one_read c.args.depth c.args.label _ _ _ _ _ c.in-Ok.ensures.ok (λ e. both_ways _ c.if-same-2.false (c.same-2.ensures.1 e)) (λ e. both_ways _ c.if-same.false (c.same.ensures.1 e)) _ _ _ c.in-Ok-bare_pattern.ensures.ok)
    c.single.result c.single.ensures.ok c.single.ensures.patterns c.single.ensures.place c.single.ensures.noted c.single.ensures.label

pub clauses::head-returns-in-Ok-bare_pattern-clause-labels : goal.clauses::head-returns-in-Ok-bare_pattern-clause-labels
clauses::head-returns-in-Ok-bare_pattern-clause-labels t c = head_labels c.single.result _ _ _ c.single.ensures.label c.single.ensures.lighter c.in-Ok-bare_pattern.ensures.labels

pub clauses::head-returns-in-Ok-bare_pattern-clause-shorter : goal.clauses::head-returns-in-Ok-bare_pattern-clause-shorter
clauses::head-returns-in-Ok-bare_pattern-clause-shorter t c = single_shorter c.single.result _ _ c.single.ensures.shorter (omega (arith, c.in-Ok-bare_pattern.ensures.shorter))

pub clauses::head-returns-in-Ok-bare_pattern-clause-err : goal.clauses::head-returns-in-Ok-bare_pattern-clause-err
clauses::head-returns-in-Ok-bare_pattern-clause-err t c = IfErr-weaker c.single.result _ _
    (head_one_bad c.args.depth c.args.label _ _ _ _ _ c.in-Ok.ensures.ok (λ e. both_ways _ c.if-same-2.false (c.same-2.ensures.1 e)) (λ e. both_ways _ c.if-same.false (c.same.ensures.1 e)) _ _ _ c.in-Ok-bare_pattern.ensures.ok)
    c.single.ensures.err

pub clauses::head-returns-in-Err-bare_pattern-clause-err : goal.clauses::head-returns-in-Err-bare_pattern-clause-err
clauses::head-returns-in-Err-bare_pattern-clause-err t c = head_bare_bad c.args.depth c.args.label _ _ _ _ _ c.in-Ok.ensures.ok (λ e. both_ways _ c.if-same-2.false (c.same-2.ensures.1 e))
    (λ e. both_ways _ c.if-same.false (c.same.ensures.1 e)) _ c.in-Err-bare_pattern.ensures.err

pub clauses::head_in_brackets-returns-in-Err-clause-err : goal.clauses::head_in_brackets-returns-in-Err-clause-err
clauses::head_in_brackets-returns-in-Err-clause-err t c = head_open_end c.args.depth c.args.label _ _ _ _ _ c.requires.starts c.requires.sort _ c.in-Err.ensures.err

pub clauses::head_in_brackets-returns-in-Ok-several-clause-ok : goal.clauses::head_in_brackets-returns-in-Ok-several-clause-ok
clauses::head_in_brackets-returns-in-Ok-several-clause-ok t c = inner_several c.args.depth c.args.label _ _ _ _ _ c.requires.starts c.requires.sort _ _ _ _ c.in-Ok.ensures.ok
    (c.same.ensures.0 c.if-same.true) _ _ _ _ _ c.in-Ok-several.ensures.place c.in-Ok-several.ensures.noted c.in-Ok-several.ensures.ok

pub clauses::head_in_brackets-returns-in-Ok-several-clause-labels : goal.clauses::head_in_brackets-returns-in-Ok-several-clause-labels
clauses::head_in_brackets-returns-in-Ok-several-clause-labels t c = omega (arith, c.requires.lighter, c.in-Ok.ensures.lighter, c.in-Ok-several.ensures.labels)

pub clauses::head_in_brackets-returns-in-Ok-several-clause-shorter : goal.clauses::head_in_brackets-returns-in-Ok-several-clause-shorter
clauses::head_in_brackets-returns-in-Ok-several-clause-shorter t c = omega (arith, c.requires.shorter, c.in-Ok.ensures.shorter, c.in-Ok-several.ensures.shorter)

pub clauses::head_in_brackets-returns-in-Err-several-clause-err : goal.clauses::head_in_brackets-returns-in-Err-several-clause-err
clauses::head_in_brackets-returns-in-Err-several-clause-err t c = inner_several_bad c.args.depth c.args.label _ _ _ _ _ c.requires.starts c.requires.sort _ _ _ _ c.in-Ok.ensures.ok
    (c.same.ensures.0 c.if-same.true) _ c.in-Err-several.ensures.err

pub clauses::head_in_brackets-returns-in-Ok-bare_pattern-clause-ok : goal.clauses::head_in_brackets-returns-in-Ok-bare_pattern-clause-ok
clauses::head_in_brackets-returns-in-Ok-bare_pattern-clause-ok t c = either_head _ _ _ _ _ _ _ _
    (inner_either c.args.depth c.args.label _ _ _ _ _ c.requires.starts c.requires.sort _ _ _ _ c.in-Ok.ensures.ok (λ e. both_ways _ c.if-same.false (c.same.ensures.1 e)) (λ e. both_ways _ c.if-same-2.false (c.same-2.ensures.1 e))
    (λ e. both_ways _ c.if-not-same.true (c.same-3.ensures.1 e)) _ _ _ c.in-Ok-bare_pattern.ensures.ok) c.either.result c.either.ensures.ok c.either.ensures.label

pub clauses::head_in_brackets-returns-in-Ok-bare_pattern-clause-labels : goal.clauses::head_in_brackets-returns-in-Ok-bare_pattern-clause-labels
clauses::head_in_brackets-returns-in-Ok-bare_pattern-clause-labels t c = head_labels c.either.result _ _ _ c.either.ensures.label c.either.ensures.lighter (omega (arith, c.requires.lighter, c.in-Ok-bare_pattern.ensures.labels))

pub clauses::head_in_brackets-returns-in-Ok-bare_pattern-clause-shorter : goal.clauses::head_in_brackets-returns-in-Ok-bare_pattern-clause-shorter
clauses::head_in_brackets-returns-in-Ok-bare_pattern-clause-shorter t c = either_shorter c.either.result _ _ c.either.ensures.shorter (omega (arith, c.requires.shorter, c.in-Ok-bare_pattern.ensures.shorter))

pub clauses::head_in_brackets-returns-in-Ok-bare_pattern-clause-err : goal.clauses::head_in_brackets-returns-in-Ok-bare_pattern-clause-err
clauses::head_in_brackets-returns-in-Ok-bare_pattern-clause-err t c = IfErr-weaker c.either.result _ _
    (inner_either_bad c.args.depth c.args.label _ _ _ _ _ c.requires.starts c.requires.sort _ _ _ _ c.in-Ok.ensures.ok (λ e. both_ways _ c.if-same.false (c.same.ensures.1 e)) (λ e. both_ways _ c.if-same-2.false (c.same-2.ensures.1 e))
    (λ e. both_ways _ c.if-not-same.true (c.same-3.ensures.1 e)) _ _ _ c.in-Ok-bare_pattern.ensures.ok) c.either.ensures.err

pub clauses::head_in_brackets-returns-in-Err-bare_pattern-clause-err : goal.clauses::head_in_brackets-returns-in-Err-bare_pattern-clause-err
clauses::head_in_brackets-returns-in-Err-bare_pattern-clause-err t c = inner_bare_bad c.args.depth c.args.label _ _ _ _ _ c.requires.starts c.requires.sort _ _ _ _ c.in-Ok.ensures.ok (λ e. both_ways _ c.if-same.false (c.same.ensures.1 e))
    (λ e. both_ways _ c.if-same-2.false (c.same-2.ensures.1 e)) (λ e. both_ways _ c.if-not-same.true (c.same-3.ensures.1 e)) _ c.in-Err-bare_pattern.ensures.err

pub clauses::head_in_brackets-returns-in-Err-in_brackets-clause-err : goal.clauses::head_in_brackets-returns-in-Err-in_brackets-clause-err
clauses::head_in_brackets-returns-in-Err-in_brackets-clause-err t c = second_bad c.args.depth c.args.label _ _ _ _ _ c.requires.starts c.requires.sort _ _ _ _ c.in-Ok.ensures.ok
    (c.same-3.ensures.0 c.if-not-same.false) _ c.in-Err-in_brackets.ensures.err

pub clauses::head_in_brackets-returns-then-alone-clause-ok : goal.clauses::head_in_brackets-returns-then-alone-clause-ok
clauses::head_in_brackets-returns-then-alone-clause-ok t c = either_head _ _ _ _ _ _ _ _
    (second_either c.args.depth c.args.label _ _ _ _ _ c.requires.starts c.requires.sort _ _ _ _ c.in-Ok.ensures.ok (c.same-3.ensures.0 c.if-not-same.false) _ _ _
    (subst (λ (x : Bool). ReadsInBrackets c.args.depth c.args.label c.in-Ok.found.place c.in-Ok.found.rest.now (pattern_tree c.in-Ok-in_brackets.found.pattern) x c.in-Ok-in_brackets.found.rest.now c.in-Ok-in_brackets.found.label)
    c.if-alone.true c.in-Ok-in_brackets.ensures.ok)) c.either-then-alone.result c.either-then-alone.ensures.ok c.either-then-alone.ensures.label

pub clauses::head_in_brackets-returns-then-alone-clause-labels : goal.clauses::head_in_brackets-returns-then-alone-clause-labels
clauses::head_in_brackets-returns-then-alone-clause-labels t c = head_labels c.either-then-alone.result _ _ _ c.either-then-alone.ensures.label c.either-then-alone.ensures.lighter
    (omega (arith, c.requires.lighter, c.in-Ok-in_brackets.ensures.labels))

pub clauses::head_in_brackets-returns-then-alone-clause-shorter : goal.clauses::head_in_brackets-returns-then-alone-clause-shorter
clauses::head_in_brackets-returns-then-alone-clause-shorter t c = either_shorter c.either-then-alone.result _ _ c.either-then-alone.ensures.shorter (omega (arith, c.requires.shorter, c.in-Ok-in_brackets.ensures.shorter))

pub clauses::head_in_brackets-returns-then-alone-clause-err : goal.clauses::head_in_brackets-returns-then-alone-clause-err
clauses::head_in_brackets-returns-then-alone-clause-err t c = IfErr-weaker c.either-then-alone.result _ _
    (second_either_bad c.args.depth c.args.label _ _ _ _ _ c.requires.starts c.requires.sort _ _ _ _ c.in-Ok.ensures.ok (c.same-3.ensures.0 c.if-not-same.false) _ _ _
    (subst (λ (x : Bool). ReadsInBrackets c.args.depth c.args.label c.in-Ok.found.place c.in-Ok.found.rest.now (pattern_tree c.in-Ok-in_brackets.found.pattern) x c.in-Ok-in_brackets.found.rest.now c.in-Ok-in_brackets.found.label)
    c.if-alone.true c.in-Ok-in_brackets.ensures.ok)) c.either-then-alone.ensures.err

pub clauses::head_in_brackets-returns-clause-ok : goal.clauses::head_in_brackets-returns-clause-ok
clauses::head_in_brackets-returns-clause-ok t c = single_head _ _ _ _ _ _ _ _ (second_when c.args.depth c.args.label _ _ _ _ _ c.requires.starts c.requires.sort _ _ _ _ c.in-Ok.ensures.ok (c.same-3.ensures.0 c.if-not-same.false) _ _ _
    (subst (λ (x : Bool). ReadsInBrackets c.args.depth c.args.label c.in-Ok.found.place c.in-Ok.found.rest.now (pattern_tree c.in-Ok-in_brackets.found.pattern) x c.in-Ok-in_brackets.found.rest.now c.in-Ok-in_brackets.found.label)
    c.if-alone.false c.in-Ok-in_brackets.ensures.ok)) c.single.result c.single.ensures.ok c.single.ensures.patterns c.single.ensures.place c.single.ensures.noted c.single.ensures.label

pub clauses::head_in_brackets-returns-clause-labels : goal.clauses::head_in_brackets-returns-clause-labels
clauses::head_in_brackets-returns-clause-labels t c = head_labels c.single.result _ _ _ c.single.ensures.label c.single.ensures.lighter (omega (arith, c.requires.lighter, c.in-Ok-in_brackets.ensures.labels))

pub clauses::head_in_brackets-returns-clause-shorter : goal.clauses::head_in_brackets-returns-clause-shorter
clauses::head_in_brackets-returns-clause-shorter t c = single_shorter c.single.result _ _ c.single.ensures.shorter (omega (arith, c.requires.shorter, c.in-Ok-in_brackets.ensures.shorter))

pub clauses::head_in_brackets-returns-clause-err : goal.clauses::head_in_brackets-returns-clause-err
clauses::head_in_brackets-returns-clause-err t c = IfErr-weaker c.single.result _ _
    (second_when_bad c.args.depth c.args.label _ _ _ _ _ c.requires.starts c.requires.sort _ _ _ _ c.in-Ok.ensures.ok (c.same-3.ensures.0 c.if-not-same.false) _ _ _
    (subst (λ (x : Bool). ReadsInBrackets c.args.depth c.args.label c.in-Ok.found.place c.in-Ok.found.rest.now (pattern_tree c.in-Ok-in_brackets.found.pattern) x c.in-Ok-in_brackets.found.rest.now c.in-Ok-in_brackets.found.label)
    c.if-alone.false c.in-Ok-in_brackets.ensures.ok)) c.single.ensures.err

pub clauses::head_with_variable-returns-then-depth-gt-DEEPEST-clause-err : goal.clauses::head_with_variable-returns-then-depth-gt-DEEPEST-clause-err
clauses::head_with_variable-returns-then-depth-gt-DEEPEST-clause-err t c = head_variable_deep c.args.depth c.args.label _ _ _ _ _ c.requires.starts c.requires.sort _ _ _ _ c.requires.goes_on c.requires.variable
    (omega (arith, c.if-depth-gt-DEEPEST.true)) (omega (arith, c.requires.shallow))

pub clauses::head_with_variable-returns-in-Err-next-clause-err : goal.clauses::head_with_variable-returns-in-Err-next-clause-err
clauses::head_with_variable-returns-in-Err-next-clause-err t c = head_variable_end c.args.depth c.args.label _ _ _ _ _ c.requires.starts c.requires.sort _ _ _ _ c.requires.goes_on c.requires.variable
    (omega (arith, c.if-depth-gt-DEEPEST.false)) _ c.in-Err-next.ensures.err

pub clauses::head_with_variable-returns-in-Ok-noted_variable-clause-ok : goal.clauses::head_with_variable-returns-in-Ok-noted_variable-clause-ok
clauses::head_with_variable-returns-in-Ok-noted_variable-clause-ok t c = single_head _ _ _ _ _ _ _ _
    (head_noted_when c.args.depth c.args.label _ _ _ _ _ c.requires.starts c.requires.sort _ _ _ _ c.requires.goes_on c.requires.variable (omega (arith, c.if-depth-gt-DEEPEST.false)) _ _ _ _ c.in-Ok-next.ensures.ok
    (c.same.ensures.0 c.if-same.true) _ _ _ _ c.in-Ok-noted_variable.ensures.ok) c.single.result c.single.ensures.ok c.single.ensures.patterns c.single.ensures.place c.single.ensures.noted c.single.ensures.label

pub clauses::head_with_variable-returns-in-Ok-noted_variable-clause-labels : goal.clauses::head_with_variable-returns-in-Ok-noted_variable-clause-labels
clauses::head_with_variable-returns-in-Ok-noted_variable-clause-labels t c = head_labels c.single.result _ _ _ c.single.ensures.label c.single.ensures.lighter
    (omega (arith, c.requires.lighter, c.requires.lighter_still, c.in-Ok-noted_variable.ensures.labels))

pub clauses::head_with_variable-returns-in-Ok-noted_variable-clause-shorter : goal.clauses::head_with_variable-returns-in-Ok-noted_variable-clause-shorter
clauses::head_with_variable-returns-in-Ok-noted_variable-clause-shorter t c = single_shorter c.single.result _ _ c.single.ensures.shorter
    (omega (arith, c.requires.shorter, first_shorter _ _ _ c.requires.goes_on.are, c.in-Ok-noted_variable.ensures.shorter))

pub clauses::head_with_variable-returns-in-Ok-noted_variable-clause-err : goal.clauses::head_with_variable-returns-in-Ok-noted_variable-clause-err
clauses::head_with_variable-returns-in-Ok-noted_variable-clause-err t c = IfErr-weaker c.single.result _ _
    (head_noted_when_bad c.args.depth c.args.label _ _ _ _ _ c.requires.starts c.requires.sort _ _ _ _ c.requires.goes_on c.requires.variable (omega (arith, c.if-depth-gt-DEEPEST.false)) _ _ _ _ c.in-Ok-next.ensures.ok
    (c.same.ensures.0 c.if-same.true) _ _ _ _ c.in-Ok-noted_variable.ensures.ok) c.single.ensures.err

pub clauses::head_with_variable-returns-in-Err-noted_variable-clause-err : goal.clauses::head_with_variable-returns-in-Err-noted_variable-clause-err
clauses::head_with_variable-returns-in-Err-noted_variable-clause-err t c = head_noted_bad c.args.depth c.args.label _ _ _ _ _ c.requires.starts c.requires.sort _ _ _ _ c.requires.goes_on c.requires.variable
    (omega (arith, c.if-depth-gt-DEEPEST.false)) _ _ _ _ c.in-Ok-next.ensures.ok (c.same.ensures.0 c.if-same.true) _ c.in-Err-noted_variable.ensures.err

pub clauses::head_with_variable-returns-in-Ok-named-clause-ok : goal.clauses::head_with_variable-returns-in-Ok-named-clause-ok
clauses::head_with_variable-returns-in-Ok-named-clause-ok t c = either_head _ _ _ _ _ _ _ _
    (head_named_either c.args.depth c.args.label _ _ _ _ _ c.requires.starts c.requires.sort _ _ _ _ c.requires.goes_on c.requires.variable (omega (arith, c.if-depth-gt-DEEPEST.false)) _ _ _ _ c.in-Ok-next.ensures.ok
    (c.same-2.ensures.0 c.if-same-2.true) _ _ _ _ _ c.mark-mark.ensures (variable_is _ _ _ _ _ c.in-Ok.ensures c.no_note.ensures) c.in-Ok-named.ensures.ok) c.either.result c.either.ensures.ok c.either.ensures.label

pub clauses::head_with_variable-returns-in-Ok-named-clause-labels : goal.clauses::head_with_variable-returns-in-Ok-named-clause-labels
clauses::head_with_variable-returns-in-Ok-named-clause-labels t c = head_labels c.either.result _ _ _ c.either.ensures.label c.either.ensures.lighter
    (omega (arith, c.requires.lighter, c.requires.lighter_still, c.in-Ok-next.ensures.lighter, c.in-Ok-named.ensures.labels))

pub clauses::head_with_variable-returns-in-Ok-named-clause-shorter : goal.clauses::head_with_variable-returns-in-Ok-named-clause-shorter
clauses::head_with_variable-returns-in-Ok-named-clause-shorter t c = either_shorter c.either.result _ _ c.either.ensures.shorter
    (omega (arith, c.requires.shorter, first_shorter _ _ _ c.requires.goes_on.are, c.in-Ok-next.ensures.shorter, c.in-Ok-named.ensures.shorter))

pub clauses::head_with_variable-returns-in-Ok-named-clause-err : goal.clauses::head_with_variable-returns-in-Ok-named-clause-err
clauses::head_with_variable-returns-in-Ok-named-clause-err t c = IfErr-weaker c.either.result _ _
    (head_named_either_bad c.args.depth c.args.label _ _ _ _ _ c.requires.starts c.requires.sort _ _ _ _ c.requires.goes_on c.requires.variable (omega (arith, c.if-depth-gt-DEEPEST.false)) _ _ _ _ c.in-Ok-next.ensures.ok
    (c.same-2.ensures.0 c.if-same-2.true) _ _ _ _ _ c.mark-mark.ensures (variable_is _ _ _ _ _ c.in-Ok.ensures c.no_note.ensures) c.in-Ok-named.ensures.ok) c.either.ensures.err

pub clauses::head_with_variable-returns-in-Err-named-clause-err : goal.clauses::head_with_variable-returns-in-Err-named-clause-err
clauses::head_with_variable-returns-in-Err-named-clause-err t c = head_named_bad c.args.depth c.args.label _ _ _ _ _ c.requires.starts c.requires.sort _ _ _ _ c.requires.goes_on c.requires.variable
    (omega (arith, c.if-depth-gt-DEEPEST.false)) _ _ _ _ c.in-Ok-next.ensures.ok (c.same-2.ensures.0 c.if-same-2.true) _ c.in-Err-named.ensures.err

pub clauses::head_with_variable-returns-clause-ok : goal.clauses::head_with_variable-returns-clause-ok
clauses::head_with_variable-returns-clause-ok t c = single_head _ _ _ _ _ _ _ _ (λ left made e z.
    head_variable_when c.args.depth c.args.label _ _ _ _ _ c.requires.starts c.requires.sort _ _ _ _ c.requires.goes_on c.requires.variable (omega (arith, c.if-depth-gt-DEEPEST.false)) _ _ _ _ c.in-Ok-next.ensures.ok
    (λ e. both_ways _ c.if-same.false (c.same.ensures.1 e)) (λ e. both_ways _ c.if-same-2.false (c.same-2.ensures.1 e)) left made _ (binds_is _ _ _ _ _ c.in-Ok-variable.ensures c.mark-mark.ensures c.in-Ok.ensures) e z) c.single-2.result
    c.single-2.ensures.ok c.single-2.ensures.patterns c.single-2.ensures.place c.single-2.ensures.noted c.single-2.ensures.label

pub clauses::head_with_variable-returns-clause-labels : goal.clauses::head_with_variable-returns-clause-labels
clauses::head_with_variable-returns-clause-labels t c = head_labels c.single-2.result _ _ _ c.single-2.ensures.label c.single-2.ensures.lighter (omega (arith, c.requires.lighter, c.requires.lighter_still))

pub clauses::head_with_variable-returns-clause-shorter : goal.clauses::head_with_variable-returns-clause-shorter
clauses::head_with_variable-returns-clause-shorter t c = single_shorter c.single-2.result _ _ c.single-2.ensures.shorter (omega (arith, c.requires.shorter, first_shorter _ _ _ c.requires.goes_on.are))

pub clauses::head_with_variable-returns-clause-err : goal.clauses::head_with_variable-returns-clause-err
clauses::head_with_variable-returns-clause-err t c = IfErr-weaker c.single-2.result _ _
    (head_variable_bad c.args.depth c.args.label _ _ _ _ _ c.requires.starts c.requires.sort _ _ _ _ c.requires.goes_on c.requires.variable (omega (arith, c.if-depth-gt-DEEPEST.false)) _ _ _ _ c.in-Ok-next.ensures.ok
    (λ e. both_ways _ c.if-same.false (c.same.ensures.1 e)) (λ e. both_ways _ c.if-same-2.false (c.same-2.ensures.1 e))) c.single-2.ensures.err

pub clauses::several-returns-in-Err-clause-err : goal.clauses::several-returns-in-Err-clause-err
clauses::several-returns-in-Err-clause-err t c = in_patterns c.in-Err.ensures.err

pub clauses::several-returns-in-Err-take-clause-err : goal.clauses::several-returns-in-Err-take-clause-err
clauses::several-returns-in-Err-take-clause-err t c = no_when _ _ c.in-Ok.ensures.ok.passes (or_memory _ _ c.in-Err-take.ensures.err)

pub clauses::several-returns-clause-ok : goal.clauses::several-returns-clause-ok
clauses::several-returns-clause-ok t c = record { says = c.in-Ok.ensures.ok.says; between = c.in-Ok.found.rest.now; passes = c.in-Ok.ensures.ok.passes; then_when = c.in-Ok-take.ensures.ok; agrees = c.in-Ok.ensures.ok.agrees }

pub clauses::several-returns-clause-labels : goal.clauses::several-returns-clause-labels
clauses::several-returns-clause-labels t c = omega (arith, c.in-Ok.ensures.labels, c.in-Ok-take.ensures.lighter)

pub clauses::several-returns-clause-shorter : goal.clauses::several-returns-clause-shorter
clauses::several-returns-clause-shorter t c = omega (arith, c.in-Ok.ensures.shorter, c.in-Ok-take.ensures.shorter)

pub control_forms::case-returns-in-Err-clause-err : goal.control_forms::case-returns-in-Err-clause-err
control_forms::case-returns-in-Err-clause-err t c = case_0_bad _ c.args.label _ _ _ _ _ c.requires.starts c.requires.shallow c.requires.sort _ c.in-Err.ensures.err

pub control_forms::case-returns-in-Err-take-clause-err : goal.control_forms::case-returns-in-Err-take-clause-err
control_forms::case-returns-in-Err-take-clause-err t c = case_1_bad _ c.args.label _ _ _ _ _ c.requires.starts c.requires.shallow c.requires.sort _ _ _ c.in-Ok.ensures.ok _ c.in-Err-take.ensures.err

pub control_forms::case-returns-in-Err-clause-clause-err : goal.control_forms::case-returns-in-Err-clause-clause-err
control_forms::case-returns-in-Err-clause-clause-err t c = case_2_bad _ c.args.label _ _ _ _ _ c.requires.starts c.requires.shallow c.requires.sort _ _ _ c.in-Ok.ensures.ok _ c.in-Ok-take.ensures.ok _ c.in-Err-clause.ensures.err

pub control_forms::case-returns-in-Err-clauses-clause-err : goal.control_forms::case-returns-in-Err-clauses-clause-err
control_forms::case-returns-in-Err-clauses-clause-err t c = case_3_bad _ c.args.label _ _ _ _ _ c.requires.starts c.requires.shallow c.requires.sort _ _ _ c.in-Ok.ensures.ok _ c.in-Ok-take.ensures.ok _ _ _ c.in-Ok-clause.ensures.ok _
    c.in-Err-clauses.ensures.err

pub control_forms::case-returns-in-Ok-case-clause-ok : goal.control_forms::case-returns-in-Ok-case-clause-ok
control_forms::case-returns-in-Ok-case-clause-ok t c = case_ok _ c.args.label _ _ _ _ _ c.requires.starts c.requires.shallow c.requires.sort _ _ _ c.in-Ok.ensures.ok _ c.in-Ok-take.ensures.ok _ _ _
    (clause_kept c.in-Ok-with_clause.ensures.1 c.in-Ok-clause.ensures.ok) _ _ _ _ (one_clause _ _ _ c.new.ensures c.in-Ok-with_clause.ensures.2) c.in-Ok-clauses.ensures.ok _ c.mark-mark.ensures _ c.in-Ok-case.ensures

pub control_forms::try_expression-returns-in-Err-clause-err : goal.control_forms::try_expression-returns-in-Err-clause-err
control_forms::try_expression-returns-in-Err-clause-err t c = try_0_bad _ c.args.label _ _ _ _ _ c.requires.starts c.requires.shallow c.requires.sort _ c.in-Err.ensures.err

pub control_forms::try_expression-returns-in-Err-take-clause-err : goal.control_forms::try_expression-returns-in-Err-take-clause-err
control_forms::try_expression-returns-in-Err-take-clause-err t c = try_1_bad _ c.args.label _ _ _ _ _ c.requires.starts c.requires.shallow c.requires.sort _ _ _ c.in-Ok.ensures.ok _ c.in-Err-take.ensures.err

pub control_forms::try_expression-returns-in-Err-variables-clause-err : goal.control_forms::try_expression-returns-in-Err-variables-clause-err
control_forms::try_expression-returns-in-Err-variables-clause-err t c =
    try_2_bad _ c.args.label _ _ _ _ _ c.requires.starts c.requires.shallow c.requires.sort _ _ _ c.in-Ok.ensures.ok _ c.in-Ok-take.ensures.ok _ c.in-Err-variables.ensures.err

pub control_forms::try_expression-returns-in-Err-take-2-clause-err : goal.control_forms::try_expression-returns-in-Err-take-2-clause-err
control_forms::try_expression-returns-in-Err-take-2-clause-err t c =
    try_3_bad _ c.args.label _ _ _ _ _ c.requires.starts c.requires.shallow c.requires.sort _ _ _ c.in-Ok.ensures.ok _ c.in-Ok-take.ensures.ok _ _ c.in-Ok-variables.ensures.ok _ c.in-Err-take-2.ensures.err

pub control_forms::try_expression-returns-in-Err-expression-clause-err : goal.control_forms::try_expression-returns-in-Err-expression-clause-err
control_forms::try_expression-returns-in-Err-expression-clause-err t c =
    try_4_bad _ c.args.label _ _ _ _ _ c.requires.starts c.requires.shallow c.requires.sort _ _ _ c.in-Ok.ensures.ok _ c.in-Ok-take.ensures.ok _ _ c.in-Ok-variables.ensures.ok _ c.in-Ok-take-2.ensures.ok _ c.in-Err-expression.ensures.err

pub control_forms::try_expression-returns-in-Err-take-3-clause-err : goal.control_forms::try_expression-returns-in-Err-take-3-clause-err
control_forms::try_expression-returns-in-Err-take-3-clause-err t c =
    try_5_bad _ c.args.label _ _ _ _ _ c.requires.starts c.requires.shallow c.requires.sort _ _ _ c.in-Ok.ensures.ok _ c.in-Ok-take.ensures.ok _ _ c.in-Ok-variables.ensures.ok _ c.in-Ok-take-2.ensures.ok _ _ _ c.in-Ok-expression.ensures.ok
    _ c.in-Err-take-3.ensures.err

pub control_forms::try_expression-returns-in-Err-variables-2-clause-err : goal.control_forms::try_expression-returns-in-Err-variables-2-clause-err
control_forms::try_expression-returns-in-Err-variables-2-clause-err t c =
    try_6_bad _ c.args.label _ _ _ _ _ c.requires.starts c.requires.shallow c.requires.sort _ _ _ c.in-Ok.ensures.ok _ c.in-Ok-take.ensures.ok _ _ c.in-Ok-variables.ensures.ok _ c.in-Ok-take-2.ensures.ok _ _ _ c.in-Ok-expression.ensures.ok
    _ c.in-Ok-take-3.ensures.ok _ c.in-Err-variables-2.ensures.err

pub control_forms::try_expression-returns-in-Err-take-4-clause-err : goal.control_forms::try_expression-returns-in-Err-take-4-clause-err
control_forms::try_expression-returns-in-Err-take-4-clause-err t c =
    try_7_bad _ c.args.label _ _ _ _ _ c.requires.starts c.requires.shallow c.requires.sort _ _ _ c.in-Ok.ensures.ok _ c.in-Ok-take.ensures.ok _ _ c.in-Ok-variables.ensures.ok _ c.in-Ok-take-2.ensures.ok _ _ _ c.in-Ok-expression.ensures.ok
    _ c.in-Ok-take-3.ensures.ok _ _ c.in-Ok-variables-2.ensures.ok _ c.in-Err-take-4.ensures.err

pub control_forms::try_expression-returns-in-Err-expression-2-clause-err : goal.control_forms::try_expression-returns-in-Err-expression-2-clause-err
control_forms::try_expression-returns-in-Err-expression-2-clause-err t c =
    try_8_bad _ c.args.label _ _ _ _ _ c.requires.starts c.requires.shallow c.requires.sort _ _ _ c.in-Ok.ensures.ok _ c.in-Ok-take.ensures.ok _ _ c.in-Ok-variables.ensures.ok _ c.in-Ok-take-2.ensures.ok _ _ _ c.in-Ok-expression.ensures.ok
    _ c.in-Ok-take-3.ensures.ok _ _ c.in-Ok-variables-2.ensures.ok _ c.in-Ok-take-4.ensures.ok _ c.in-Err-expression-2.ensures.err

pub control_forms::try_expression-returns-in-Ok-try_-clause-ok : goal.control_forms::try_expression-returns-in-Ok-try_-clause-ok
control_forms::try_expression-returns-in-Ok-try_-clause-ok t c =
    try_ok _ c.args.label _ _ _ _ _ c.requires.starts c.requires.shallow c.requires.sort _ _ _ c.in-Ok.ensures.ok _ c.in-Ok-take.ensures.ok _ _ c.in-Ok-variables.ensures.ok _ c.in-Ok-take-2.ensures.ok _ _ _ c.in-Ok-expression.ensures.ok _
    c.in-Ok-take-3.ensures.ok _ _ c.in-Ok-variables-2.ensures.ok _ c.in-Ok-take-4.ensures.ok _ _ _ c.in-Ok-expression-2.ensures.ok _ c.mark-mark.ensures _ c.in-Ok-try_.ensures

pub control_forms::receive-returns-in-Err-clause-err : goal.control_forms::receive-returns-in-Err-clause-err
control_forms::receive-returns-in-Err-clause-err t c = receive_0_bad _ c.args.label _ _ _ _ _ c.requires.starts c.requires.shallow c.requires.sort _ c.in-Err.ensures.err

pub control_forms::receive-returns-in-Err-expression-clause-err : goal.control_forms::receive-returns-in-Err-expression-clause-err
control_forms::receive-returns-in-Err-expression-clause-err t c = receive_1_bad _ c.args.label _ _ _ _ _ c.requires.starts c.requires.shallow c.requires.sort _ _ _
    (clauses_alone _ _ _ _ _ _ _ _ c.new.ensures c.in-Ok.ensures.ok) _ c.in-Err-expression.ensures.err

pub control_forms::receive-returns-in-Err-take-clause-err : goal.control_forms::receive-returns-in-Err-take-clause-err
control_forms::receive-returns-in-Err-take-clause-err t c = receive_2_bad _ c.args.label _ _ _ _ _ c.requires.starts c.requires.shallow c.requires.sort _ _ _
    (clauses_alone _ _ _ _ _ _ _ _ c.new.ensures c.in-Ok.ensures.ok) _ _ _ c.in-Ok-expression.ensures.ok _ c.in-Err-take.ensures.err

pub control_forms::receive-returns-in-Err-expression-2-clause-err : goal.control_forms::receive-returns-in-Err-expression-2-clause-err
control_forms::receive-returns-in-Err-expression-2-clause-err t c = receive_3_bad _ c.args.label _ _ _ _ _ c.requires.starts c.requires.shallow c.requires.sort _ _ _
    (clauses_alone _ _ _ _ _ _ _ _ c.new.ensures c.in-Ok.ensures.ok) _ _ _ c.in-Ok-expression.ensures.ok _ c.in-Ok-take.ensures.ok _ c.in-Err-expression-2.ensures.err

pub control_forms::receive-returns-in-Ok-receive-clause-ok : goal.control_forms::receive-returns-in-Ok-receive-clause-ok
control_forms::receive-returns-in-Ok-receive-clause-ok t c = receive_ok _ c.args.label _ _ _ _ _ c.requires.starts c.requires.shallow c.requires.sort _ _ _
    (clauses_alone _ _ _ _ _ _ _ _ c.new.ensures c.in-Ok.ensures.ok) _ _ _ c.in-Ok-expression.ensures.ok _ c.in-Ok-take.ensures.ok _ _ _ c.in-Ok-expression-2.ensures.ok _ c.mark-mark.ensures _ c.in-Ok-receive.ensures

pub control_forms::catch-returns-in-Err-clause-err : goal.control_forms::catch-returns-in-Err-clause-err
control_forms::catch-returns-in-Err-clause-err t c = catch_0_bad _ c.args.label _ _ _ _ _ c.requires.starts c.requires.shallow c.requires.sort _ c.in-Err.ensures.err

pub control_forms::catch-returns-in-Ok-catch-clause-ok : goal.control_forms::catch-returns-in-Ok-catch-clause-ok
control_forms::catch-returns-in-Ok-catch-clause-ok t c = catch_ok _ c.args.label _ _ _ _ _ c.requires.starts c.requires.shallow c.requires.sort _ _ _ c.in-Ok.ensures.ok _ c.mark-mark.ensures _ c.in-Ok-catch.ensures

pub definitions::definitions-loop-found-init : goal.definitions::definitions-loop-found-init
definitions::definitions-loop-found-init t c = record { so_far = definitions_start _ _ _ _ _ c.new-items.ensures; labels = omega arith; shorter = omega arith }

pub definitions::definitions-returns-in-Err-clause-err : goal.definitions::definitions-returns-in-Err-clause-err
definitions::definitions-returns-in-Err-clause-err t c = definitions_end _ _ _ c.requires.closes _ _ _ _ c.loop-found.invariant.so_far _ c.in-Err.ensures.err

pub definitions::definitions-returns-then-same-clause-ok : goal.definitions::definitions-returns-then-same-clause-ok
definitions::definitions-returns-then-same-clause-ok t c = definitions_close _ _ _ c.requires.closes _ _ _ _ c.loop-found.invariant.so_far _ _ _ _ c.in-Ok.ensures.ok (c.same.ensures.0 c.if-same.true) _ refl

pub definitions::definitions-loop-found-preserved : goal.definitions::definitions-loop-found-preserved
definitions::definitions-loop-found-preserved t c = record {
  so_far = definitions_next _ _ _ c.requires.closes _ _ c.loop-found.items _ c.loop-found.invariant.so_far _ _ _ _ c.in-Ok.ensures.ok
      (λ z. iff_false c.same.ensures c.if-same.false z) _ c.in-Ok-definition.found.value _ c.in-Ok-definition.ensures.ok _ c.if-not-added.ensures.added;
  labels = omega (arith, c.loop-found.invariant.labels, c.in-Ok-definition.ensures.labels);
  shorter = omega (arith, c.loop-found.invariant.shorter, c.in-Ok-definition.ensures.shorter);
}

pub definitions::definitions-returns-in-Err-definition-clause-err : goal.definitions::definitions-returns-in-Err-definition-clause-err
definitions::definitions-returns-in-Err-definition-clause-err t c = definitions_bad _ _ _ c.requires.closes _ _ _ _ c.loop-found.invariant.so_far _ _ _ _ c.in-Ok.ensures.ok
    (λ z. iff_false c.same.ensures c.if-same.false z) _ c.in-Err-definition.ensures.err

pub definitions::definition-returns-in-Err-clause-err : goal.definitions::definition-returns-in-Err-clause-err
definitions::definition-returns-in-Err-clause-err t c = definition_0_bad _ 0 _ _ c.in-Err.ensures.err

pub definitions::definition-returns-in-Err-take-clause-err : goal.definitions::definition-returns-in-Err-take-clause-err
definitions::definition-returns-in-Err-take-clause-err t c = definition_1_bad _ 0 _ _ _ _ c.in-Ok.ensures.ok _ c.in-Err-take.ensures.err

pub definitions::definition-returns-in-Err-noted_function-clause-err : goal.definitions::definition-returns-in-Err-noted_function-clause-err
definitions::definition-returns-in-Err-noted_function-clause-err t c = definition_2_bad _ 0 _ _ _ _ c.in-Ok.ensures.ok _ c.in-Ok-take.ensures.ok _ c.in-Err-noted_function.ensures.err

pub definitions::definition-returns-clause-ok : goal.definitions::definition-returns-clause-ok
definitions::definition-returns-clause-ok t c = definition_ok _ _ _ _ _ _ c.in-Ok.ensures.ok _ c.in-Ok-take.ensures.ok _ _ _ _ _ c.in-Ok-noted_function.ensures.ok _ refl

pub definitions::noted_function-returns-in-Err-clause-err : goal.definitions::noted_function-returns-in-Err-clause-err
definitions::noted_function-returns-in-Err-clause-err t c = noted_function_none _ _ _ c.in-Err.ensures.err

pub definitions::noted_function-returns-in-Ok-function-clause-ok : goal.definitions::noted_function-returns-in-Ok-function-clause-ok
definitions::noted_function-returns-in-Ok-function-clause-ok t c = function_bare _ _ _ _ _ _ _ c.in-Ok.ensures.ok (λ z. iff_false c.same.ensures c.if-not-same.true z) _ _ _ _ _ c.in-Ok-function.ensures.ok

pub definitions::noted_function-returns-in-Err-function-clause-err : goal.definitions::noted_function-returns-in-Err-function-clause-err
definitions::noted_function-returns-in-Err-function-clause-err t c = function_bare_bad _ 0 _ _ _ _ _ c.in-Ok.ensures.ok (λ z. iff_false c.same.ensures c.if-not-same.true z) _ c.in-Err-function.ensures.err

pub definitions::noted_function-returns-in-Err-function-2-clause-err : goal.definitions::noted_function-returns-in-Err-function-2-clause-err
definitions::noted_function-returns-in-Err-function-2-clause-err t c = function_in_bad _ 0 _ _ _ _ _ c.in-Ok.ensures.ok (c.same.ensures.0 c.if-not-same.false) _ c.in-Err-function-2.ensures.err

pub definitions::noted_function-returns-in-Ok-annotation-clause-ok : goal.definitions::noted_function-returns-in-Ok-annotation-clause-ok
definitions::noted_function-returns-in-Ok-annotation-clause-ok t c = function_noted _ _ _ _ _ _ _ c.in-Ok.ensures.ok
    (c.same.ensures.0 c.if-not-same.false) _ _ _ _ _ c.in-Ok-function-2.ensures.ok _ _ c.in-Ok-annotation.ensures.ok _ c.with_note.ensures

pub definitions::noted_function-returns-in-Err-annotation-clause-err : goal.definitions::noted_function-returns-in-Err-annotation-clause-err
definitions::noted_function-returns-in-Err-annotation-clause-err t c = function_note_bad _ _ _ _ _ _ _ c.in-Ok.ensures.ok (c.same.ensures.0 c.if-not-same.false) _ _ _ _ _ c.in-Ok-function-2.ensures.ok _ c.in-Err-annotation.ensures.err

pub definitions::function-returns-in-Err-clause-err : goal.definitions::function-returns-in-Err-clause-err
definitions::function-returns-in-Err-clause-err t c = function_none _ _ _ c.in-Err.ensures.err

pub definitions::function-returns-then-not-same-clause-err : goal.definitions::function-returns-then-not-same-clause-err
definitions::function-returns-then-not-same-clause-err t c = function_dull _ 0 _ _ _ _ _ c.in-Ok.ensures.ok (λ z. iff_false c.same.ensures c.if-not-same.true z)

pub definitions::function-returns-in-Err-take-clause-err : goal.definitions::function-returns-in-Err-take-clause-err
definitions::function-returns-in-Err-take-clause-err t c = function_1_bad _ 0 _ _ _ _ _ c.in-Ok.ensures.ok (c.same.ensures.0 c.if-not-same.false) _ c.in-Err-take.ensures.err

pub definitions::function-returns-in-Err-variables_to-clause-err : goal.definitions::function-returns-in-Err-variables_to-clause-err
definitions::function-returns-in-Err-variables_to-clause-err t c = function_2_bad _ 0 _ _ _ _ _ c.in-Ok.ensures.ok (c.same.ensures.0 c.if-not-same.false) _ c.in-Ok-take.ensures.ok _ c.in-Err-variables_to.ensures.err

pub definitions::function-returns-in-Err-take-2-clause-err : goal.definitions::function-returns-in-Err-take-2-clause-err
definitions::function-returns-in-Err-take-2-clause-err t c = function_3_bad _ 0 _ _ _ _ _ c.in-Ok.ensures.ok (c.same.ensures.0 c.if-not-same.false) _ c.in-Ok-take.ensures.ok _ _ c.in-Ok-variables_to.ensures.ok _ c.in-Err-take-2.ensures.err

pub definitions::function-returns-in-Err-expression-clause-err : goal.definitions::function-returns-in-Err-expression-clause-err
definitions::function-returns-in-Err-expression-clause-err t c = function_4_bad _ 0 _ _ _ _ _ c.in-Ok.ensures.ok
    (c.same.ensures.0 c.if-not-same.false) _ c.in-Ok-take.ensures.ok _ _ c.in-Ok-variables_to.ensures.ok _ c.in-Ok-take-2.ensures.ok _ c.in-Err-expression.ensures.err

pub definitions::function-returns-clause-ok : goal.definitions::function-returns-clause-ok
definitions::function-returns-clause-ok t c = function_ok _ _ _ _ _ _ _ c.in-Ok.ensures.ok
    (c.same.ensures.0 c.if-not-same.false) _ c.in-Ok-take.ensures.ok _ _ c.in-Ok-variables_to.ensures.ok _ c.in-Ok-take-2.ensures.ok _ _ _ c.in-Ok-expression.ensures.ok _ c.mark.ensures

pub expression_lists::list-returns-in-Err-clause-err : goal.expression_lists::list-returns-in-Err-clause-err
expression_lists::list-returns-in-Err-clause-err t c = list_open_end _ c.args.label _ _ _ _ _ c.requires.starts c.requires.sort c.requires.shallow _ c.in-Err.ensures.err

pub expression_lists::list-returns-in-Ok-nil-clause-ok : goal.expression_lists::list-returns-in-Ok-nil-clause-ok
expression_lists::list-returns-in-Ok-nil-clause-ok t c = list_nil _ _ _ _ _ _ _ c.requires.starts c.requires.sort c.requires.shallow _ _ _ _ c.in-Ok.ensures.ok (c.same.ensures.0 c.if-same.true) _ c.in-Ok-nil.ensures

pub expression_lists::list-returns-in-Err-take-clause-err : goal.expression_lists::list-returns-in-Err-take-clause-err
expression_lists::list-returns-in-Err-take-clause-err t c = list_unclosed _ _ _ _ _ _ _ _ _ (omega (arith, c.loop-pending-test.true)) c.loop-pending.invariant.so_far _ c.in-Err-take.ensures.err

pub expression_lists::list-loop-pending-preserved : goal.expression_lists::list-loop-pending-preserved
expression_lists::list-loop-pending-preserved t c = record {
  so_far = list_closes _ _ _ _ _ _ _ _ _ _ (omega (arith, c.loop-pending-test.true)) c.loop-pending.invariant.so_far _ c.in-Ok-take.ensures.ok;
  shorter = omega (arith, c.loop-pending.invariant.shorter, c.in-Ok-take.ensures.shorter);
  labels = omega (arith, c.loop-pending.invariant.labels, c.in-Ok-take.ensures.lighter);
}

pub expression_lists::list-returns-in-Ok-listed-clause-ok : goal.expression_lists::list-returns-in-Ok-listed-clause-ok
expression_lists::list-returns-in-Ok-listed-clause-ok t c = list_done _ _ _ _ _ _ _ _ _ (omega (arith, c.loop-pending-test.false)) c.loop-pending.invariant.so_far _ _ c.mark.ensures c.in-Ok-listed.ensures

pub expression_lists::elements-returns-in-Err-clause-err : goal.expression_lists::elements-returns-in-Err-clause-err
expression_lists::elements-returns-in-Err-clause-err t c = list_first_bad _ c.args.label _ _ _ _ _ c.requires.starts c.requires.sort c.requires.shallow _ _ _ _ c.requires.goes_on c.requires.some _ c.in-Err.ensures.err

pub expression_lists::elements-loop-found-init : goal.expression_lists::elements-loop-found-init
expression_lists::elements-loop-found-init t c = record {
  so_far = list_first_item _ _ _ _ _ _ _ c.requires.starts c.requires.sort c.requires.shallow _ _ _ _ c.requires.goes_on c.requires.some _ _ _ _ _ c.new-items.ensures c.if-not-pushed.ensures.added c.in-Ok.ensures.ok;
  shallow = c.in-Ok.ensures.shallow;
  shorter = omega (arith, c.requires.shorter, c.in-Ok.ensures.shorter);
  labels = omega (arith, c.requires.lighter, c.in-Ok.ensures.labels);
}

pub expression_lists::elements-returns-in-Err-next-clause-err : goal.expression_lists::elements-returns-in-Err-next-clause-err
expression_lists::elements-returns-in-Err-next-clause-err t c = list_ran_out _ _ _ _ _ _ _ _ c.loop-found.invariant.shallow c.loop-found.invariant.so_far _ c.in-Err-next.ensures.err

pub expression_lists::elements-returns-in-Ok-nil-clause-ok : goal.expression_lists::elements-returns-in-Ok-nil-clause-ok
expression_lists::elements-returns-in-Ok-nil-clause-ok t c = list_shut _ _ _ _ _ _ _ _ c.loop-found.invariant.shallow c.loop-found.invariant.so_far _ _ _ _ c.in-Ok-next.ensures.ok (c.same.ensures.0 c.if-same.true) _ c.in-Ok-nil.ensures

pub expression_lists::elements-returns-in-Ok-nil-clause-labels : goal.expression_lists::elements-returns-in-Ok-nil-clause-labels
expression_lists::elements-returns-in-Ok-nil-clause-labels t c = omega (arith, c.loop-found.invariant.labels, c.in-Ok-next.ensures.lighter, two_at_least c.in-Ok-next.found.token.now.kind)

pub expression_lists::elements-returns-in-Err-expression-clause-err : goal.expression_lists::elements-returns-in-Err-expression-clause-err
expression_lists::elements-returns-in-Err-expression-clause-err t c = list_comma_bad _ _ _ _ _ _ _ _ c.loop-found.invariant.shallow c.loop-found.invariant.so_far _ _ _ _ c.in-Ok-next.ensures.ok
    (c.same-in-loop-found.ensures.0 c.if-same-2.true) _ c.in-Err-expression.ensures.err

pub expression_lists::elements-loop-found-preserved-then-same-2 : goal.expression_lists::elements-loop-found-preserved-then-same-2
expression_lists::elements-loop-found-preserved-then-same-2 t c = record {
  so_far = list_item _ _ _ _ _ _ _ _ c.loop-found.invariant.shallow c.loop-found.invariant.so_far _ _ _ _ c.in-Ok-next.ensures.ok
      (c.same-in-loop-found.ensures.0 c.if-same-2.true) _ _ _ _ c.if-not-pushed-2.ensures.added c.in-Ok-expression.ensures.ok;
  shallow = c.loop-found.invariant.shallow;
  shorter = omega (arith, c.loop-found.invariant.shorter, c.in-Ok-next.ensures.shorter, c.in-Ok-expression.ensures.shorter);
  labels = omega (arith, c.loop-found.invariant.labels, c.in-Ok-next.ensures.lighter, c.in-Ok-expression.ensures.labels);
}

pub expression_lists::elements-returns-then-not-same-clause-err : goal.expression_lists::elements-returns-then-not-same-clause-err
expression_lists::elements-returns-then-not-same-clause-err t c = list_stuck _ _ _ _ _ _ _ _ c.loop-found.invariant.shallow c.loop-found.invariant.so_far _ _ _ _ c.in-Ok-next.ensures.ok (not_this_sort c.if-same.false c.same.ensures)
    (not_this_sort c.if-same-2.false c.same-in-loop-found.ensures) (not_this_sort c.if-not-same.true c.same-in-loop-found-2.ensures)

pub expression_lists::elements-returns-in-Err-next-2-clause-err : goal.expression_lists::elements-returns-in-Err-next-2-clause-err
expression_lists::elements-returns-in-Err-next-2-clause-err t c = list_bar_end _ _ _ _ _ _ _ _ c.loop-found.invariant.shallow c.loop-found.invariant.so_far _ _ _ _ c.in-Ok-next.ensures.ok
    (c.same-in-loop-found-2.ensures.0 c.if-not-same.false) _ c.in-Err-next-2.ensures.err

pub expression_lists::elements-returns-in-Err-bare_expression-clause-err : goal.expression_lists::elements-returns-in-Err-bare_expression-clause-err
expression_lists::elements-returns-in-Err-bare_expression-clause-err t c = list_round_bad _ _ _ _ _ _ _ _ c.loop-found.invariant.shallow c.loop-found.invariant.so_far _ _ _ _ c.in-Ok-next.ensures.ok
    (c.same-in-loop-found-2.ensures.0 c.if-not-same.false) _ _ _ _ c.in-Ok-next-2.ensures.ok (c.same-in-loop-found-3.ensures.0 c.if-same-3.true) _ c.in-Err-bare_expression.ensures.err

pub expression_lists::elements-returns-in-Ok-annotated-clause-ok : goal.expression_lists::elements-returns-in-Ok-annotated-clause-ok
expression_lists::elements-returns-in-Ok-annotated-clause-ok t c =
    one_more _ (list_noted _ _ _ _ _ _ _ _ c.loop-found.invariant.shallow c.loop-found.invariant.so_far _ _ _ _ c.in-Ok-next.ensures.ok (c.same-in-loop-found-2.ensures.0 c.if-not-same.false) _ _ _ _ c.in-Ok-next-2.ensures.ok
    (c.same-in-loop-found-3.ensures.0 c.if-same-3.true) _ _ _ c.in-Ok-bare_expression.ensures.ok _ _ _ c.in-Ok-annotated.ensures.ok.2 c.in-Ok-annotated.ensures.ok.1)

pub expression_lists::elements-returns-in-Err-annotated-clause-err : goal.expression_lists::elements-returns-in-Err-annotated-clause-err
expression_lists::elements-returns-in-Err-annotated-clause-err t c = list_note_bad _ _ _ _ _ _ _ _ c.loop-found.invariant.shallow c.loop-found.invariant.so_far _ _ _ _ c.in-Ok-next.ensures.ok
    (c.same-in-loop-found-2.ensures.0 c.if-not-same.false) _ _ _ _ c.in-Ok-next-2.ensures.ok (c.same-in-loop-found-3.ensures.0 c.if-same-3.true) _ _ _ c.in-Ok-bare_expression.ensures.ok _ c.in-Err-annotated.ensures.err

pub expression_lists::elements-push_bytes-requires : goal.expression_lists::elements-push_bytes-requires
expression_lists::elements-push_bytes-requires t c = omega (
  arith,
  c.requires.labels,
  c.loop-found.invariant.labels,
  c.in-Ok-next.ensures.lighter,
  c.in-Ok-next-2.ensures.lighter,
  string_weight _ _ _ _ _ c.in-Ok-next-2.ensures.ok (c.same-in-loop-found-4.ensures.0 c.if-same-4.true),
)

pub expression_lists::elements-returns-in-Ok-nil-2-clause-ok : goal.expression_lists::elements-returns-in-Ok-nil-2-clause-ok
expression_lists::elements-returns-in-Ok-nil-2-clause-ok t c =
    one_more _ (list_text _ _ _ _ _ _ _ _ c.loop-found.invariant.shallow c.loop-found.invariant.so_far _ _ _ _ c.in-Ok-next.ensures.ok (c.same-in-loop-found-2.ensures.0 c.if-not-same.false) _ _ _ _ c.in-Ok-next-2.ensures.ok
    (c.same-in-loop-found-4.ensures.0 c.if-same-4.true) _ _ _ c.in-Ok-push_bytes.ensures.added c.in-Ok-push_bytes.ensures.next c.in-Ok-nil-2.ensures)

pub expression_lists::elements-returns-in-Ok-nil-2-clause-labels : goal.expression_lists::elements-returns-in-Ok-nil-2-clause-labels
expression_lists::elements-returns-in-Ok-nil-2-clause-labels t c = omega (
  arith,
  c.loop-found.invariant.labels,
  c.in-Ok-next.ensures.lighter,
  c.in-Ok-push_bytes.ensures.next,
  string_weight _ _ _ _ _ c.in-Ok-next-2.ensures.ok (c.same-in-loop-found-4.ensures.0 c.if-same-4.true),
)

pub expression_lists::elements-returns-in-Ok-other_expression-clause-ok : goal.expression_lists::elements-returns-in-Ok-other_expression-clause-ok
expression_lists::elements-returns-in-Ok-other_expression-clause-ok t c = one_more _
    (list_tailed _ _ _ _ _ _ _ _ c.loop-found.invariant.shallow c.loop-found.invariant.so_far _ _ _ _ c.in-Ok-next.ensures.ok (c.same-in-loop-found-2.ensures.0 c.if-not-same.false) _ _ _ _ c.in-Ok-next-2.ensures.ok
    (not_this_sort c.if-not-same-2.true c.same-in-loop-found-5.ensures) (not_this_sort c.if-same-3.false c.same-in-loop-found-3.ensures)
    (not_this_sort c.if-same-4.false c.same-in-loop-found-4.ensures) _ _ _ c.in-Ok-other_expression.ensures.ok)

pub expression_lists::elements-returns-in-Err-other_expression-clause-err : goal.expression_lists::elements-returns-in-Err-other_expression-clause-err
expression_lists::elements-returns-in-Err-other_expression-clause-err t c = list_tail_bad _ _ _ _ _ _ _ _ c.loop-found.invariant.shallow c.loop-found.invariant.so_far _ _ _ _ c.in-Ok-next.ensures.ok
    (c.same-in-loop-found-2.ensures.0 c.if-not-same.false) _ _ _ _ c.in-Ok-next-2.ensures.ok (not_this_sort c.if-not-same-2.true c.same-in-loop-found-5.ensures) (not_this_sort c.if-same-3.false c.same-in-loop-found-3.ensures)
    (not_this_sort c.if-same-4.false c.same-in-loop-found-4.ensures) _ c.in-Err-other_expression.ensures.err

pub expression_lists::elements-returns-in-Err-next-3-clause-err : goal.expression_lists::elements-returns-in-Err-next-3-clause-err
expression_lists::elements-returns-in-Err-next-3-clause-err t c = list_inner_end _ _ _ _ _ _ _ _ c.loop-found.invariant.shallow c.loop-found.invariant.so_far _ _ _ _ c.in-Ok-next.ensures.ok
    (c.same-in-loop-found-2.ensures.0 c.if-not-same.false) _ _ _ _ c.in-Ok-next-2.ensures.ok (c.same-in-loop-found-5.ensures.0 c.if-not-same-2.false) _ c.in-Err-next-3.ensures.err

pub expression_lists::elements-returns-in-Ok-nil-3-clause-ok : goal.expression_lists::elements-returns-in-Ok-nil-3-clause-ok
expression_lists::elements-returns-in-Ok-nil-3-clause-ok t c =
    one_more _ (list_tail_nil _ _ _ _ _ _ _ _ c.loop-found.invariant.shallow c.loop-found.invariant.so_far _ _ _ _ c.in-Ok-next.ensures.ok (c.same-in-loop-found-2.ensures.0 c.if-not-same.false) _ _ _ _ c.in-Ok-next-2.ensures.ok
    (c.same-in-loop-found-5.ensures.0 c.if-not-same-2.false) _ _ _ _ c.in-Ok-next-3.ensures.ok (c.same-in-loop-found-6.ensures.0 c.if-same-5.true) _ c.in-Ok-nil-3.ensures)

pub expression_lists::elements-returns-in-Ok-nil-3-clause-labels : goal.expression_lists::elements-returns-in-Ok-nil-3-clause-labels
expression_lists::elements-returns-in-Ok-nil-3-clause-labels t c = omega (
  arith,
  c.loop-found.invariant.labels,
  c.in-Ok-next.ensures.lighter,
  c.in-Ok-next-2.ensures.lighter,
  c.in-Ok-next-3.ensures.lighter,
  two_at_least c.in-Ok-next.found.token.now.kind,
)

pub expression_lists::elements-loop-found-preserved : goal.expression_lists::elements-loop-found-preserved
expression_lists::elements-loop-found-preserved t c = record {
  so_far = one_deeper _ (list_merge _ _ _ _ _ _ _ _ c.loop-found.invariant.shallow c.loop-found.invariant.so_far _ _ _ _ c.in-Ok-next.ensures.ok (c.same-in-loop-found-2.ensures.0 c.if-not-same.false) _ _ _ _ c.in-Ok-next-2.ensures.ok
      (c.same-in-loop-found-5.ensures.0 c.if-not-same-2.false) _ _ _ _ c.in-Ok-next-3.ensures.ok (not_this_sort c.if-same-5.false c.same-in-loop-found-6.ensures) _ _ _ _ c.if-not-pushed-3.ensures.added c.in-Ok-expression-2.ensures.ok);
  shallow = c.loop-found.invariant.shallow;
  shorter = omega (arith, c.loop-found.invariant.shorter, c.in-Ok-next.ensures.shorter, c.in-Ok-next-2.ensures.shorter, c.in-Ok-expression-2.ensures.shorter);
  labels = omega (arith, c.loop-found.invariant.labels, c.in-Ok-next.ensures.lighter, c.in-Ok-next-2.ensures.lighter, c.in-Ok-expression-2.ensures.labels);
}

pub expression_lists::elements-returns-in-Err-expression-2-clause-err : goal.expression_lists::elements-returns-in-Err-expression-2-clause-err
expression_lists::elements-returns-in-Err-expression-2-clause-err t c = list_merge_bad _ _ _ _ _ _ _ _ c.loop-found.invariant.shallow c.loop-found.invariant.so_far _ _ _ _ c.in-Ok-next.ensures.ok
    (c.same-in-loop-found-2.ensures.0 c.if-not-same.false) _ _ _ _ c.in-Ok-next-2.ensures.ok (c.same-in-loop-found-5.ensures.0 c.if-not-same-2.false) _ _ _ _ c.in-Ok-next-3.ensures.ok
    (not_this_sort c.if-same-5.false c.same-in-loop-found-6.ensures) _ c.in-Err-expression-2.ensures.err

pub expressions::expression-returns-in-Err-clause-err : goal.expressions::expression-returns-in-Err-clause-err
expressions::expression-returns-in-Err-clause-err t c = expression_none _ 0 _ _ c.in-Err.ensures.err

pub expressions::expression-returns-then-is_too_deep-clause-err : goal.expressions::expression-returns-then-is_too_deep-clause-err
expressions::expression-returns-then-is_too_deep-clause-err t c = expression_list_deep _ 0 _ _ _ _ _ c.in-Ok.ensures.ok (c.same.ensures.0 c.if-same.true) _ c.is_too_deep.ensures c.if-is_too_deep.true c.requires.shallow

pub expressions::expression-returns-in-Ok-list-clause-ok : goal.expressions::expression-returns-in-Ok-list-clause-ok
expressions::expression-returns-in-Ok-list-clause-ok t c = expression_list _ _ _ _ _ _ _ c.in-Ok.ensures.ok (c.same.ensures.0 c.if-same.true) _ _ _ c.in-Ok-list.ensures.ok

pub expressions::expression-returns-in-Ok-list-clause-shallow : goal.expressions::expression-returns-in-Ok-list-clause-shallow
expressions::expression-returns-in-Ok-list-clause-shallow t c = within_limit _ _ (sym c.is_too_deep.ensures ∙ c.if-is_too_deep.false)

pub expressions::expression-returns-in-Err-list-clause-err : goal.expressions::expression-returns-in-Err-list-clause-err
expressions::expression-returns-in-Err-list-clause-err t c = expression_list_bad _ 0 _ _ _ _ _ c.in-Ok.ensures.ok (c.same.ensures.0 c.if-same.true) _ c.in-Err-list.ensures.err

pub expressions::expression-returns-in-Ok-bare_expression-clause-ok : goal.expressions::expression-returns-in-Ok-bare_expression-clause-ok
expressions::expression-returns-in-Ok-bare_expression-clause-ok t c = expression_bare _ _ _ _ _ _ _ c.in-Ok.ensures.ok (iff_false c.same-2.ensures c.if-not-same.true) _ _ _ c.in-Ok-bare_expression.ensures.ok

pub expressions::expression-returns-in-Err-bare_expression-clause-err : goal.expressions::expression-returns-in-Err-bare_expression-clause-err
expressions::expression-returns-in-Err-bare_expression-clause-err t c = expression_bare_bad _ 0 _ _ _ _ _ c.in-Ok.ensures.ok (iff_false c.same-2.ensures c.if-not-same.true) _ c.in-Err-bare_expression.ensures.err

pub expressions::expression-returns-in-Err-bare_expression-2-clause-err : goal.expressions::expression-returns-in-Err-bare_expression-2-clause-err
expressions::expression-returns-in-Err-bare_expression-2-clause-err t c = expression_in_bad _ 0 _ _ _ _ _ c.in-Ok.ensures.ok (c.same-2.ensures.0 c.if-not-same.false) _ c.in-Err-bare_expression-2.ensures.err

pub expressions::expression-returns-in-Ok-annotated-clause-ok : goal.expressions::expression-returns-in-Ok-annotated-clause-ok
expressions::expression-returns-in-Ok-annotated-clause-ok t c = expression_noted _ _ _ _ _ _ _ c.in-Ok.ensures.ok
    (c.same-2.ensures.0 c.if-not-same.false) _ _ _ c.in-Ok-bare_expression-2.ensures.ok _ _ _ c.in-Ok-annotated.ensures.ok.2 c.in-Ok-annotated.ensures.ok.1

pub expressions::expression-returns-in-Err-annotated-clause-err : goal.expressions::expression-returns-in-Err-annotated-clause-err
expressions::expression-returns-in-Err-annotated-clause-err t c = expression_note_bad _ _ _ _ _ _ _ c.in-Ok.ensures.ok (c.same-2.ensures.0 c.if-not-same.false) _ _ _ c.in-Ok-bare_expression-2.ensures.ok _ c.in-Err-annotated.ensures.err

pub expressions::bare_expression-returns-in-Err-clause-err : goal.expressions::bare_expression-returns-in-Err-clause-err
expressions::bare_expression-returns-in-Err-clause-err t c = bare_none _ 0 _ _ c.in-Err.ensures.err

pub expressions::bare_expression-returns-then-starts-clause-err : goal.expressions::bare_expression-returns-then-starts-clause-err
expressions::bare_expression-returns-then-starts-clause-err t c = bare_expression_deep _ 0 _ _ _ _ _ c.in-Ok.ensures.ok _ c.is_too_deep.ensures c.if-is_too_deep.true c.requires.shallow _ c.starts.ensures c.if-starts.true

pub expressions::bare_expression-returns-then-is_too_deep-clause-err : goal.expressions::bare_expression-returns-then-is_too_deep-clause-err
expressions::bare_expression-returns-then-is_too_deep-clause-err t c = bare_expression_dull _ 0 _ _ _ _ _ c.in-Ok.ensures.ok _ c.starts.ensures c.if-starts.false

pub expressions::bare_expression-returns-in-Ok-other_expression-clause-ok : goal.expressions::bare_expression-returns-in-Ok-other_expression-clause-ok
expressions::bare_expression-returns-in-Ok-other_expression-clause-ok t c = bare_other _ _ _ _ _ _ _ c.in-Ok.ensures.ok (iff_false c.same.ensures c.if-same.false)
    (iff_false c.same-2.ensures c.if-same-2.false) _ _ _ c.in-Ok-other_expression.ensures.ok

pub expressions::bare_expression-returns-in-Err-other_expression-clause-err : goal.expressions::bare_expression-returns-in-Err-other_expression-clause-err
expressions::bare_expression-returns-in-Err-other_expression-clause-err t c = bare_other_bad _ 0 _ _ _ _ _ c.in-Ok.ensures.ok (iff_false c.same.ensures c.if-same.false)
    (iff_false c.same-2.ensures c.if-same-2.false) _ c.in-Err-other_expression.ensures.err

pub expressions::other_expression-returns-in-Err-clause-err : goal.expressions::other_expression-returns-in-Err-clause-err
expressions::other_expression-returns-in-Err-clause-err t c = other_none _ 0 _ _ c.in-Err.ensures.err

pub expressions::other_expression-returns-in-Ok-literal-clause-ok : goal.expressions::other_expression-returns-in-Ok-literal-clause-ok
expressions::other_expression-returns-in-Ok-literal-clause-ok t c = other_literal _ _ _ _ _ _ _ c.in-Ok.ensures.ok c.requires.shallow _ c.is_literal.ensures c.if-is_literal.true _
    (literal_made _ _ _ _ _ c.in-Ok-literal.ensures c.mark.ensures c.in-Ok-literal_of.ensures)

pub expressions::other_expression-returns-in-Ok-variable-clause-ok : goal.expressions::other_expression-returns-in-Ok-variable-clause-ok
expressions::other_expression-returns-in-Ok-variable-clause-ok t c = other_variable _ _ _ _ _ _ _ c.in-Ok.ensures.ok c.requires.shallow c.in-Variable.is _
    (variable_made _ _ _ _ _ c.in-Ok-variable.ensures c.mark-in-Ok-text_of.ensures c.in-Ok-text_of.ensures)

pub expressions::other_expression-returns-in-Ok-literal-2-clause-ok : goal.expressions::other_expression-returns-in-Ok-literal-2-clause-ok
expressions::other_expression-returns-in-Ok-literal-2-clause-ok t c = other_nil _ _ _ _ _ _ _ c.in-Ok.ensures.ok c.requires.shallow c.in-OpenSquare.is _ c.in-Ok-take.ensures.ok _
    (c.in-Ok-literal-2.ensures ∙ ap (λ k. m.literal k l.Nil) c.mark-in-Ok-take.ensures)

pub expressions::other_expression-returns-in-Err-take-clause-err : goal.expressions::other_expression-returns-in-Err-take-clause-err
expressions::other_expression-returns-in-Err-take-clause-err t c = other_nil_bad _ 0 _ _ _ _ _ c.in-Ok.ensures.ok c.requires.shallow c.in-OpenSquare.is _ c.in-Err-take.ensures.err

pub expressions::other_expression-returns-in_default : goal.expressions::other_expression-returns-in_default
expressions::other_expression-returns-in_default t c = record {
  ok = tt;
  labels = tt;
  shorter = tt;
  err = other_else _ 0 _ _ _ _ _ c.in-Ok.ensures.ok _ c.is_literal.ensures c.if-is_literal.false c.in_default.not-Variable c.in_default.not-Atom c.in_default.not-OpenSquare c.in_default.not-OpenCurly c.in_default.not-Less
      c.in_default.not-OpenBinary c.in_default.not-OpenMap c.in_default.not-Fun c.in_default.not-Let c.in_default.not-Do c.in_default.not-Case c.in_default.not-Letrec c.in_default.not-Apply c.in_default.not-Call c.in_default.not-Primop
      c.in_default.not-Try c.in_default.not-Receive c.in_default.not-Catch;
}

pub expressions::expressions-returns-in-Err-clause-err : goal.expressions::expressions-returns-in-Err-clause-err
expressions::expressions-returns-in-Err-clause-err t c = items_nothing _ _ (closes_expressions _ _ c.requires.closes) number tree 0 _ _ c.in-Err.ensures.err

pub expressions::expressions-returns-then-same-clause-ok : goal.expressions::expressions-returns-then-same-clause-ok
expressions::expressions-returns-then-same-clause-ok t c = expressions_of (items_empty _ _ (closes_expressions _ _ c.requires.closes) number tree _ _ _ _ _ _ c.in-Ok.ensures.ok _ c.new-items.ensures (c.same.ensures.0 c.if-same.true))

pub expressions::expressions-returns-in-Err-expression-clause-err : goal.expressions::expressions-returns-in-Err-expression-clause-err
expressions::expressions-returns-in-Err-expression-clause-err t c = items_bad _ _ (closes_expressions _ _ c.requires.closes) number tree 0 _ _ _ _ _ c.in-Ok.ensures.ok
    (iff_false c.same.ensures c.if-same.false) _ c.in-Err-expression.ensures.err

pub expressions::expressions-loop-found-init : goal.expressions::expressions-loop-found-init
expressions::expressions-loop-found-init t c = record {
  so_far = items_first _ _ (closes_expressions _ _ c.requires.closes) number tree _ _ _ _ _ _ c.in-Ok.ensures.ok (iff_false c.same.ensures c.if-same.false) _ _ _ _ _ c.new-items.ensures c.in-Ok-kept.ensures
      (expression_item c.in-Ok-expression.ensures.ok);
  labels = c.in-Ok-expression.ensures.labels;
  shorter = c.in-Ok-expression.ensures.shorter;
}

pub expressions::expressions-returns-in-Err-next-clause-err : goal.expressions::expressions-returns-in-Err-next-clause-err
expressions::expressions-returns-in-Err-next-clause-err t c = items_end _ _ (closes_expressions _ _ c.requires.closes) number tree _ _ _ _ _ c.loop-found.invariant.so_far _ c.in-Err-next.ensures.err

pub expressions::expressions-returns-then-same-2-clause-ok : goal.expressions::expressions-returns-then-same-2-clause-ok
expressions::expressions-returns-then-same-2-clause-ok t c =
    expressions_of (items_close _ _ (closes_expressions _ _ c.requires.closes) number tree _ _ _ _ _ c.loop-found.invariant.so_far _ _ _ _ c.in-Ok-next.ensures.ok (c.same-in-loop-found.ensures.0 c.if-same-2.true))

pub expressions::expressions-returns-then-not-same-clause-err : goal.expressions::expressions-returns-then-not-same-clause-err
expressions::expressions-returns-then-not-same-clause-err t c = items_other _ _ (closes_expressions _ _ c.requires.closes) number tree _ _ _ _ _ c.loop-found.invariant.so_far _ _ _ _ c.in-Ok-next.ensures.ok
    (iff_false c.same-in-loop-found.ensures c.if-same-2.false) (iff_false c.same-in-loop-found-2.ensures c.if-not-same.true)

pub expressions::expressions-returns-in-Err-expression-2-clause-err : goal.expressions::expressions-returns-in-Err-expression-2-clause-err
expressions::expressions-returns-in-Err-expression-2-clause-err t c = items_worse _ _ (closes_expressions _ _ c.requires.closes) number tree _ _ _ _ _ c.loop-found.invariant.so_far _ _ _ _ c.in-Ok-next.ensures.ok
    (c.same-in-loop-found-2.ensures.0 c.if-not-same.false) _ c.in-Err-expression-2.ensures.err

pub expressions::expressions-loop-found-preserved : goal.expressions::expressions-loop-found-preserved
expressions::expressions-loop-found-preserved t c = record {
  so_far = items_more _ _ (closes_expressions _ _ c.requires.closes) number tree _ _ _ _ _ c.loop-found.invariant.so_far _ _ _ _ c.in-Ok-next.ensures.ok (c.same-in-loop-found-2.ensures.0 c.if-not-same.false) _ _ _ _ c.in-Ok-kept-2.ensures
      (expression_item c.in-Ok-expression-2.ensures.ok);
  labels = omega (arith, c.loop-found.invariant.labels, c.in-Ok-next.ensures.lighter, c.in-Ok-expression-2.ensures.labels);
  shorter = omega (arith, c.loop-found.invariant.shorter, c.in-Ok-next.ensures.shorter, c.in-Ok-expression-2.ensures.shorter);
}

pub forms::fun_or_external-returns-in-Err-clause-err : goal.forms::fun_or_external-returns-in-Err-clause-err
forms::fun_or_external-returns-in-Err-clause-err t c = fun_end _ c.args.label _ _ _ _ _ c.requires.starts c.requires.shallow c.requires.sort _ c.in-Err.ensures.err

pub forms::fun-returns-in-Err-clause-err : goal.forms::fun-returns-in-Err-clause-err
forms::fun-returns-in-Err-clause-err t c = fun_1_bad _ c.args.label _ _ _ _ _ c.requires.starts c.requires.shallow c.requires.sort _ c.requires.bracket _ c.in-Err.ensures.err

pub forms::fun-returns-in-Err-take-clause-err : goal.forms::fun-returns-in-Err-take-clause-err
forms::fun-returns-in-Err-take-clause-err t c = fun_2_bad _ c.args.label _ _ _ _ _ c.requires.starts c.requires.shallow c.requires.sort _ c.requires.bracket _ _ c.in-Ok.ensures.ok _ c.in-Err-take.ensures.err

pub forms::fun-returns-in-Err-expression-clause-err : goal.forms::fun-returns-in-Err-expression-clause-err
forms::fun-returns-in-Err-expression-clause-err t c = fun_3_bad _ c.args.label _ _ _ _ _ c.requires.starts c.requires.shallow c.requires.sort _ c.requires.bracket _ _ c.in-Ok.ensures.ok _ c.in-Ok-take.ensures.ok _
    c.in-Err-expression.ensures.err

pub forms::fun-returns-in-Ok-function-clause-ok : goal.forms::fun-returns-in-Ok-function-clause-ok
forms::fun-returns-in-Ok-function-clause-ok t c = fun_ok _ c.args.label _ _ _ _ _ c.requires.starts c.requires.shallow c.requires.sort _ c.requires.bracket _ _ c.in-Ok.ensures.ok _ c.in-Ok-take.ensures.ok _ _ _ c.in-Ok-expression.ensures.ok
    _ c.mark-mark.ensures _ c.in-Ok-function.ensures

pub forms::tuple-returns-in-Err-clause-err : goal.forms::tuple-returns-in-Err-clause-err
forms::tuple-returns-in-Err-clause-err t c = tuple_0_bad _ c.args.label _ _ _ _ _ c.requires.starts c.requires.shallow c.requires.sort _ c.in-Err.ensures.err

pub forms::tuple-returns-in-Ok-tuple-clause-ok : goal.forms::tuple-returns-in-Ok-tuple-clause-ok
forms::tuple-returns-in-Ok-tuple-clause-ok t c = tuple_ok _ c.args.label _ _ _ _ _ c.requires.starts c.requires.shallow c.requires.sort _ _ _ c.in-Ok.ensures.ok _ c.mark-mark.ensures _ c.in-Ok-tuple.ensures

pub forms::values-returns-in-Err-clause-err : goal.forms::values-returns-in-Err-clause-err
forms::values-returns-in-Err-clause-err t c = values_0_bad _ c.args.label _ _ _ _ _ c.requires.starts c.requires.shallow c.requires.sort _ c.in-Err.ensures.err

pub forms::values-returns-in-Ok-values-clause-ok : goal.forms::values-returns-in-Ok-values-clause-ok
forms::values-returns-in-Ok-values-clause-ok t c = values_ok _ c.args.label _ _ _ _ _ c.requires.starts c.requires.shallow c.requires.sort _ _ _ c.in-Ok.ensures.ok _ c.mark-mark.ensures _ c.in-Ok-values.ensures

pub forms::letrec-returns-in-Err-clause-err : goal.forms::letrec-returns-in-Err-clause-err
forms::letrec-returns-in-Err-clause-err t c = letrec_0_bad _ c.args.label _ _ _ _ _ c.requires.starts c.requires.shallow c.requires.sort _ c.in-Err.ensures.err

pub forms::letrec-returns-in-Err-expression-clause-err : goal.forms::letrec-returns-in-Err-expression-clause-err
forms::letrec-returns-in-Err-expression-clause-err t c = letrec_1_bad _ c.args.label _ _ _ _ _ c.requires.starts c.requires.shallow c.requires.sort _ _ _ c.in-Ok.ensures.ok _ c.in-Err-expression.ensures.err

pub forms::letrec-returns-in-Ok-letrec-clause-ok : goal.forms::letrec-returns-in-Ok-letrec-clause-ok
forms::letrec-returns-in-Ok-letrec-clause-ok t c = letrec_ok _ c.args.label _ _ _ _ _ c.requires.starts c.requires.shallow c.requires.sort _ _ _ c.in-Ok.ensures.ok _ _ _ c.in-Ok-expression.ensures.ok _ c.mark-mark.ensures _
    c.in-Ok-letrec.ensures

pub forms::apply-returns-in-Err-clause-err : goal.forms::apply-returns-in-Err-clause-err
forms::apply-returns-in-Err-clause-err t c = apply_0_bad _ c.args.label _ _ _ _ _ c.requires.starts c.requires.shallow c.requires.sort _ c.in-Err.ensures.err

pub forms::apply-returns-in-Err-take-clause-err : goal.forms::apply-returns-in-Err-take-clause-err
forms::apply-returns-in-Err-take-clause-err t c = apply_1_bad _ c.args.label _ _ _ _ _ c.requires.starts c.requires.shallow c.requires.sort _ _ _ c.in-Ok.ensures.ok _ c.in-Err-take.ensures.err

pub forms::apply-returns-in-Err-expressions-clause-err : goal.forms::apply-returns-in-Err-expressions-clause-err
forms::apply-returns-in-Err-expressions-clause-err t c = apply_2_bad _ c.args.label _ _ _ _ _ c.requires.starts c.requires.shallow c.requires.sort _ _ _ c.in-Ok.ensures.ok _ c.in-Ok-take.ensures.ok _ c.in-Err-expressions.ensures.err

pub forms::apply-returns-in-Ok-apply-clause-ok : goal.forms::apply-returns-in-Ok-apply-clause-ok
forms::apply-returns-in-Ok-apply-clause-ok t c = apply_ok _ c.args.label _ _ _ _ _ c.requires.starts c.requires.shallow c.requires.sort _ _ _ c.in-Ok.ensures.ok _ c.in-Ok-take.ensures.ok _ _ _ c.in-Ok-expressions.ensures.ok _
    c.mark-mark.ensures _ c.in-Ok-apply.ensures

pub forms::call-returns-in-Err-clause-err : goal.forms::call-returns-in-Err-clause-err
forms::call-returns-in-Err-clause-err t c = call_0_bad _ c.args.label _ _ _ _ _ c.requires.starts c.requires.shallow c.requires.sort _ c.in-Err.ensures.err

pub forms::call-returns-in-Err-take-clause-err : goal.forms::call-returns-in-Err-take-clause-err
forms::call-returns-in-Err-take-clause-err t c = call_1_bad _ c.args.label _ _ _ _ _ c.requires.starts c.requires.shallow c.requires.sort _ _ _ c.in-Ok.ensures.ok _ c.in-Err-take.ensures.err

pub forms::call-returns-in-Err-expression-clause-err : goal.forms::call-returns-in-Err-expression-clause-err
forms::call-returns-in-Err-expression-clause-err t c = call_2_bad _ c.args.label _ _ _ _ _ c.requires.starts c.requires.shallow c.requires.sort _ _ _ c.in-Ok.ensures.ok _ c.in-Ok-take.ensures.ok _ c.in-Err-expression.ensures.err

pub forms::call-returns-in-Err-take-2-clause-err : goal.forms::call-returns-in-Err-take-2-clause-err
forms::call-returns-in-Err-take-2-clause-err t c = call_3_bad _ c.args.label _ _ _ _ _ c.requires.starts c.requires.shallow c.requires.sort _ _ _ c.in-Ok.ensures.ok _ c.in-Ok-take.ensures.ok _ _ _ c.in-Ok-expression.ensures.ok _
    c.in-Err-take-2.ensures.err

pub forms::call-returns-in-Err-expressions-clause-err : goal.forms::call-returns-in-Err-expressions-clause-err
forms::call-returns-in-Err-expressions-clause-err t c = call_4_bad _ c.args.label _ _ _ _ _ c.requires.starts c.requires.shallow c.requires.sort _ _ _ c.in-Ok.ensures.ok _ c.in-Ok-take.ensures.ok _ _ _ c.in-Ok-expression.ensures.ok _
    c.in-Ok-take-2.ensures.ok _ c.in-Err-expressions.ensures.err

pub forms::call-returns-in-Ok-call-clause-ok : goal.forms::call-returns-in-Ok-call-clause-ok
forms::call-returns-in-Ok-call-clause-ok t c = call_ok _ c.args.label _ _ _ _ _ c.requires.starts c.requires.shallow c.requires.sort _ _ _ c.in-Ok.ensures.ok _ c.in-Ok-take.ensures.ok _ _ _ c.in-Ok-expression.ensures.ok _
    c.in-Ok-take-2.ensures.ok _ _ _ c.in-Ok-expressions.ensures.ok _ c.mark-mark.ensures _ c.in-Ok-call.ensures

pub forms::primop-returns-in-Err-clause-err : goal.forms::primop-returns-in-Err-clause-err
forms::primop-returns-in-Err-clause-err t c = primop_0_bad _ c.args.label _ _ _ _ _ c.requires.starts c.requires.shallow c.requires.sort _ c.in-Err.ensures.err

pub forms::primop-returns-in-Err-take-clause-err : goal.forms::primop-returns-in-Err-take-clause-err
forms::primop-returns-in-Err-take-clause-err t c = primop_1_bad _ c.args.label _ _ _ _ _ c.requires.starts c.requires.shallow c.requires.sort _ _ _ c.in-Ok.ensures.ok _ c.in-Err-take.ensures.err

pub forms::primop-returns-in-Err-expressions-clause-err : goal.forms::primop-returns-in-Err-expressions-clause-err
forms::primop-returns-in-Err-expressions-clause-err t c = primop_2_bad _ c.args.label _ _ _ _ _ c.requires.starts c.requires.shallow c.requires.sort _ _ _ c.in-Ok.ensures.ok _ c.in-Ok-take.ensures.ok _ c.in-Err-expressions.ensures.err

pub forms::primop-returns-in-Ok-primop-clause-ok : goal.forms::primop-returns-in-Ok-primop-clause-ok
forms::primop-returns-in-Ok-primop-clause-ok t c = primop_ok _ c.args.label _ _ _ _ _ c.requires.starts c.requires.shallow c.requires.sort _ _ _ c.in-Ok.ensures.ok _ c.in-Ok-take.ensures.ok _ _ _ c.in-Ok-expressions.ensures.ok _
    c.mark-mark.ensures _ c.in-Ok-primop.ensures

pub maps::map-returns-in-Err-clause-err : goal.maps::map-returns-in-Err-clause-err
maps::map-returns-in-Err-clause-err t c = map_expression_bad _ c.args.label _ _ _ _ _ c.requires.starts c.requires.shallow c.requires.sort _ c.in-Err.ensures.err

pub maps::map-returns-in-Ok-new_map-clause-ok : goal.maps::map-returns-in-Ok-new_map-clause-ok
maps::map-returns-in-Ok-new_map-clause-ok t c = map_expression_new _ _ _ _ _ _ _ c.requires.starts c.requires.shallow c.requires.sort _ _ _ _ c.in-Ok.ensures.ok c.in_default.is _ c.mark-mark.ensures _ c.in-Ok-new_map.ensures

pub maps::map-returns-in-Ok-updated_map-clause-ok : goal.maps::map-returns-in-Ok-updated_map-clause-ok
maps::map-returns-in-Ok-updated_map-clause-ok t c = map_expression_updated _ _ _ _ _ _ _ c.requires.starts c.requires.shallow c.requires.sort _ _ _ _ c.in-Ok.ensures.ok _ c.in-Some.is _ c.mark-mark.ensures _ c.in-Ok-updated_map.ensures

pub maps::pairs-returns-in-Err-clause-err : goal.maps::pairs-returns-in-Err-clause-err
maps::pairs-returns-in-Err-clause-err t c = map_pairs_end _ c.args.label _ _ [] _ (map_pairs_begin _ _ _ _ refl) _ c.in-Err.ensures.err

pub maps::pairs-returns-then-same-clause-ok : goal.maps::pairs-returns-then-same-clause-ok
maps::pairs-returns-then-same-clause-ok t c = map_pairs_close _ _ _ _ _ _ (map_pairs_begin _ _ _ _ c.new-items.ensures) _ _ _ _ c.in-Ok.ensures.ok (c.same.ensures.0 c.if-same.true)

pub maps::pairs-returns-in-Ok-updated_by-clause-ok : goal.maps::pairs-returns-in-Ok-updated_by-clause-ok
maps::pairs-returns-in-Ok-updated_by-clause-ok t c = map_bar_done _ _ _ _ _ _ (map_pairs_begin _ _ _ _ c.new-none.ensures) _ _ _ _ c.in-Ok.ensures.ok
    (c.same-2.ensures.0 c.if-same-2.true) _ _ _ _ c.in-Ok-updated_by.ensures.items c.in-Ok-updated_by.ensures.ok

pub maps::pairs-returns-in-Err-updated_by-clause-err : goal.maps::pairs-returns-in-Err-updated_by-clause-err
maps::pairs-returns-in-Err-updated_by-clause-err t c = map_bar_refused _ c.args.label _ _ [] _ (map_pairs_begin _ _ _ _ refl) _ _ _ _ c.in-Ok.ensures.ok (c.same-2.ensures.0 c.if-same-2.true) _ c.in-Err-updated_by.ensures.err

pub maps::pairs-returns-in-Err-pair-clause-err : goal.maps::pairs-returns-in-Err-pair-clause-err
maps::pairs-returns-in-Err-pair-clause-err t c = map_pairs_bad _ c.args.label _ _ _ _
    (map_pairs_first _ _ _ _ [] refl _ _ _ c.in-Ok.ensures.ok (λ z. both_ways _ c.if-same.false (c.same.ensures.1 z)) (λ z. both_ways _ c.if-same-2.false (c.same-2.ensures.1 z))) _ c.in-Err-pair.ensures.err

pub maps::pairs-loop-found-init : goal.maps::pairs-loop-found-init
maps::pairs-loop-found-init t c = record {
  so_far = map_pairs_more _ _ _ _ _ _ (map_pairs_first _ _ _ _ _ c.new-empty.ensures _ _ _ c.in-Ok.ensures.ok (λ z. both_ways _ c.if-same.false (c.same.ensures.1 z)) (λ z. both_ways _ c.if-same-2.false (c.same-2.ensures.1 z))) _ _ _ _
      c.in-Ok-with_pair.ensures.2 (pair_kept c.in-Ok-with_pair.ensures.1 c.in-Ok-pair.ensures.ok);
  some = one_is_some _ _ _ c.in-Ok-with_pair.ensures.2;
  labels = c.in-Ok-pair.ensures.labels;
  shorter = omega (arith, c.in-Ok-pair.ensures.shorter);
}

pub maps::pairs-returns-in-Err-next-clause-err : goal.maps::pairs-returns-in-Err-next-clause-err
maps::pairs-returns-in-Err-next-clause-err t c = map_pairs_end _ _ _ _ _ _ c.loop-found.invariant.so_far _ c.in-Err-next.ensures.err

pub maps::pairs-returns-then-same-3-clause-ok : goal.maps::pairs-returns-then-same-3-clause-ok
maps::pairs-returns-then-same-3-clause-ok t c = map_pairs_close _ _ _ _ _ _ c.loop-found.invariant.so_far _ _ _ _ c.in-Ok-next.ensures.ok (c.same-in-loop-found.ensures.0 c.if-same-3.true)

pub maps::pairs-returns-in-Ok-updated_by-2-clause-ok : goal.maps::pairs-returns-in-Ok-updated_by-2-clause-ok
maps::pairs-returns-in-Ok-updated_by-2-clause-ok t c = map_bar_done _ _ _ _ _ _ c.loop-found.invariant.so_far _ _ _ _ c.in-Ok-next.ensures.ok
    (c.same-in-loop-found-2.ensures.0 c.if-same-4.true) _ _ _ _ c.in-Ok-updated_by-2.ensures.items c.in-Ok-updated_by-2.ensures.ok

pub maps::pairs-returns-in-Err-updated_by-2-clause-err : goal.maps::pairs-returns-in-Err-updated_by-2-clause-err
maps::pairs-returns-in-Err-updated_by-2-clause-err t c = map_bar_refused _ _ _ _ _ _ c.loop-found.invariant.so_far _ _ _ _ c.in-Ok-next.ensures.ok (c.same-in-loop-found-2.ensures.0 c.if-same-4.true) _ c.in-Err-updated_by-2.ensures.err

pub maps::pairs-returns-then-not-same-clause-err : goal.maps::pairs-returns-then-not-same-clause-err
maps::pairs-returns-then-not-same-clause-err t c = map_pairs_no_comma _ _ _ _ _ _ c.loop-found.invariant.so_far c.loop-found.invariant.some _ _ _ _ c.in-Ok-next.ensures.ok
    (λ z. both_ways _ c.if-same-3.false (c.same-in-loop-found.ensures.1 z)) (λ z. both_ways _ c.if-same-4.false (c.same-in-loop-found-2.ensures.1 z)) (λ z. both_ways _ c.if-not-same.true (c.same-in-loop-found-3.ensures.1 z))

pub maps::pairs-loop-found-preserved : goal.maps::pairs-loop-found-preserved
maps::pairs-loop-found-preserved t c = record {
  so_far = map_pairs_more _ _ _ _ _ _ (map_pairs_comma _ _ _ _ _ _ c.loop-found.invariant.so_far c.loop-found.invariant.some _ _ _ _ c.in-Ok-next.ensures.ok (c.same-in-loop-found-3.ensures.0 c.if-not-same.false)) _ _ _ _
      c.in-Ok-with_pair-2.ensures.2 (pair_kept c.in-Ok-with_pair-2.ensures.1 c.in-Ok-pair-2.ensures.ok);
  some = one_is_some _ _ _ c.in-Ok-with_pair-2.ensures.2;
  labels = omega (arith, c.loop-found.invariant.labels, c.in-Ok-next.ensures.lighter, c.in-Ok-pair-2.ensures.labels);
  shorter = omega (arith, c.loop-found.invariant.shorter, c.in-Ok-next.ensures.shorter, c.in-Ok-pair-2.ensures.shorter);
}

pub maps::pairs-returns-in-Err-pair-2-clause-err : goal.maps::pairs-returns-in-Err-pair-2-clause-err
maps::pairs-returns-in-Err-pair-2-clause-err t c = map_pairs_bad _ _ _ _ _ _ (map_pairs_comma _ _ _ _ _ _ c.loop-found.invariant.so_far c.loop-found.invariant.some _ _ _ _ c.in-Ok-next.ensures.ok
    (c.same-in-loop-found-3.ensures.0 c.if-not-same.false)) _ c.in-Err-pair-2.ensures.err

pub maps::updated_by-returns-in-Err-clause-err : goal.maps::updated_by-returns-in-Err-clause-err
maps::updated_by-returns-in-Err-clause-err t c = updated_bad _ c.args.label _ _ c.in-Err.ensures.err

pub maps::updated_by-returns-in-Ok-take-clause-ok : goal.maps::updated_by-returns-in-Ok-take-clause-ok
maps::updated_by-returns-in-Ok-take-clause-ok t c = record { made = _; behind = _; made_is = refl; reads = c.in-Ok.ensures.ok; closes = c.in-Ok-take.ensures.ok }

pub maps::updated_by-returns-in-Err-take-clause-err : goal.maps::updated_by-returns-in-Err-take-clause-err
maps::updated_by-returns-in-Err-take-clause-err t c = updated_lacks _ _ _ _ _ _ c.in-Ok.ensures.ok _ c.in-Err-take.ensures.err

pub maps::pair-returns-in-Err-clause-err : goal.maps::pair-returns-in-Err-clause-err
maps::pair-returns-in-Err-clause-err t c = map_pair_end _ _ _ c.in-Err.ensures.err

pub maps::pair-returns-in-Ok-bare_pair-clause-ok : goal.maps::pair-returns-in-Ok-bare_pair-clause-ok
maps::pair-returns-in-Ok-bare_pair-clause-ok t c = map_pair_bare_ok _ _ _ _ _ _ _ c.in-Ok.ensures.ok (λ z. both_ways _ c.if-not-same.true (c.same.ensures.1 z)) _ _ _ c.in-Ok-bare_pair.ensures.ok

pub maps::pair-returns-in-Err-bare_pair-clause-err : goal.maps::pair-returns-in-Err-bare_pair-clause-err
maps::pair-returns-in-Err-bare_pair-clause-err t c = map_pair_bare_bad _ c.args.label _ _ _ _ _ c.in-Ok.ensures.ok (λ z. both_ways _ c.if-not-same.true (c.same.ensures.1 z)) _ c.in-Err-bare_pair.ensures.err

pub maps::pair-returns-in-Err-next-clause-err : goal.maps::pair-returns-in-Err-next-clause-err
maps::pair-returns-in-Err-next-clause-err t c = map_pair_open_end _ c.args.label _ _ _ _ _ c.in-Ok.ensures.ok (c.same.ensures.0 c.if-not-same.false) _ c.in-Err-next.ensures.err

pub maps::pair-returns-in-Err-bare_pair-2-clause-err : goal.maps::pair-returns-in-Err-bare_pair-2-clause-err
maps::pair-returns-in-Err-bare_pair-2-clause-err t c = map_pair_second_bad _ c.args.label _ _ _ _ _ c.in-Ok.ensures.ok (c.same.ensures.0 c.if-not-same.false) _ _ _ _ c.in-Ok-next.ensures.ok
    (c.same-2.ensures.0 c.if-same.true) _ c.in-Err-bare_pair-2.ensures.err

pub maps::pair-returns-in-Ok-annotation-clause-ok : goal.maps::pair-returns-in-Ok-annotation-clause-ok
maps::pair-returns-in-Ok-annotation-clause-ok t c = map_pair_second_ok _ _ _ _ _ _ _ c.in-Ok.ensures.ok (c.same.ensures.0 c.if-not-same.false) _ _ _ _ c.in-Ok-next.ensures.ok
    (c.same-2.ensures.0 c.if-same.true) _ _ _ c.in-Ok-bare_pair-2.ensures.ok _ _ c.in-Ok-annotation.ensures.ok

pub maps::pair-returns-in-Err-annotation-clause-err : goal.maps::pair-returns-in-Err-annotation-clause-err
maps::pair-returns-in-Err-annotation-clause-err t c = map_pair_second_note_bad _ _ _ _ _ _ _ c.in-Ok.ensures.ok (c.same.ensures.0 c.if-not-same.false) _ _ _ _ c.in-Ok-next.ensures.ok
    (c.same-2.ensures.0 c.if-same.true) _ _ _ c.in-Ok-bare_pair-2.ensures.ok _ c.in-Err-annotation.ensures.err

pub maps::pair_in_brackets-returns-in-Err-clause-err : goal.maps::pair_in_brackets-returns-in-Err-clause-err
maps::pair_in_brackets-returns-in-Err-clause-err t c = map_pair_key_bad _ c.args.label _ _ _ _ _ c.requires.starts c.requires.sort c.requires.once _ c.in-Err.ensures.err

pub maps::pair_in_brackets-returns-in-Err-next-clause-err : goal.maps::pair_in_brackets-returns-in-Err-next-clause-err
maps::pair_in_brackets-returns-in-Err-next-clause-err t c = map_pair_key_end _ _ _ _ _ _ _ c.requires.starts c.requires.sort c.requires.once _ _ _ c.in-Ok.ensures.ok _ c.in-Err-next.ensures.err

pub maps::pair_in_brackets-returns-in-Ok-pair_of_key-clause-ok : goal.maps::pair_in_brackets-returns-in-Ok-pair_of_key-clause-ok
maps::pair_in_brackets-returns-in-Ok-pair_of_key-clause-ok t c = map_pair_noted_ok _ _ _ _ _ _ _ c.requires.starts c.requires.sort c.requires.once _ _ _ c.in-Ok.ensures.ok _ _ _ _ c.in-Ok-next.ensures.ok
    (c.same.ensures.0 c.if-same.true) _ _ c.in-Ok-annotated.ensures.ok.1 _ _ _ _ c.in-Ok-annotated.ensures.ok.2 c.in-Ok-pair_of_key.ensures.ok

pub maps::pair_in_brackets-returns-in-Err-pair_of_key-clause-err : goal.maps::pair_in_brackets-returns-in-Err-pair_of_key-clause-err
maps::pair_in_brackets-returns-in-Err-pair_of_key-clause-err t c = map_pair_noted_value_bad _ _ _ _ _ _ _ c.requires.starts c.requires.sort c.requires.once _ _ _ c.in-Ok.ensures.ok _ _ _ _ c.in-Ok-next.ensures.ok
    (c.same.ensures.0 c.if-same.true) _ _ c.in-Ok-annotated.ensures.ok.1 _ c.in-Err-pair_of_key.ensures.err

pub maps::pair_in_brackets-returns-in-Err-annotated-clause-err : goal.maps::pair_in_brackets-returns-in-Err-annotated-clause-err
maps::pair_in_brackets-returns-in-Err-annotated-clause-err t c = map_pair_key_note_bad _ _ _ _ _ _ _ c.requires.starts c.requires.sort c.requires.once _ _ _ c.in-Ok.ensures.ok _ _ _ _ c.in-Ok-next.ensures.ok
    (c.same.ensures.0 c.if-same.true) _ c.in-Err-annotated.ensures.err

pub maps::pair_in_brackets-returns-in-Err-value-clause-err : goal.maps::pair_in_brackets-returns-in-Err-value-clause-err
maps::pair_in_brackets-returns-in-Err-value-clause-err t c = map_pair_value_bad _ _ _ _ _ _ _ c.requires.starts c.requires.sort c.requires.once _ _ _ c.in-Ok.ensures.ok _ _ _ _ c.in-Ok-next.ensures.ok
    (λ z. both_ways _ c.if-same.false (c.same.ensures.1 z)) _ c.in-Err-value.ensures.err

pub maps::pair_in_brackets-returns-in-Ok-annotation-clause-ok : goal.maps::pair_in_brackets-returns-in-Ok-annotation-clause-ok
maps::pair_in_brackets-returns-in-Ok-annotation-clause-ok t c = map_pair_ok _ _ _ _ _ _ _ c.requires.starts c.requires.sort c.requires.once _ _ _ c.in-Ok.ensures.ok _ _ _ _ c.in-Ok-next.ensures.ok
    (λ z. both_ways _ c.if-same.false (c.same.ensures.1 z)) _ _ _ (pair_valued _ _ _ _ _ _ _ c.in-Ok-value.ensures.ok _ _ refl) _ _ c.in-Ok-annotation.ensures.ok

pub maps::pair_in_brackets-returns-in-Err-annotation-clause-err : goal.maps::pair_in_brackets-returns-in-Err-annotation-clause-err
maps::pair_in_brackets-returns-in-Err-annotation-clause-err t c = map_pair_note_bad _ _ _ _ _ _ _ c.requires.starts c.requires.sort c.requires.once _ _ _ c.in-Ok.ensures.ok _ _ _ _ c.in-Ok-next.ensures.ok
    (λ z. both_ways _ c.if-same.false (c.same.ensures.1 z)) _ _ _ (pair_valued _ _ _ _ _ _ _ c.in-Ok-value.ensures.ok _ _ refl) _ c.in-Err-annotation.ensures.err

pub maps::bare_pair-returns-in-Err-clause-err : goal.maps::bare_pair-returns-in-Err-clause-err
maps::bare_pair-returns-in-Err-clause-err t c = bare_map_pair_key_bad _ c.args.label _ _ c.in-Err.ensures.err

pub maps::bare_pair-returns-in-Err-pair_of_key-clause-err : goal.maps::bare_pair-returns-in-Err-pair_of_key-clause-err
maps::bare_pair-returns-in-Err-pair_of_key-clause-err t c = bare_map_pair_value_bad _ _ _ _ _ _ c.in-Ok.ensures.ok _ c.in-Err-pair_of_key.ensures.err

pub maps::bare_pair-returns-in-Ok-pair_of_key-clause-ok : goal.maps::bare_pair-returns-in-Ok-pair_of_key-clause-ok
maps::bare_pair-returns-in-Ok-pair_of_key-clause-ok t c = bare_map_pair_ok _ _ _ _ _ _ c.in-Ok.ensures.ok _ _ _ c.in-Ok-pair_of_key.ensures.ok

pub maps::pair_of_key-returns-in-Ok-clause-ok : goal.maps::pair_of_key-returns-in-Ok-clause-ok
maps::pair_of_key-returns-in-Ok-clause-ok t c = pair_carried _ _ _ _ _ _ _ c.in-Ok.ensures.ok _ _
    (pair_parts_are _ _ _ _ _ _ c.pair_read.ensures.exact c.pair_read.ensures.key c.pair_read.ensures.value) _ c.pair_read.ensures.rest _ c.pair_read.ensures.label

pub maps::value-returns-in-Err-clause-err : goal.maps::value-returns-in-Err-clause-err
maps::value-returns-in-Err-clause-err t c = key_value_end _ c.args.label _ _ c.in-Err.ensures.err

pub maps::value-returns-in_default-clause-err : goal.maps::value-returns-in_default-clause-err
maps::value-returns-in_default-clause-err t c = key_value_other _ c.args.label _ _ _ _ _ c.in-Ok.ensures.ok (sym c.exactness.ensures ∙ c.in_default.is)

pub maps::value-returns-in-Err-expression-clause-err : goal.maps::value-returns-in-Err-expression-clause-err
maps::value-returns-in-Err-expression-clause-err t c = key_value_bad _ c.args.label _ _ _ _ _ c.in-Ok.ensures.ok _ (sym c.exactness.ensures ∙ c.in-Some.is) _ c.in-Err-expression.ensures.err

pub maps::value-returns-in-Ok-expression-clause-ok : goal.maps::value-returns-in-Ok-expression-clause-ok
maps::value-returns-in-Ok-expression-clause-ok t c = key_value _ _ _ _ _ _ _ c.in-Ok.ensures.ok _ (sym c.exactness.ensures ∙ c.in-Some.is) _ _ _ c.in-Ok-expression.ensures.ok

pub pattern_binaries::binary_pattern-returns-in-Err-clause-err : goal.pattern_binaries::binary_pattern-returns-in-Err-clause-err
pattern_binaries::binary_pattern-returns-in-Err-clause-err t c = binary_pattern_bad _ c.args.label _ _ _ _ _ c.requires.starts c.requires.shallow c.requires.sort _ c.in-Err.ensures.err

pub pattern_binaries::binary_pattern-returns-in-Ok-binary-clause-ok : goal.pattern_binaries::binary_pattern-returns-in-Ok-binary-clause-ok
pattern_binaries::binary_pattern-returns-in-Ok-binary-clause-ok t c = binary_pattern_ok _ _ _ _ _ _ _ c.requires.starts c.requires.shallow c.requires.sort _ _ _ c.in-Ok.ensures.ok _
    (c.in-Ok-binary.ensures ∙ ap (λ k. m.binary_of k (all_pat_segments c.in-Ok.found.value)) c.mark-mark.ensures)

pub pattern_binaries::pattern_segments-returns-in-Err-clause-err : goal.pattern_binaries::pattern_segments-returns-in-Err-clause-err
pattern_binaries::pattern_segments-returns-in-Err-clause-err t c = items_nothing s.CloseBinary (pattern_segment _) (closes_pattern_segments _) number_pat_segment pat_segment_parts c.args.label _ _ c.in-Err.ensures.err

pub pattern_binaries::pattern_segments-returns-then-same-clause-ok : goal.pattern_binaries::pattern_segments-returns-then-same-clause-ok
pattern_binaries::pattern_segments-returns-then-same-clause-ok t c = pattern_segments_of
    (items_empty s.CloseBinary (pattern_segment _) (closes_pattern_segments _) number_pat_segment pat_segment_parts _ _ _ _ _ _ c.in-Ok.ensures.ok _ c.new-items.ensures (c.same.ensures.0 c.if-same.true))

pub pattern_binaries::pattern_segments-returns-in-Err-pattern_segment-clause-err : goal.pattern_binaries::pattern_segments-returns-in-Err-pattern_segment-clause-err
pattern_binaries::pattern_segments-returns-in-Err-pattern_segment-clause-err t c =
    items_bad s.CloseBinary (pattern_segment _) (closes_pattern_segments _) number_pat_segment pat_segment_parts c.args.label _ _ _ _ _ c.in-Ok.ensures.ok
    (λ z. both_ways _ c.if-same.false (c.same.ensures.1 z)) _ c.in-Err-pattern_segment.ensures.err

pub pattern_binaries::pattern_segments-loop-found-init : goal.pattern_binaries::pattern_segments-loop-found-init
pattern_binaries::pattern_segments-loop-found-init t c = record {
  so_far = items_first s.CloseBinary (pattern_segment _) (closes_pattern_segments _) number_pat_segment pat_segment_parts _ _ _ _ _ _ c.in-Ok.ensures.ok
      (λ z. both_ways _ c.if-same.false (c.same.ensures.1 z)) _ _ _ _ _ c.new-items.ensures c.in-Ok-kept.ensures (pattern_segment_item c.in-Ok-pattern_segment.ensures.ok);
  labels = c.in-Ok-pattern_segment.ensures.labels;
  shorter = omega (arith, c.in-Ok-pattern_segment.ensures.shorter);
}

pub pattern_binaries::pattern_segments-returns-in-Err-next-clause-err : goal.pattern_binaries::pattern_segments-returns-in-Err-next-clause-err
pattern_binaries::pattern_segments-returns-in-Err-next-clause-err t c = items_end _ _ (closes_pattern_segments _) _ _ _ _ _ _ _ c.loop-found.invariant.so_far _ c.in-Err-next.ensures.err

pub pattern_binaries::pattern_segments-returns-then-same-2-clause-ok : goal.pattern_binaries::pattern_segments-returns-then-same-2-clause-ok
pattern_binaries::pattern_segments-returns-then-same-2-clause-ok t c = pattern_segments_of
    (items_close _ _ (closes_pattern_segments _) _ _ _ _ _ _ _ c.loop-found.invariant.so_far _ _ _ _ c.in-Ok-next.ensures.ok (c.same-in-loop-found.ensures.0 c.if-same-2.true))

pub pattern_binaries::pattern_segments-returns-then-not-same-clause-err : goal.pattern_binaries::pattern_segments-returns-then-not-same-clause-err
pattern_binaries::pattern_segments-returns-then-not-same-clause-err t c = items_other _ _ (closes_pattern_segments _) _ _ _ _ _ _ _ c.loop-found.invariant.so_far _ _ _ _ c.in-Ok-next.ensures.ok
    (λ z. both_ways _ c.if-same-2.false (c.same-in-loop-found.ensures.1 z)) (λ z. both_ways _ c.if-not-same.true (c.same-in-loop-found-2.ensures.1 z))

pub pattern_binaries::pattern_segments-loop-found-preserved : goal.pattern_binaries::pattern_segments-loop-found-preserved
pattern_binaries::pattern_segments-loop-found-preserved t c = record {
  so_far = items_more _ _ (closes_pattern_segments _) _ _ _ _ _ _ _ c.loop-found.invariant.so_far _ _ _ _ c.in-Ok-next.ensures.ok (c.same-in-loop-found-2.ensures.0 c.if-not-same.false) _ _ _ _ c.in-Ok-kept-2.ensures
      (pattern_segment_item c.in-Ok-pattern_segment-2.ensures.ok);
  labels = omega (arith, c.loop-found.invariant.labels, c.in-Ok-next.ensures.lighter, c.in-Ok-pattern_segment-2.ensures.labels);
  shorter = omega (arith, c.loop-found.invariant.shorter, c.in-Ok-next.ensures.shorter, c.in-Ok-pattern_segment-2.ensures.shorter);
}

pub pattern_binaries::pattern_segments-returns-in-Err-pattern_segment-2-clause-err : goal.pattern_binaries::pattern_segments-returns-in-Err-pattern_segment-2-clause-err
pattern_binaries::pattern_segments-returns-in-Err-pattern_segment-2-clause-err t c =
    items_worse _ _ (closes_pattern_segments _) _ _ _ _ _ _ _ c.loop-found.invariant.so_far _ _ _ _ c.in-Ok-next.ensures.ok (c.same-in-loop-found-2.ensures.0 c.if-not-same.false) _ c.in-Err-pattern_segment-2.ensures.err

pub pattern_binaries::pattern_segment-returns-in-Err-clause-err : goal.pattern_binaries::pattern_segment-returns-in-Err-clause-err
pattern_binaries::pattern_segment-returns-in-Err-clause-err t c = pattern_segment_0_bad _ c.args.label _ _ c.in-Err.ensures.err

pub pattern_binaries::pattern_segment-returns-in-Err-pattern-clause-err : goal.pattern_binaries::pattern_segment-returns-in-Err-pattern-clause-err
pattern_binaries::pattern_segment-returns-in-Err-pattern-clause-err t c = pattern_segment_1_bad _ c.args.label _ _ c.in-Ok.ensures.ok _ c.in-Err-pattern.ensures.err

pub pattern_binaries::pattern_segment-returns-in-Err-take-clause-err : goal.pattern_binaries::pattern_segment-returns-in-Err-take-clause-err
pattern_binaries::pattern_segment-returns-in-Err-take-clause-err t c = pattern_segment_2_bad _ _ _ _ c.in-Ok.ensures.ok _ _ _ c.in-Ok-pattern.ensures.ok _ c.in-Err-take.ensures.err

pub pattern_binaries::pattern_segment-returns-in-Err-take-2-clause-err : goal.pattern_binaries::pattern_segment-returns-in-Err-take-2-clause-err
pattern_binaries::pattern_segment-returns-in-Err-take-2-clause-err t c = pattern_segment_3_bad _ _ _ _ c.in-Ok.ensures.ok _ _ _ c.in-Ok-pattern.ensures.ok _ c.in-Ok-take.ensures.ok _ c.in-Err-take-2.ensures.err

pub pattern_binaries::pattern_segment-returns-in-Err-expressions-clause-err : goal.pattern_binaries::pattern_segment-returns-in-Err-expressions-clause-err
pattern_binaries::pattern_segment-returns-in-Err-expressions-clause-err t c =
    pattern_segment_4_bad _ _ _ _ c.in-Ok.ensures.ok _ _ _ c.in-Ok-pattern.ensures.ok _ c.in-Ok-take.ensures.ok _ c.in-Ok-take-2.ensures.ok _ c.in-Err-expressions.ensures.err

pub pattern_binaries::pattern_segment-returns-in-Ok-pattern_segment-clause-ok : goal.pattern_binaries::pattern_segment-returns-in-Ok-pattern_segment-clause-ok
pattern_binaries::pattern_segment-returns-in-Ok-pattern_segment-clause-ok t c =
    pattern_segment_ok _ _ _ _ c.in-Ok.ensures.ok _ _ _ c.in-Ok-pattern.ensures.ok _ c.in-Ok-take.ensures.ok _ c.in-Ok-take-2.ensures.ok _ _ _ c.in-Ok-expressions.ensures.ok _ c.in-Ok-pattern_segment.ensures

pub pattern_brackets::in_brackets-returns-in-Err-clause-err : goal.pattern_brackets::in_brackets-returns-in-Err-clause-err
pattern_brackets::in_brackets-returns-in-Err-clause-err t c = brackets_end c.args.depth c.args.label c.args.first.place _ _ c.in-Err.ensures.err

pub pattern_brackets::in_brackets-returns-in-Err-variable_in_brackets-clause-err : goal.pattern_brackets::in_brackets-returns-in-Err-variable_in_brackets-clause-err
pattern_brackets::in_brackets-returns-in-Err-variable_in_brackets-clause-err t c = c.in-Err-variable_in_brackets.ensures.err

pub pattern_brackets::in_brackets-returns-in-Err-bare_pattern-clause-err : goal.pattern_brackets::in_brackets-returns-in-Err-bare_pattern-clause-err
pattern_brackets::in_brackets-returns-in-Err-bare_pattern-clause-err t c = brackets_bad c.args.depth c.args.label c.args.first.place _ _ _ _ _ c.in-Ok.ensures.ok (sort_differs _ _ c.if-same.ensures) _ c.in-Err-bare_pattern.ensures.err

pub pattern_brackets::in_brackets-returns-in-Ok-annotated_pattern-clause-ok : goal.pattern_brackets::in_brackets-returns-in-Ok-annotated_pattern-clause-ok
pattern_brackets::in_brackets-returns-in-Ok-annotated_pattern-clause-ok t c = brackets_noted _ _ _ _ _ _ _ _ c.in-Ok.ensures.ok
    (sort_differs _ _ c.if-same.ensures) _ _ _ c.in-Ok-bare_pattern.ensures.ok _ _ _ c.in-Ok-annotated_pattern.ensures.ok.2 c.in-Ok-annotated_pattern.ensures.ok.1

pub pattern_brackets::in_brackets-returns-in-Err-annotated_pattern-clause-err : goal.pattern_brackets::in_brackets-returns-in-Err-annotated_pattern-clause-err
pattern_brackets::in_brackets-returns-in-Err-annotated_pattern-clause-err t c = brackets_note_bad c.args.depth c.args.label c.args.first.place _ _ _ _ _ c.in-Ok.ensures.ok
    (sort_differs _ _ c.if-same.ensures) _ _ _ c.in-Ok-bare_pattern.ensures.ok _ c.in-Err-annotated_pattern.ensures.err

pub pattern_brackets::variable_in_brackets-returns-then-depth-gt-DEEPEST-clause-err : goal.pattern_brackets::variable_in_brackets-returns-then-depth-gt-DEEPEST-clause-err
pattern_brackets::variable_in_brackets-returns-then-depth-gt-DEEPEST-clause-err t c =
    brackets_deep c.args.depth c.args.label c.args.first.place _ _ _ _ _ c.requires.goes_on c.requires.variable (omega (arith, c.if-depth-gt-DEEPEST.true)) (omega (arith, c.requires.shallow))

pub pattern_brackets::variable_in_brackets-returns-in-Err-next-clause-err : goal.pattern_brackets::variable_in_brackets-returns-in-Err-next-clause-err
pattern_brackets::variable_in_brackets-returns-in-Err-next-clause-err t c = brackets_variable_end c.args.depth c.args.label c.args.first.place _ _ _ _ _ c.requires.goes_on c.requires.variable
    (omega (arith, c.if-depth-gt-DEEPEST.false)) _ c.in-Err-next.ensures.err

pub pattern_brackets::variable_in_brackets-returns-in-Err-named-clause-err : goal.pattern_brackets::variable_in_brackets-returns-in-Err-named-clause-err
pattern_brackets::variable_in_brackets-returns-in-Err-named-clause-err t c = brackets_alias_bad c.args.depth c.args.label c.args.first.place _ _ _ _ _ c.requires.goes_on c.requires.variable
    (omega (arith, c.if-depth-gt-DEEPEST.false)) _ _ _ _ c.in-Ok-next.ensures.ok (c.if-same.ensures.0 refl) _ c.in-Err-named.ensures.err

pub pattern_brackets::variable_in_brackets-returns-in-Ok-annotated_pattern-clause-ok : goal.pattern_brackets::variable_in_brackets-returns-in-Ok-annotated_pattern-clause-ok
pattern_brackets::variable_in_brackets-returns-in-Ok-annotated_pattern-clause-ok t c =
    brackets_alias_noted _ _ _ _ _ _ _ _ c.requires.goes_on c.requires.variable (omega (arith, c.if-depth-gt-DEEPEST.false)) _ _ _ _ c.in-Ok-next.ensures.ok (c.if-same.ensures.0 refl) _ _ _ _ _
    (c.mark-mark.ensures ∙ ap (mark _) c.requires.goes_on.place_is)
    (name_made _ _ _ _ _ _ c.in-Ok.ensures c.requires.goes_on.place_is c.no_note.ensures) c.in-Ok-named.ensures.ok _ _ _ c.in-Ok-annotated_pattern.ensures.ok.2 c.in-Ok-annotated_pattern.ensures.ok.1

pub pattern_brackets::variable_in_brackets-returns-in-Err-annotated_pattern-clause-err : goal.pattern_brackets::variable_in_brackets-returns-in-Err-annotated_pattern-clause-err
pattern_brackets::variable_in_brackets-returns-in-Err-annotated_pattern-clause-err t c =
    brackets_alias_note_bad c.args.depth c.args.label c.args.first.place _ _ _ _ _ c.requires.goes_on c.requires.variable (omega (arith, c.if-depth-gt-DEEPEST.false)) _ _ _ _ c.in-Ok-next.ensures.ok (c.if-same.ensures.0 refl) _ _ _ _ _
    (c.mark-mark.ensures ∙ ap (mark _) c.requires.goes_on.place_is)
    (name_made _ _ _ _ _ _ c.in-Ok.ensures c.requires.goes_on.place_is c.no_note.ensures) c.in-Ok-named.ensures.ok _ c.in-Err-annotated_pattern.ensures.err

pub pattern_brackets::variable_in_brackets-returns-in-Ok-noted_variable-clause-ok : goal.pattern_brackets::variable_in_brackets-returns-in-Ok-noted_variable-clause-ok
pattern_brackets::variable_in_brackets-returns-in-Ok-noted_variable-clause-ok t c =
    brackets_variable _ _ _ _ _ _ _ _ c.requires.goes_on c.requires.variable (omega (arith, c.if-depth-gt-DEEPEST.false)) _ _ _ _ c.in-Ok-next.ensures.ok (sort_differs _ _ c.if-same.ensures) _ _ _ _ c.in-Ok-noted_variable.ensures.ok

pub pattern_brackets::variable_in_brackets-returns-in-Err-noted_variable-clause-err : goal.pattern_brackets::variable_in_brackets-returns-in-Err-noted_variable-clause-err
pattern_brackets::variable_in_brackets-returns-in-Err-noted_variable-clause-err t c =
    brackets_variable_bad c.args.depth c.args.label c.args.first.place _ _ _ _ _ c.requires.goes_on c.requires.variable (omega (arith, c.if-depth-gt-DEEPEST.false)) _ _ _ _ c.in-Ok-next.ensures.ok
    (sort_differs _ _ c.if-same.ensures) _ c.in-Err-noted_variable.ensures.err

pub pattern_brackets::noted_variable-returns-in-Err-clause-err : goal.pattern_brackets::noted_variable-returns-in-Err-clause-err
pattern_brackets::noted_variable-returns-in-Err-clause-err t c = noted_variable_bad c.args.depth c.args.label c.args.first.place c.args.second.token.now c.args.second.rest.now _ c.in-Err.ensures.err

pub pattern_brackets::noted_variable-returns-in-Ok-variable-clause-ok : goal.pattern_brackets::noted_variable-returns-in-Ok-variable-clause-ok
pattern_brackets::noted_variable-returns-in-Ok-variable-clause-ok t c = noted_variable_last _ _ _ _ _ _ _ c.in-Ok.ensures.ok c.in_default.ensures.none _
    (binds_made _ _ _ _ _ c.in-Ok-variable.ensures (c.with_note-mark.ensures ∙ ap (marked _) (c.mark.ensures ∙ ap (mark _) c.requires.place)) c.requires.name)

pub pattern_brackets::noted_variable-returns-in-Ok-named-clause-ok : goal.pattern_brackets::noted_variable-returns-in-Ok-named-clause-ok
pattern_brackets::noted_variable-returns-in-Ok-named-clause-ok t c = noted_alias _ _ _ _ _ _ _ c.in-Ok.ensures.ok _ c.in-Some.ensures.found _ _ _ _ _ c.mark-2.ensures
    (name_made _ _ _ _ _ _ c.requires.name c.requires.place refl) c.in-Ok-named.ensures.ok

pub pattern_brackets::noted_variable-returns-in-Err-named-clause-err : goal.pattern_brackets::noted_variable-returns-in-Err-named-clause-err
pattern_brackets::noted_variable-returns-in-Err-named-clause-err t c =
    noted_alias_bad c.args.depth c.args.label c.args.first.place c.args.second.token.now c.args.second.rest.now _ _ c.in-Ok.ensures.ok _ c.in-Some.ensures.found _ c.in-Err-named.ensures.err

pub pattern_brackets::named-returns-in-Ok-alias-clause-ok : goal.pattern_brackets::named-returns-in-Ok-alias-clause-ok
pattern_brackets::named-returns-in-Ok-alias-clause-ok t c = named_read _ _ _ _ _ _ _ _ _ c.in-Ok.ensures.ok c.in-Ok-alias.ensures

pub pattern_brackets::noted_alias-returns-in-Err-clause-err : goal.pattern_brackets::noted_alias-returns-in-Err-clause-err
pattern_brackets::noted_alias-returns-in-Err-clause-err t c = bare_open_end _ c.args.label _ _ _ _ _ c.requires.starts c.requires.sort _ c.in-Err.ensures.err

pub pattern_brackets::noted_alias-returns-then-not-same-clause-err : goal.pattern_brackets::noted_alias-returns-then-not-same-clause-err
pattern_brackets::noted_alias-returns-then-not-same-clause-err t c = bare_open_other _ c.args.label _ _ _ _ _ c.requires.starts c.requires.sort _ _ _ _ c.in-Ok.ensures.ok (sort_differs _ _ c.if-not-same.ensures)

pub pattern_brackets::noted_alias-returns-then-depth-gt-DEEPEST-clause-err : goal.pattern_brackets::noted_alias-returns-then-depth-gt-DEEPEST-clause-err
pattern_brackets::noted_alias-returns-then-depth-gt-DEEPEST-clause-err t c = bare_open_deep _ c.args.label _ _ _ _ _ c.requires.starts c.requires.sort _ _ _ _ c.in-Ok.ensures.ok (c.if-not-same.ensures.0 refl)
    (omega (arith, c.if-depth-gt-DEEPEST.true)) (omega (arith, c.requires.shallow))

pub pattern_brackets::noted_alias-returns-in-Err-annotation-clause-err : goal.pattern_brackets::noted_alias-returns-in-Err-annotation-clause-err
pattern_brackets::noted_alias-returns-in-Err-annotation-clause-err t c = bare_note_bad _ c.args.label _ _ _ _ _ c.requires.starts c.requires.sort _ _ _ _ c.in-Ok.ensures.ok (c.if-not-same.ensures.0 refl)
    (omega (arith, c.if-depth-gt-DEEPEST.false)) _ c.in-Err-annotation.ensures.err

pub pattern_brackets::noted_alias-returns-in-Err-take-clause-err : goal.pattern_brackets::noted_alias-returns-in-Err-take-clause-err
pattern_brackets::noted_alias-returns-in-Err-take-clause-err t c = bare_equals_bad _ c.args.label _ _ _ _ _ c.requires.starts c.requires.sort _ _ _ _ c.in-Ok.ensures.ok (c.if-not-same.ensures.0 refl)
    (omega (arith, c.if-depth-gt-DEEPEST.false)) _ _ c.in-Ok-annotation.ensures.ok _ c.in-Err-take.ensures.err

pub pattern_brackets::noted_alias-returns-in-Ok-named-clause-ok : goal.pattern_brackets::noted_alias-returns-in-Ok-named-clause-ok
pattern_brackets::noted_alias-returns-in-Ok-named-clause-ok t c = bare_named _ _ _ _ _ _ _ c.requires.starts c.requires.sort _ _ _ _ c.in-Ok.ensures.ok (c.if-not-same.ensures.0 refl)
    (omega (arith, c.if-depth-gt-DEEPEST.false)) _ _ c.in-Ok-annotation.ensures.ok _ c.in-Ok-take.ensures.ok _ _ _ _ _ c.mark.ensures (name_made _ _ _ _ _ _ c.in-Ok-text_of.ensures refl refl) c.in-Ok-named.ensures.ok

pub pattern_brackets::noted_alias-returns-in-Err-named-clause-err : goal.pattern_brackets::noted_alias-returns-in-Err-named-clause-err
pattern_brackets::noted_alias-returns-in-Err-named-clause-err t c = bare_named_bad _ c.args.label _ _ _ _ _ c.requires.starts c.requires.sort _ _ _ _ c.in-Ok.ensures.ok (c.if-not-same.ensures.0 refl)
    (omega (arith, c.if-depth-gt-DEEPEST.false)) _ _ c.in-Ok-annotation.ensures.ok _ c.in-Ok-take.ensures.ok _ c.in-Err-named.ensures.err

pub pattern_lists::pattern_list-returns-in-Err-clause-err : goal.pattern_lists::pattern_list-returns-in-Err-clause-err
pattern_lists::pattern_list-returns-in-Err-clause-err t c = pattern_list_open_end _ c.args.label _ _ _ _ _ c.requires.starts c.requires.sort c.requires.shallow _ c.in-Err.ensures.err

pub pattern_lists::pattern_list-returns-in-Ok-nil-clause-ok : goal.pattern_lists::pattern_list-returns-in-Ok-nil-clause-ok
pattern_lists::pattern_list-returns-in-Ok-nil-clause-ok t c = pattern_list_nil _ _ _ _ _ _ _ c.requires.starts c.requires.sort c.requires.shallow _ _ _ _ c.in-Ok.ensures.ok (c.same.ensures.0 c.if-same.true) _ c.in-Ok-nil.ensures

pub pattern_lists::pattern_list-returns-in-Err-take-clause-err : goal.pattern_lists::pattern_list-returns-in-Err-take-clause-err
pattern_lists::pattern_list-returns-in-Err-take-clause-err t c = pattern_list_unclosed _ _ _ _ _ _ _ _ _ (omega (arith, c.loop-pending-test.true)) c.loop-pending.invariant.so_far _ c.in-Err-take.ensures.err

pub pattern_lists::pattern_list-loop-pending-preserved : goal.pattern_lists::pattern_list-loop-pending-preserved
pattern_lists::pattern_list-loop-pending-preserved t c = record {
  so_far = pattern_list_closes _ _ _ _ _ _ _ _ _ _ (omega (arith, c.loop-pending-test.true)) c.loop-pending.invariant.so_far _ c.in-Ok-take.ensures.ok;
  shorter = omega (arith, c.loop-pending.invariant.shorter, c.in-Ok-take.ensures.shorter);
  labels = omega (arith, c.loop-pending.invariant.labels, c.in-Ok-take.ensures.lighter);
}

pub pattern_lists::pattern_list-returns-in-Ok-listed-clause-ok : goal.pattern_lists::pattern_list-returns-in-Ok-listed-clause-ok
pattern_lists::pattern_list-returns-in-Ok-listed-clause-ok t c = pattern_list_done _ _ _ _ _ _ _ _ _ (omega (arith, c.loop-pending-test.false)) c.loop-pending.invariant.so_far _ _ c.mark.ensures c.in-Ok-listed.ensures

pub pattern_lists::pattern_elements-returns-in-Err-clause-err : goal.pattern_lists::pattern_elements-returns-in-Err-clause-err
pattern_lists::pattern_elements-returns-in-Err-clause-err t c = pattern_list_first_bad _ c.args.label _ _ _ _ _ c.requires.starts c.requires.sort c.requires.shallow _ _ _ _ c.requires.goes_on c.requires.some _ c.in-Err.ensures.err

pub pattern_lists::pattern_elements-loop-found-init : goal.pattern_lists::pattern_elements-loop-found-init
pattern_lists::pattern_elements-loop-found-init t c = record {
  so_far = pattern_list_first_item _ _ _ _ _ _ _ c.requires.starts c.requires.sort c.requires.shallow _ _ _ _ c.requires.goes_on c.requires.some _ _ _ _ _ c.new-items.ensures c.if-not-pushed.ensures.added c.in-Ok.ensures.ok;
  shallow = c.in-Ok.ensures.shallow;
  shorter = omega (arith, c.requires.shorter, c.in-Ok.ensures.shorter);
  labels = omega (arith, c.requires.lighter, c.in-Ok.ensures.labels);
}

pub pattern_lists::pattern_elements-returns-in-Err-next-clause-err : goal.pattern_lists::pattern_elements-returns-in-Err-next-clause-err
pattern_lists::pattern_elements-returns-in-Err-next-clause-err t c = pattern_list_end _ _ _ _ _ _ _ _ c.loop-found.invariant.so_far _ c.in-Err-next.ensures.err

pub pattern_lists::pattern_elements-returns-in-Ok-nil-clause-ok : goal.pattern_lists::pattern_elements-returns-in-Ok-nil-clause-ok
pattern_lists::pattern_elements-returns-in-Ok-nil-clause-ok t c = pattern_list_shut _ _ _ _ _ _ _ _ c.loop-found.invariant.so_far _ _ _ _ c.in-Ok-next.ensures.ok (c.same.ensures.0 c.if-same.true) _ c.in-Ok-nil.ensures

pub pattern_lists::pattern_elements-returns-in-Ok-nil-clause-labels : goal.pattern_lists::pattern_elements-returns-in-Ok-nil-clause-labels
pattern_lists::pattern_elements-returns-in-Ok-nil-clause-labels t c = omega (arith, c.loop-found.invariant.labels, c.in-Ok-next.ensures.lighter, two_at_least c.in-Ok-next.found.token.now.kind)

pub pattern_lists::pattern_elements-returns-in-Err-pattern-clause-err : goal.pattern_lists::pattern_elements-returns-in-Err-pattern-clause-err
pattern_lists::pattern_elements-returns-in-Err-pattern-clause-err t c = pattern_list_comma_bad _ _ _ _ _ _ _ _ c.loop-found.invariant.so_far _ _ _ _ c.in-Ok-next.ensures.ok
    (c.same-in-loop-found.ensures.0 c.if-same-2.true) _ c.in-Err-pattern.ensures.err

pub pattern_lists::pattern_elements-loop-found-preserved-then-same-2 : goal.pattern_lists::pattern_elements-loop-found-preserved-then-same-2
pattern_lists::pattern_elements-loop-found-preserved-then-same-2 t c = record {
  so_far = pattern_list_item _ _ _ _ _ _ _ _ c.loop-found.invariant.so_far _ _ _ _ c.in-Ok-next.ensures.ok (c.same-in-loop-found.ensures.0 c.if-same-2.true) _ _ _ _ c.if-not-pushed-2.ensures.added c.in-Ok-pattern.ensures.ok;
  shallow = c.loop-found.invariant.shallow;
  shorter = omega (arith, c.loop-found.invariant.shorter, c.in-Ok-next.ensures.shorter, c.in-Ok-pattern.ensures.shorter);
  labels = omega (arith, c.loop-found.invariant.labels, c.in-Ok-next.ensures.lighter, c.in-Ok-pattern.ensures.labels);
}

pub pattern_lists::pattern_elements-returns-then-not-same-clause-err : goal.pattern_lists::pattern_elements-returns-then-not-same-clause-err
pattern_lists::pattern_elements-returns-then-not-same-clause-err t c = pattern_list_stuck _ _ _ _ _ _ _ _ c.loop-found.invariant.so_far _ _ _ _ c.in-Ok-next.ensures.ok (not_this_sort c.if-same.false c.same.ensures)
    (not_this_sort c.if-same-2.false c.same-in-loop-found.ensures) (not_this_sort c.if-not-same.true c.same-in-loop-found-2.ensures)

pub pattern_lists::pattern_elements-returns-in-Err-next-2-clause-err : goal.pattern_lists::pattern_elements-returns-in-Err-next-2-clause-err
pattern_lists::pattern_elements-returns-in-Err-next-2-clause-err t c = pattern_list_bar_end _ _ _ _ _ _ _ _ c.loop-found.invariant.so_far _ _ _ _ c.in-Ok-next.ensures.ok
    (c.same-in-loop-found-2.ensures.0 c.if-not-same.false) _ c.in-Err-next-2.ensures.err

pub pattern_lists::pattern_elements-returns-in-Ok-in_brackets-clause-ok : goal.pattern_lists::pattern_elements-returns-in-Ok-in_brackets-clause-ok
pattern_lists::pattern_elements-returns-in-Ok-in_brackets-clause-ok t c = pattern_list_round _ _ _ _ _ _ _ _ c.loop-found.invariant.so_far _ _ _ _ c.in-Ok-next.ensures.ok
    (c.same-in-loop-found-2.ensures.0 c.if-not-same.false) _ _ _ _ c.in-Ok-next-2.ensures.ok (c.same-in-loop-found-3.ensures.0 c.if-same-3.true) _ _ _ _ c.in-Ok-in_brackets.ensures.ok

pub pattern_lists::pattern_elements-returns-in-Err-in_brackets-clause-err : goal.pattern_lists::pattern_elements-returns-in-Err-in_brackets-clause-err
pattern_lists::pattern_elements-returns-in-Err-in_brackets-clause-err t c = pattern_list_round_bad _ _ _ _ _ _ _ _ c.loop-found.invariant.so_far _ _ _ _ c.in-Ok-next.ensures.ok
    (c.same-in-loop-found-2.ensures.0 c.if-not-same.false) _ _ _ _ c.in-Ok-next-2.ensures.ok (c.same-in-loop-found-3.ensures.0 c.if-same-3.true) _ c.in-Err-in_brackets.ensures.err

pub pattern_lists::pattern_elements-push_byte_patterns-requires : goal.pattern_lists::pattern_elements-push_byte_patterns-requires
pattern_lists::pattern_elements-push_byte_patterns-requires t c = omega (
  arith,
  c.requires.labels,
  c.loop-found.invariant.labels,
  c.in-Ok-next.ensures.lighter,
  c.in-Ok-next-2.ensures.lighter,
  string_weight _ _ _ _ _ c.in-Ok-next-2.ensures.ok (c.same-in-loop-found-4.ensures.0 c.if-same-4.true),
)

pub pattern_lists::pattern_elements-returns-in-Ok-nil-2-clause-ok : goal.pattern_lists::pattern_elements-returns-in-Ok-nil-2-clause-ok
pattern_lists::pattern_elements-returns-in-Ok-nil-2-clause-ok t c = pattern_list_string _ _ _ _ _ _ _ _ c.loop-found.invariant.so_far _ _ _ _ c.in-Ok-next.ensures.ok
    (c.same-in-loop-found-2.ensures.0 c.if-not-same.false) _ _ _ _ c.in-Ok-next-2.ensures.ok
    (c.same-in-loop-found-4.ensures.0 c.if-same-4.true) c.loop-found.invariant.shallow _ _ _ c.in-Ok-push_byte_patterns.ensures.added c.in-Ok-push_byte_patterns.ensures.next c.in-Ok-nil-2.ensures

pub pattern_lists::pattern_elements-returns-in-Ok-nil-2-clause-labels : goal.pattern_lists::pattern_elements-returns-in-Ok-nil-2-clause-labels
pattern_lists::pattern_elements-returns-in-Ok-nil-2-clause-labels t c = omega (
  arith,
  c.loop-found.invariant.labels,
  c.in-Ok-next.ensures.lighter,
  c.in-Ok-push_byte_patterns.ensures.next,
  string_weight _ _ _ _ _ c.in-Ok-next-2.ensures.ok (c.same-in-loop-found-4.ensures.0 c.if-same-4.true),
)

pub pattern_lists::pattern_elements-returns-in-Ok-other_pattern-clause-ok : goal.pattern_lists::pattern_elements-returns-in-Ok-other_pattern-clause-ok
pattern_lists::pattern_elements-returns-in-Ok-other_pattern-clause-ok t c = pattern_list_tail _ _ _ _ _ _ _ _ c.loop-found.invariant.so_far _ _ _ _ c.in-Ok-next.ensures.ok
    (c.same-in-loop-found-2.ensures.0 c.if-not-same.false) _ _ _ _ c.in-Ok-next-2.ensures.ok (not_this_sort c.if-same-4.false c.same-in-loop-found-4.ensures) (not_this_sort c.if-not-same-2.true c.same-in-loop-found-5.ensures)
    (not_this_sort c.if-same-3.false c.same-in-loop-found-3.ensures) _ _ _ c.in-Ok-other_pattern.ensures.ok

pub pattern_lists::pattern_elements-returns-in-Err-other_pattern-clause-err : goal.pattern_lists::pattern_elements-returns-in-Err-other_pattern-clause-err
pattern_lists::pattern_elements-returns-in-Err-other_pattern-clause-err t c = pattern_list_tail_bad _ _ _ _ _ _ _ _ c.loop-found.invariant.so_far _ _ _ _ c.in-Ok-next.ensures.ok
    (c.same-in-loop-found-2.ensures.0 c.if-not-same.false) _ _ _ _ c.in-Ok-next-2.ensures.ok (not_this_sort c.if-same-4.false c.same-in-loop-found-4.ensures) (not_this_sort c.if-not-same-2.true c.same-in-loop-found-5.ensures)
    (not_this_sort c.if-same-3.false c.same-in-loop-found-3.ensures) _ c.in-Err-other_pattern.ensures.err

pub pattern_lists::pattern_elements-returns-in-Err-next-3-clause-err : goal.pattern_lists::pattern_elements-returns-in-Err-next-3-clause-err
pattern_lists::pattern_elements-returns-in-Err-next-3-clause-err t c = pattern_list_inner_end _ _ _ _ _ _ _ _ c.loop-found.invariant.so_far _ _ _ _ c.in-Ok-next.ensures.ok
    (c.same-in-loop-found-2.ensures.0 c.if-not-same.false) _ _ _ _ c.in-Ok-next-2.ensures.ok (c.same-in-loop-found-5.ensures.0 c.if-not-same-2.false) c.loop-found.invariant.shallow _ c.in-Err-next-3.ensures.err

pub pattern_lists::pattern_elements-returns-in-Ok-nil-3-clause-ok : goal.pattern_lists::pattern_elements-returns-in-Ok-nil-3-clause-ok
pattern_lists::pattern_elements-returns-in-Ok-nil-3-clause-ok t c = pattern_list_tail_nil _ _ _ _ _ _ _ _ c.loop-found.invariant.so_far _ _ _ _ c.in-Ok-next.ensures.ok
    (c.same-in-loop-found-2.ensures.0 c.if-not-same.false) _ _ _ _ c.in-Ok-next-2.ensures.ok (c.same-in-loop-found-5.ensures.0 c.if-not-same-2.false) c.loop-found.invariant.shallow _ _ _ _ c.in-Ok-next-3.ensures.ok
    (c.same-in-loop-found-6.ensures.0 c.if-same-5.true) _ c.in-Ok-nil-3.ensures

pub pattern_lists::pattern_elements-returns-in-Ok-nil-3-clause-labels : goal.pattern_lists::pattern_elements-returns-in-Ok-nil-3-clause-labels
pattern_lists::pattern_elements-returns-in-Ok-nil-3-clause-labels t c = omega (
  arith,
  c.loop-found.invariant.labels,
  c.in-Ok-next.ensures.lighter,
  c.in-Ok-next-2.ensures.lighter,
  c.in-Ok-next-3.ensures.lighter,
  two_at_least c.in-Ok-next.found.token.now.kind,
)

pub pattern_lists::pattern_elements-loop-found-preserved : goal.pattern_lists::pattern_elements-loop-found-preserved
pattern_lists::pattern_elements-loop-found-preserved t c = record {
  so_far = pattern_list_merge _ _ _ _ _ _ _ _ c.loop-found.invariant.so_far _ _ _ _ c.in-Ok-next.ensures.ok (c.same-in-loop-found-2.ensures.0 c.if-not-same.false) _ _ _ _ c.in-Ok-next-2.ensures.ok
      (c.same-in-loop-found-5.ensures.0 c.if-not-same-2.false) c.loop-found.invariant.shallow _ _ _ _ c.in-Ok-next-3.ensures.ok
      (not_this_sort c.if-same-5.false c.same-in-loop-found-6.ensures) _ _ _ _ c.if-not-pushed-3.ensures.added c.in-Ok-pattern-2.ensures.ok;
  shallow = c.loop-found.invariant.shallow;
  shorter = omega (arith, c.loop-found.invariant.shorter, c.in-Ok-next.ensures.shorter, c.in-Ok-next-2.ensures.shorter, c.in-Ok-pattern-2.ensures.shorter);
  labels = omega (arith, c.loop-found.invariant.labels, c.in-Ok-next.ensures.lighter, c.in-Ok-next-2.ensures.lighter, c.in-Ok-pattern-2.ensures.labels);
}

pub pattern_lists::pattern_elements-returns-in-Err-pattern-2-clause-err : goal.pattern_lists::pattern_elements-returns-in-Err-pattern-2-clause-err
pattern_lists::pattern_elements-returns-in-Err-pattern-2-clause-err t c = pattern_list_merge_bad _ _ _ _ _ _ _ _ c.loop-found.invariant.so_far _ _ _ _ c.in-Ok-next.ensures.ok
    (c.same-in-loop-found-2.ensures.0 c.if-not-same.false) _ _ _ _ c.in-Ok-next-2.ensures.ok (c.same-in-loop-found-5.ensures.0 c.if-not-same-2.false) c.loop-found.invariant.shallow _ _ _ _ c.in-Ok-next-3.ensures.ok
    (not_this_sort c.if-same-5.false c.same-in-loop-found-6.ensures) _ c.in-Err-pattern-2.ensures.err

pub pattern_maps::map_pattern-returns-in-Err-clause-err : goal.pattern_maps::map_pattern-returns-in-Err-clause-err
pattern_maps::map_pattern-returns-in-Err-clause-err t c = map_pattern_bad _ c.args.label _ _ _ _ _ c.requires.starts c.requires.shallow c.requires.sort _ c.in-Err.ensures.err

pub pattern_maps::map_pattern-returns-in-Ok-map-clause-ok : goal.pattern_maps::map_pattern-returns-in-Ok-map-clause-ok
pattern_maps::map_pattern-returns-in-Ok-map-clause-ok t c = map_pattern_ok _ _ _ _ _ _ _ c.requires.starts c.requires.shallow c.requires.sort _ _ _ c.in-Ok.ensures.ok _
    (c.in-Ok-map.ensures ∙ ap (λ k. m.map_of k (all_pat_pairs c.in-Ok.found.value)) c.mark-mark.ensures)

pub pattern_maps::pattern_pairs-returns-in-Err-clause-err : goal.pattern_maps::pattern_pairs-returns-in-Err-clause-err
pattern_maps::pattern_pairs-returns-in-Err-clause-err t c = items_nothing s.CloseMap (pattern_pair _) (closes_pattern_pairs _) number_pat_pair pat_pair_parts c.args.label _ _ c.in-Err.ensures.err

pub pattern_maps::pattern_pairs-returns-then-same-clause-ok : goal.pattern_maps::pattern_pairs-returns-then-same-clause-ok
pattern_maps::pattern_pairs-returns-then-same-clause-ok t c =
    pattern_pairs_of (items_empty s.CloseMap (pattern_pair _) (closes_pattern_pairs _) number_pat_pair pat_pair_parts _ _ _ _ _ _ c.in-Ok.ensures.ok _ c.new-items.ensures (c.same.ensures.0 c.if-same.true))

pub pattern_maps::pattern_pairs-returns-in-Err-pattern_pair-clause-err : goal.pattern_maps::pattern_pairs-returns-in-Err-pattern_pair-clause-err
pattern_maps::pattern_pairs-returns-in-Err-pattern_pair-clause-err t c = items_bad s.CloseMap (pattern_pair _) (closes_pattern_pairs _) number_pat_pair pat_pair_parts c.args.label _ _ _ _ _ c.in-Ok.ensures.ok
    (λ z. both_ways _ c.if-same.false (c.same.ensures.1 z)) _ c.in-Err-pattern_pair.ensures.err

pub pattern_maps::pattern_pairs-loop-found-init : goal.pattern_maps::pattern_pairs-loop-found-init
pattern_maps::pattern_pairs-loop-found-init t c = record {
  so_far = items_first s.CloseMap (pattern_pair _) (closes_pattern_pairs _) number_pat_pair pat_pair_parts _ _ _ _ _ _ c.in-Ok.ensures.ok
      (λ z. both_ways _ c.if-same.false (c.same.ensures.1 z)) _ _ _ _ _ c.new-items.ensures c.in-Ok-with_pattern_pair.ensures.2 (pattern_pair_item (pattern_pair_kept c.in-Ok-with_pattern_pair.ensures.1 c.in-Ok-pattern_pair.ensures.ok));
  labels = c.in-Ok-pattern_pair.ensures.labels;
  shorter = omega (arith, c.in-Ok-pattern_pair.ensures.shorter);
}

pub pattern_maps::pattern_pairs-returns-in-Err-next-clause-err : goal.pattern_maps::pattern_pairs-returns-in-Err-next-clause-err
pattern_maps::pattern_pairs-returns-in-Err-next-clause-err t c = items_end _ _ (closes_pattern_pairs _) _ _ _ _ _ _ _ c.loop-found.invariant.so_far _ c.in-Err-next.ensures.err

pub pattern_maps::pattern_pairs-returns-then-same-2-clause-ok : goal.pattern_maps::pattern_pairs-returns-then-same-2-clause-ok
pattern_maps::pattern_pairs-returns-then-same-2-clause-ok t c = pattern_pairs_of
    (items_close _ _ (closes_pattern_pairs _) _ _ _ _ _ _ _ c.loop-found.invariant.so_far _ _ _ _ c.in-Ok-next.ensures.ok (c.same-in-loop-found.ensures.0 c.if-same-2.true))

pub pattern_maps::pattern_pairs-returns-then-not-same-clause-err : goal.pattern_maps::pattern_pairs-returns-then-not-same-clause-err
pattern_maps::pattern_pairs-returns-then-not-same-clause-err t c = items_other _ _ (closes_pattern_pairs _) _ _ _ _ _ _ _ c.loop-found.invariant.so_far _ _ _ _ c.in-Ok-next.ensures.ok
    (λ z. both_ways _ c.if-same-2.false (c.same-in-loop-found.ensures.1 z)) (λ z. both_ways _ c.if-not-same.true (c.same-in-loop-found-2.ensures.1 z))

pub pattern_maps::pattern_pairs-loop-found-preserved : goal.pattern_maps::pattern_pairs-loop-found-preserved
pattern_maps::pattern_pairs-loop-found-preserved t c = record {
  so_far = items_more _ _ (closes_pattern_pairs _) _ _ _ _ _ _ _ c.loop-found.invariant.so_far _ _ _ _ c.in-Ok-next.ensures.ok (c.same-in-loop-found-2.ensures.0 c.if-not-same.false) _ _ _ _ c.in-Ok-with_pattern_pair-2.ensures.2
      (pattern_pair_item (pattern_pair_kept c.in-Ok-with_pattern_pair-2.ensures.1 c.in-Ok-pattern_pair-2.ensures.ok));
  labels = omega (arith, c.loop-found.invariant.labels, c.in-Ok-next.ensures.lighter, c.in-Ok-pattern_pair-2.ensures.labels);
  shorter = omega (arith, c.loop-found.invariant.shorter, c.in-Ok-next.ensures.shorter, c.in-Ok-pattern_pair-2.ensures.shorter);
}

pub pattern_maps::pattern_pairs-returns-in-Err-pattern_pair-2-clause-err : goal.pattern_maps::pattern_pairs-returns-in-Err-pattern_pair-2-clause-err
pattern_maps::pattern_pairs-returns-in-Err-pattern_pair-2-clause-err t c = items_worse _ _ (closes_pattern_pairs _) _ _ _ _ _ _ _ c.loop-found.invariant.so_far _ _ _ _ c.in-Ok-next.ensures.ok
    (c.same-in-loop-found-2.ensures.0 c.if-not-same.false) _ c.in-Err-pattern_pair-2.ensures.err

pub pattern_maps::pattern_pair-returns-in-Err-clause-err : goal.pattern_maps::pattern_pair-returns-in-Err-clause-err
pattern_maps::pattern_pair-returns-in-Err-clause-err t c = pattern_pair_end _ _ _ c.in-Err.ensures.err

pub pattern_maps::pattern_pair-returns-in-Ok-bare_pattern_pair-clause-ok : goal.pattern_maps::pattern_pair-returns-in-Ok-bare_pattern_pair-clause-ok
pattern_maps::pattern_pair-returns-in-Ok-bare_pattern_pair-clause-ok t c = pattern_pair_bare_ok _ _ _ _ _ _ _ c.in-Ok.ensures.ok (λ z. both_ways _ c.if-not-same.true (c.same.ensures.1 z)) _ _ _ c.in-Ok-bare_pattern_pair.ensures.ok

pub pattern_maps::pattern_pair-returns-in-Err-bare_pattern_pair-clause-err : goal.pattern_maps::pattern_pair-returns-in-Err-bare_pattern_pair-clause-err
pattern_maps::pattern_pair-returns-in-Err-bare_pattern_pair-clause-err t c = pattern_pair_bare_bad _ c.args.label _ _ _ _ _ c.in-Ok.ensures.ok
    (λ z. both_ways _ c.if-not-same.true (c.same.ensures.1 z)) _ c.in-Err-bare_pattern_pair.ensures.err

pub pattern_maps::pattern_pair-returns-in-Err-next-clause-err : goal.pattern_maps::pattern_pair-returns-in-Err-next-clause-err
pattern_maps::pattern_pair-returns-in-Err-next-clause-err t c = pattern_pair_open_end _ c.args.label _ _ _ _ _ c.in-Ok.ensures.ok (c.same.ensures.0 c.if-not-same.false) _ c.in-Err-next.ensures.err

pub pattern_maps::pattern_pair-returns-in-Err-bare_pattern_pair-2-clause-err : goal.pattern_maps::pattern_pair-returns-in-Err-bare_pattern_pair-2-clause-err
pattern_maps::pattern_pair-returns-in-Err-bare_pattern_pair-2-clause-err t c = pattern_pair_second_bad _ c.args.label _ _ _ _ _ c.in-Ok.ensures.ok (c.same.ensures.0 c.if-not-same.false) _ _ _ _ c.in-Ok-next.ensures.ok
    (c.same-2.ensures.0 c.if-same.true) _ c.in-Err-bare_pattern_pair-2.ensures.err

pub pattern_maps::pattern_pair-returns-in-Ok-annotation-clause-ok : goal.pattern_maps::pattern_pair-returns-in-Ok-annotation-clause-ok
pattern_maps::pattern_pair-returns-in-Ok-annotation-clause-ok t c = pattern_pair_second_ok _ _ _ _ _ _ _ c.in-Ok.ensures.ok (c.same.ensures.0 c.if-not-same.false) _ _ _ _ c.in-Ok-next.ensures.ok
    (c.same-2.ensures.0 c.if-same.true) _ _ _ c.in-Ok-bare_pattern_pair-2.ensures.ok _ _ c.in-Ok-annotation.ensures.ok

pub pattern_maps::pattern_pair-returns-in-Err-annotation-clause-err : goal.pattern_maps::pattern_pair-returns-in-Err-annotation-clause-err
pattern_maps::pattern_pair-returns-in-Err-annotation-clause-err t c = pattern_pair_second_note_bad _ _ _ _ _ _ _ c.in-Ok.ensures.ok (c.same.ensures.0 c.if-not-same.false) _ _ _ _ c.in-Ok-next.ensures.ok
    (c.same-2.ensures.0 c.if-same.true) _ _ _ c.in-Ok-bare_pattern_pair-2.ensures.ok _ c.in-Err-annotation.ensures.err

pub pattern_maps::pattern_pair_in_brackets-returns-in-Err-clause-err : goal.pattern_maps::pattern_pair_in_brackets-returns-in-Err-clause-err
pattern_maps::pattern_pair_in_brackets-returns-in-Err-clause-err t c = pattern_pair_key_bad _ c.args.label _ _ _ _ _ c.requires.starts c.requires.sort c.requires.once _ c.in-Err.ensures.err

pub pattern_maps::pattern_pair_in_brackets-returns-in-Err-next-clause-err : goal.pattern_maps::pattern_pair_in_brackets-returns-in-Err-next-clause-err
pattern_maps::pattern_pair_in_brackets-returns-in-Err-next-clause-err t c = pattern_pair_key_end _ _ _ _ _ _ _ c.requires.starts c.requires.sort c.requires.once _ _ _ c.in-Ok.ensures.ok _ c.in-Err-next.ensures.err

pub pattern_maps::pattern_pair_in_brackets-returns-in-Ok-pattern_pair_of_key-clause-ok : goal.pattern_maps::pattern_pair_in_brackets-returns-in-Ok-pattern_pair_of_key-clause-ok
pattern_maps::pattern_pair_in_brackets-returns-in-Ok-pattern_pair_of_key-clause-ok t c =
    pattern_pair_noted_ok _ _ _ _ _ _ _ c.requires.starts c.requires.sort c.requires.once _ _ _ c.in-Ok.ensures.ok _ _ _ _ c.in-Ok-next.ensures.ok
    (c.same.ensures.0 c.if-same.true) _ _ c.in-Ok-annotated.ensures.ok.1 _ _ _ _ c.in-Ok-annotated.ensures.ok.2 c.in-Ok-pattern_pair_of_key.ensures.ok

pub pattern_maps::pattern_pair_in_brackets-returns-in-Err-pattern_pair_of_key-clause-err : goal.pattern_maps::pattern_pair_in_brackets-returns-in-Err-pattern_pair_of_key-clause-err
pattern_maps::pattern_pair_in_brackets-returns-in-Err-pattern_pair_of_key-clause-err t c =
    pattern_pair_noted_value_bad _ _ _ _ _ _ _ c.requires.starts c.requires.sort c.requires.once _ _ _ c.in-Ok.ensures.ok _ _ _ _ c.in-Ok-next.ensures.ok
    (c.same.ensures.0 c.if-same.true) _ _ c.in-Ok-annotated.ensures.ok.1 _ c.in-Err-pattern_pair_of_key.ensures.err

pub pattern_maps::pattern_pair_in_brackets-returns-in-Err-annotated-clause-err : goal.pattern_maps::pattern_pair_in_brackets-returns-in-Err-annotated-clause-err
pattern_maps::pattern_pair_in_brackets-returns-in-Err-annotated-clause-err t c =
    pattern_pair_key_note_bad _ _ _ _ _ _ _ c.requires.starts c.requires.sort c.requires.once _ _ _ c.in-Ok.ensures.ok _ _ _ _ c.in-Ok-next.ensures.ok (c.same.ensures.0 c.if-same.true) _ c.in-Err-annotated.ensures.err

pub pattern_maps::pattern_pair_in_brackets-returns-in-Err-value_pattern-clause-err : goal.pattern_maps::pattern_pair_in_brackets-returns-in-Err-value_pattern-clause-err
pattern_maps::pattern_pair_in_brackets-returns-in-Err-value_pattern-clause-err t c =
    pattern_pair_value_bad _ _ _ _ _ _ _ c.requires.starts c.requires.sort c.requires.once _ _ _ c.in-Ok.ensures.ok _ _ _ _ c.in-Ok-next.ensures.ok
    (λ z. both_ways _ c.if-same.false (c.same.ensures.1 z)) _ c.in-Err-value_pattern.ensures.err

pub pattern_maps::pattern_pair_in_brackets-returns-in-Ok-annotation-clause-ok : goal.pattern_maps::pattern_pair_in_brackets-returns-in-Ok-annotation-clause-ok
pattern_maps::pattern_pair_in_brackets-returns-in-Ok-annotation-clause-ok t c = pattern_pair_ok _ _ _ _ _ _ _ c.requires.starts c.requires.sort c.requires.once _ _ _ c.in-Ok.ensures.ok _ _ _ _ c.in-Ok-next.ensures.ok
    (λ z. both_ways _ c.if-same.false (c.same.ensures.1 z)) _ _ _ (pattern_value_pair _ _ _ _ _ _ c.in-Ok-value_pattern.ensures.ok _ _ refl) _ _ c.in-Ok-annotation.ensures.ok

pub pattern_maps::pattern_pair_in_brackets-returns-in-Err-annotation-clause-err : goal.pattern_maps::pattern_pair_in_brackets-returns-in-Err-annotation-clause-err
pattern_maps::pattern_pair_in_brackets-returns-in-Err-annotation-clause-err t c =
    pattern_pair_note_bad _ _ _ _ _ _ _ c.requires.starts c.requires.sort c.requires.once _ _ _ c.in-Ok.ensures.ok _ _ _ _ c.in-Ok-next.ensures.ok (λ z. both_ways _ c.if-same.false (c.same.ensures.1 z)) _ _ _
    (pattern_value_pair _ _ _ _ _ _ c.in-Ok-value_pattern.ensures.ok _ _ refl) _ c.in-Err-annotation.ensures.err

pub pattern_maps::bare_pattern_pair-returns-in-Err-clause-err : goal.pattern_maps::bare_pattern_pair-returns-in-Err-clause-err
pattern_maps::bare_pattern_pair-returns-in-Err-clause-err t c = bare_pattern_pair_key_bad _ c.args.label _ _ c.in-Err.ensures.err

pub pattern_maps::bare_pattern_pair-returns-in-Err-pattern_pair_of_key-clause-err : goal.pattern_maps::bare_pattern_pair-returns-in-Err-pattern_pair_of_key-clause-err
pattern_maps::bare_pattern_pair-returns-in-Err-pattern_pair_of_key-clause-err t c = bare_pattern_pair_value_bad _ _ _ _ _ _ c.in-Ok.ensures.ok _ c.in-Err-pattern_pair_of_key.ensures.err

pub pattern_maps::bare_pattern_pair-returns-in-Ok-pattern_pair_of_key-clause-ok : goal.pattern_maps::bare_pattern_pair-returns-in-Ok-pattern_pair_of_key-clause-ok
pattern_maps::bare_pattern_pair-returns-in-Ok-pattern_pair_of_key-clause-ok t c = bare_pattern_pair_ok _ _ _ _ _ _ c.in-Ok.ensures.ok _ _ _ c.in-Ok-pattern_pair_of_key.ensures.ok

pub pattern_maps::pattern_pair_of_key-returns-in-Ok-clause-ok : goal.pattern_maps::pattern_pair_of_key-returns-in-Ok-clause-ok
pattern_maps::pattern_pair_of_key-returns-in-Ok-clause-ok t c = pattern_value_pair _ _ _ _ _ _ c.in-Ok.ensures.ok _ _ refl

pub pattern_maps::value_pattern-returns-in-Err-clause-err : goal.pattern_maps::value_pattern-returns-in-Err-clause-err
pattern_maps::value_pattern-returns-in-Err-clause-err t c = pattern_value_lacks _ c.args.label _ _ c.in-Err.ensures.err

pub pattern_maps::value_pattern-returns-in-Err-pattern-clause-err : goal.pattern_maps::value_pattern-returns-in-Err-pattern-clause-err
pattern_maps::value_pattern-returns-in-Err-pattern-clause-err t c = pattern_value_bad _ c.args.label _ _ c.in-Ok.ensures.ok _ c.in-Err-pattern.ensures.err

pub pattern_maps::value_pattern-returns-in-Ok-pattern-clause-ok : goal.pattern_maps::value_pattern-returns-in-Ok-pattern-clause-ok
pattern_maps::value_pattern-returns-in-Ok-pattern-clause-ok t c = pattern_value _ _ _ _ c.in-Ok.ensures.ok _ _ _ c.in-Ok-pattern.ensures.ok

pub patterns::pattern-returns-in-Err-clause-err : goal.patterns::pattern-returns-in-Err-clause-err
patterns::pattern-returns-in-Err-clause-err t c = pattern_none _ c.args.label _ _ c.in-Err.ensures.err

pub patterns::pattern-returns-in-Ok-bare_pattern-clause-ok : goal.patterns::pattern-returns-in-Ok-bare_pattern-clause-ok
patterns::pattern-returns-in-Ok-bare_pattern-clause-ok t c = pattern_bare_ok _ _ _ _ _ _ _ c.in-Ok.ensures.ok (sort_differs _ _ c.if-not-same.ensures) _ _ _ c.in-Ok-bare_pattern.ensures.ok

pub patterns::pattern-returns-in-Err-bare_pattern-clause-err : goal.patterns::pattern-returns-in-Err-bare_pattern-clause-err
patterns::pattern-returns-in-Err-bare_pattern-clause-err t c = pattern_bare_bad _ c.args.label _ _ _ _ _ c.in-Ok.ensures.ok (sort_differs _ _ c.if-not-same.ensures) _ c.in-Err-bare_pattern.ensures.err

pub patterns::pattern-returns-in-Ok-in_brackets-clause-ok : goal.patterns::pattern-returns-in-Ok-in_brackets-clause-ok
patterns::pattern-returns-in-Ok-in_brackets-clause-ok t c = pattern_brackets _ _ _ _ _ _ _ c.in-Ok.ensures.ok (c.if-not-same.ensures.0 refl) _ _ _ _ c.in-Ok-in_brackets.ensures.ok

pub patterns::pattern-returns-in-Err-in_brackets-clause-err : goal.patterns::pattern-returns-in-Err-in_brackets-clause-err
patterns::pattern-returns-in-Err-in_brackets-clause-err t c = pattern_brackets_bad _ c.args.label _ _ _ _ _ c.in-Ok.ensures.ok (c.if-not-same.ensures.0 refl) _ c.in-Err-in_brackets.ensures.err

pub patterns::bare_pattern-returns-in-Err-clause-err : goal.patterns::bare_pattern-returns-in-Err-clause-err
patterns::bare_pattern-returns-in-Err-clause-err t c = bare_pattern_none _ c.args.label _ _ c.in-Err.ensures.err

pub patterns::bare_pattern-returns-then-starts-clause-err : goal.patterns::bare_pattern-returns-then-starts-clause-err
patterns::bare_pattern-returns-then-starts-clause-err t c = bare_pattern_deep _ c.args.label _ _ _ _ _ c.in-Ok.ensures.ok (sym c.is_too_deep.ensures ∙ c.if-is_too_deep.true) (omega (arith, c.requires.shallow))
    (sym c.starts.ensures ∙ c.if-starts.true)

pub patterns::bare_pattern-returns-then-is_too_deep-clause-err : goal.patterns::bare_pattern-returns-then-is_too_deep-clause-err
patterns::bare_pattern-returns-then-is_too_deep-clause-err t c = bare_pattern_dull _ c.args.label _ _ _ _ _ c.in-Ok.ensures.ok (sym c.starts.ensures ∙ c.if-starts.false) (sort_differs _ _ c.if-same.ensures)

pub patterns::bare_pattern-string_pattern-requires-clause-shallow : goal.patterns::bare_pattern-string_pattern-requires-clause-shallow
patterns::bare_pattern-string_pattern-requires-clause-shallow t c = bare_text_limit _ _ (c.if-same-2.ensures.0 refl) (sym c.is_too_deep.ensures ∙ c.if-is_too_deep.false)

pub patterns::bare_pattern-string_pattern-requires-clause-lighter : goal.patterns::bare_pattern-string_pattern-requires-clause-lighter
patterns::bare_pattern-string_pattern-requires-clause-lighter t c = omega (arith, c.in-Ok.ensures.lighter, two_at_least c.in-Ok.found.token.now.kind)

pub patterns::bare_pattern-string_pattern-requires-clause-sort : goal.patterns::bare_pattern-string_pattern-requires-clause-sort
patterns::bare_pattern-string_pattern-requires-clause-sort t c = c.if-same-2.ensures.0 refl

pub patterns::bare_pattern-returns-in-Ok-string_pattern-clause-shallow : goal.patterns::bare_pattern-returns-in-Ok-string_pattern-clause-shallow
patterns::bare_pattern-returns-in-Ok-string_pattern-clause-shallow t c = within_limit _ _ (sym c.is_too_deep.ensures ∙ c.if-is_too_deep.false)

pub patterns::bare_pattern-returns-in-Ok-pattern_list-clause-shallow : goal.patterns::bare_pattern-returns-in-Ok-pattern_list-clause-shallow
patterns::bare_pattern-returns-in-Ok-pattern_list-clause-shallow t c = within_limit _ _ (sym c.is_too_deep.ensures ∙ c.if-is_too_deep.false)

pub patterns::bare_pattern-returns-in-Ok-other_pattern-clause-ok : goal.patterns::bare_pattern-returns-in-Ok-other_pattern-clause-ok
patterns::bare_pattern-returns-in-Ok-other_pattern-clause-ok t c = bare_else_ok _ _ _ _ _ _ _ c.in-Ok.ensures.ok (sort_differs _ _ c.if-same-2.ensures) (sort_differs _ _ c.if-same-3.ensures) _ _ _ c.in-Ok-other_pattern.ensures.ok

pub patterns::bare_pattern-returns-in-Ok-other_pattern-clause-shallow : goal.patterns::bare_pattern-returns-in-Ok-other_pattern-clause-shallow
patterns::bare_pattern-returns-in-Ok-other_pattern-clause-shallow t c = within_limit _ _ (sym c.is_too_deep.ensures ∙ c.if-is_too_deep.false)

pub patterns::bare_pattern-returns-in-Err-other_pattern-clause-err : goal.patterns::bare_pattern-returns-in-Err-other_pattern-clause-err
patterns::bare_pattern-returns-in-Err-other_pattern-clause-err t c = bare_else_bad _ c.args.label _ _ _ _ _ c.in-Ok.ensures.ok (sort_differs _ _ c.if-same-2.ensures)
    (sort_differs _ _ c.if-same-3.ensures) _ c.in-Err-other_pattern.ensures.err

pub patterns::other_pattern-returns-in-Err-clause-err : goal.patterns::other_pattern-returns-in-Err-clause-err
patterns::other_pattern-returns-in-Err-clause-err t c = other_pattern_none _ c.args.label _ _ c.in-Err.ensures.err

pub patterns::other_pattern-returns-in-Ok-literal-clause-ok : goal.patterns::other_pattern-returns-in-Ok-literal-clause-ok
patterns::other_pattern-returns-in-Ok-literal-clause-ok t c = other_pattern_literal _ _ _ _ _ _ _ c.in-Ok.ensures.ok c.requires.shallow
    (sym c.is_single.ensures ∙ c.if-is_single.true) _ c.in-Ok-literal_of.ensures _ (equals_made _ _ _ _ c.in-Ok-literal.ensures c.mark.ensures)

pub patterns::other_pattern-returns-in-Ok-literal-2-clause-ok : goal.patterns::other_pattern-returns-in-Ok-literal-2-clause-ok
patterns::other_pattern-returns-in-Ok-literal-2-clause-ok t c = other_pattern_nil _ _ _ _ _ _ _ c.in-Ok.ensures.ok c.requires.shallow c.in-OpenSquare.is _ c.in-Ok-take.ensures.ok _
    (equals_made _ _ _ _ c.in-Ok-literal-2.ensures c.mark-in-Ok-take.ensures)

pub patterns::other_pattern-returns-in-Err-take-clause-err : goal.patterns::other_pattern-returns-in-Err-take-clause-err
patterns::other_pattern-returns-in-Err-take-clause-err t c = other_pattern_nil_bad _ c.args.label _ _ _ _ _ c.in-Ok.ensures.ok c.requires.shallow c.in-OpenSquare.is _ c.in-Err-take.ensures.err

pub patterns::other_pattern-returns-in_default-clause-err : goal.patterns::other_pattern-returns-in_default-clause-err
patterns::other_pattern-returns-in_default-clause-err t c = other_pattern_dull _ c.args.label _ _ _ _ _ c.in-Ok.ensures.ok (other_no_bracket _ _ _ _ _ c.in-Ok.ensures.ok c.requires.once) c.in_default.not-Variable
    (sym c.is_single.ensures ∙ c.if-is_single.false)
    c.in_default.not-OpenSquare c.in_default.not-OpenCurly c.in_default.not-OpenBinary c.in_default.not-OpenMap

pub patterns::variable_or_alias-returns-in-Ok-variable-clause-ok : goal.patterns::variable_or_alias-returns-in-Ok-variable-clause-ok
patterns::variable_or_alias-returns-in-Ok-variable-clause-ok t c = other_pattern_variable _ _ _ _ _ _ _ c.requires.starts c.requires.shallow c.requires.sort c.in_default.ensures.none _
    (binds_made _ _ _ _ _ c.in-Ok-variable.ensures c.mark-mark.ensures c.in-Ok.ensures)

pub patterns::variable_or_alias-returns-in-Ok-named-clause-ok : goal.patterns::variable_or_alias-returns-in-Ok-named-clause-ok
patterns::variable_or_alias-returns-in-Ok-named-clause-ok t c = other_pattern_named _ _ _ _ _ _ _ c.requires.starts c.requires.shallow c.requires.sort _ c.in-Some.ensures.found _ _ _ _ _ c.mark-mark.ensures
    (name_made _ _ _ _ _ _ c.in-Ok.ensures refl c.no_note.ensures) c.in-Ok-named.ensures.ok

pub patterns::variable_or_alias-returns-in-Err-named-clause-err : goal.patterns::variable_or_alias-returns-in-Err-named-clause-err
patterns::variable_or_alias-returns-in-Err-named-clause-err t c = other_pattern_named_bad _ c.args.label _ _ _ _ _ c.requires.starts c.requires.shallow c.requires.sort _ c.in-Some.ensures.found _ c.in-Err-named.ensures.err

pub patterns::tuple_pattern-returns-in-Err-clause-err : goal.patterns::tuple_pattern-returns-in-Err-clause-err
patterns::tuple_pattern-returns-in-Err-clause-err t c = tuple_pattern_bad _ c.args.label _ _ _ _ _ c.requires.starts c.requires.shallow c.requires.sort _ c.in-Err.ensures.err

pub patterns::tuple_pattern-returns-in-Ok-tuple-clause-ok : goal.patterns::tuple_pattern-returns-in-Ok-tuple-clause-ok
patterns::tuple_pattern-returns-in-Ok-tuple-clause-ok t c = tuple_pattern_ok _ _ _ _ _ _ _ c.requires.starts c.requires.shallow c.requires.sort _ _ _ c.in-Ok.ensures.ok _ (tuple_made _ _ _ _ c.in-Ok-tuple.ensures c.mark-mark.ensures)

pub patterns::patterns-returns-in-Err-clause-err : goal.patterns::patterns-returns-in-Err-clause-err
patterns::patterns-returns-in-Err-clause-err t c = items_nothing _ _ (closes_patterns _ _ c.requires.closes) number_pattern pattern_tree c.args.label _ _ c.in-Err.ensures.err

pub patterns::patterns-returns-then-same-clause-ok : goal.patterns::patterns-returns-then-same-clause-ok
patterns::patterns-returns-then-same-clause-ok t c = patterns_of (items_empty _ _ (closes_patterns _ _ c.requires.closes) number_pattern pattern_tree _ _ _ _ _ _ c.in-Ok.ensures.ok _ c.new-items.ensures (c.if-same.ensures.0 refl))

pub patterns::patterns-returns-in-Err-pattern-clause-err : goal.patterns::patterns-returns-in-Err-pattern-clause-err
patterns::patterns-returns-in-Err-pattern-clause-err t c = items_bad _ _ (closes_patterns _ _ c.requires.closes) number_pattern pattern_tree c.args.label _ _ _ _ _ c.in-Ok.ensures.ok
    (sort_differs _ _ c.if-same.ensures) _ c.in-Err-pattern.ensures.err

pub patterns::patterns-loop-found-init : goal.patterns::patterns-loop-found-init
patterns::patterns-loop-found-init t c = record {
  so_far = items_first _ _ (closes_patterns _ _ c.requires.closes) number_pattern pattern_tree _ _ _ _ _ _ c.in-Ok.ensures.ok (sort_differs _ _ c.if-same.ensures) _ _ _ _ _ c.new-items.ensures c.in-Ok-kept.ensures
      (pattern_item c.in-Ok-pattern.ensures.ok);
  labels = c.in-Ok-pattern.ensures.labels;
  shorter = c.in-Ok-pattern.ensures.shorter;
}

pub patterns::patterns-returns-in-Err-next-clause-err : goal.patterns::patterns-returns-in-Err-next-clause-err
patterns::patterns-returns-in-Err-next-clause-err t c = items_end _ _ (closes_patterns _ _ c.requires.closes) number_pattern pattern_tree _ _ _ _ _ c.loop-found.invariant.so_far _ c.in-Err-next.ensures.err

pub patterns::patterns-returns-then-same-2-clause-ok : goal.patterns::patterns-returns-then-same-2-clause-ok
patterns::patterns-returns-then-same-2-clause-ok t c = patterns_of (items_close _ _ (closes_patterns _ _ c.requires.closes) number_pattern pattern_tree _ _ _ _ _ c.loop-found.invariant.so_far _ _ _ _ c.in-Ok-next.ensures.ok
    (c.if-same-2.ensures.0 refl))

pub patterns::patterns-returns-then-not-same-clause-err : goal.patterns::patterns-returns-then-not-same-clause-err
patterns::patterns-returns-then-not-same-clause-err t c = items_other _ _ (closes_patterns _ _ c.requires.closes) number_pattern pattern_tree _ _ _ _ _ c.loop-found.invariant.so_far _ _ _ _ c.in-Ok-next.ensures.ok
    (sort_differs _ _ c.if-same-2.ensures) (sort_differs _ _ c.if-not-same.ensures)

pub patterns::patterns-loop-found-preserved : goal.patterns::patterns-loop-found-preserved
patterns::patterns-loop-found-preserved t c = record {
  so_far = items_more _ _ (closes_patterns _ _ c.requires.closes) number_pattern pattern_tree _ _ _ _ _ c.loop-found.invariant.so_far _ _ _ _ c.in-Ok-next.ensures.ok (c.if-not-same.ensures.0 refl) _ _ _ _ c.in-Ok-kept-2.ensures
      (pattern_item c.in-Ok-pattern-2.ensures.ok);
  labels = omega (arith, c.loop-found.invariant.labels, c.in-Ok-next.ensures.lighter, c.in-Ok-pattern-2.ensures.labels);
  shorter = omega (arith, c.loop-found.invariant.shorter, c.in-Ok-next.ensures.shorter, c.in-Ok-pattern-2.ensures.shorter);
}

pub patterns::patterns-returns-in-Err-pattern-2-clause-err : goal.patterns::patterns-returns-in-Err-pattern-2-clause-err
patterns::patterns-returns-in-Err-pattern-2-clause-err t c = items_worse _ _ (closes_patterns _ _ c.requires.closes) number_pattern pattern_tree _ _ _ _ _ c.loop-found.invariant.so_far _ _ _ _ c.in-Ok-next.ensures.ok
    (c.if-not-same.ensures.0 refl) _ c.in-Err-pattern-2.ensures.err

pub chains::steps-step-requires-in-Some : goal.chains::steps-step-requires-in-Some
chains::steps-step-requires-in-Some t c = (search rules, (search rules, (search rules, begins_sort _ _ _ _ _ _ c.in-Some.ensures.found)))

pub clauses::clauses-clause-requires-in-loop-found : goal.clauses::clauses-clause-requires-in-loop-found
clauses::clauses-clause-requires-in-loop-found t c = (search rules, (search rules, omega (arith, c.requires.labels, c.loop-found.invariant.labels)))

pub clauses::clause-expression-requires : goal.clauses::clause-expression-requires
clauses::clause-expression-requires t c = (search rules, (search rules, omega (arith, c.requires.labels, c.in-Ok.ensures.labels)))

pub clauses::clause-expression-requires-2 : goal.clauses::clause-expression-requires-2
clauses::clause-expression-requires-2 t c = (search rules, (search rules, omega (arith, c.requires.labels, c.in-Ok.ensures.labels, c.in-Ok-expression.ensures.labels, c.in-Ok-take.ensures.lighter)))

pub clauses::head-head_in_brackets-requires : goal.clauses::head-head_in_brackets-requires
clauses::head-head_in_brackets-requires t c = (search rules, (search rules, (search rules, (search rules, (search rules, (omega (arith, c.in-Ok.ensures.lighter, two_at_least c.in-Ok.found.token.now.kind), search rules))))))

pub clauses::head-several-requires : goal.clauses::head-several-requires
clauses::head-several-requires t c = (search rules, (search rules, omega (arith, c.requires.labels, c.in-Ok.ensures.lighter)))

pub clauses::head_in_brackets-several-requires : goal.clauses::head_in_brackets-several-requires
clauses::head_in_brackets-several-requires t c = (search rules, (search rules, omega (arith, c.requires.labels, c.requires.lighter, c.in-Ok.ensures.lighter)))

pub clauses::head_in_brackets-head_with_variable-requires : goal.clauses::head_in_brackets-head_with_variable-requires
clauses::head_in_brackets-head_with_variable-requires t c = (
  search rules,
  (
    search rules,
    (search rules, (search rules, (search rules, (search rules, (search rules, (search rules, (omega (arith, c.in-Ok.ensures.lighter, two_at_least c.in-Ok.found.token.now.kind), search rules))))))),
  ),
)

pub clauses::head_in_brackets-bare_pattern-requires : goal.clauses::head_in_brackets-bare_pattern-requires
clauses::head_in_brackets-bare_pattern-requires t c = (search rules, (search rules, omega (arith, c.requires.labels, c.requires.lighter)))

pub clauses::head_in_brackets-in_brackets-requires : goal.clauses::head_in_brackets-in_brackets-requires
clauses::head_in_brackets-in_brackets-requires t c = (
  search rules,
  (
    search rules,
    (omega (arith, c.requires.labels, c.requires.lighter), (search rules, (search rules, (omega (arith, c.in-Ok.ensures.lighter, two_at_least c.in-Ok.found.token.now.kind), search rules)))),
  ),
)

pub clauses::head_with_variable-noted_variable-requires : goal.clauses::head_with_variable-noted_variable-requires
clauses::head_with_variable-noted_variable-requires t c = (search rules, (search rules, (omega (arith, c.requires.labels, c.requires.lighter, c.requires.lighter_still), (c.in-Ok.ensures, c.requires.goes_on.place_is))))

pub clauses::head_with_variable-named-requires : goal.clauses::head_with_variable-named-requires
clauses::head_with_variable-named-requires t c = (search rules, (search rules, omega (arith, c.requires.labels, c.requires.lighter, c.requires.lighter_still, c.in-Ok-next.ensures.lighter)))

pub pattern_brackets::in_brackets-variable_in_brackets-requires : goal.pattern_brackets::in_brackets-variable_in_brackets-requires
pattern_brackets::in_brackets-variable_in_brackets-requires t c = (
  search rules,
  (search rules, (search rules, (search rules, (search rules, (search rules, (search rules, (search rules, (omega (arith, c.in-Ok.ensures.lighter, two_at_least c.in-Ok.found.token.now.kind), c.if-same.ensures.0 refl)))))))),
)

pub pattern_lists::pattern_elements-in_brackets-requires : goal.pattern_lists::pattern_elements-in_brackets-requires
pattern_lists::pattern_elements-in_brackets-requires t c = (
  search rules,
  (
    search rules,
    (search rules, (search rules, (search rules, (omega (arith, c.in-Ok-next-2.ensures.lighter, two_at_least c.in-Ok-next-2.found.token.now.kind), search rules)))),
  ),
)

pub patterns::pattern-in_brackets-requires : goal.patterns::pattern-in_brackets-requires
patterns::pattern-in_brackets-requires t c = (search rules, (search rules, (search rules, (search rules, (search rules, (omega (arith, c.in-Ok.ensures.lighter, two_at_least c.in-Ok.found.token.now.kind), c.if-not-same.ensures.0 refl))))))

pub patterns::bare_pattern-noted_alias-requires : goal.patterns::bare_pattern-noted_alias-requires
patterns::bare_pattern-noted_alias-requires t c = (search rules, (search rules, (search rules, (search rules, (search rules, (omega (arith, c.in-Ok.ensures.lighter, two_at_least c.in-Ok.found.token.now.kind), c.if-same.ensures.0 refl))))))

pub patterns::bare_pattern-pattern_list-requires : goal.patterns::bare_pattern-pattern_list-requires
patterns::bare_pattern-pattern_list-requires t c = (
  search rules,
  (
    within_limit _ _ (sym c.is_too_deep.ensures ∙ c.if-is_too_deep.false),
    (search rules, (search rules, (search rules, (omega (arith, c.in-Ok.ensures.lighter, two_at_least c.in-Ok.found.token.now.kind), c.if-same-3.ensures.0 refl)))),
  ),
)

pub patterns::bare_pattern-other_pattern-requires : goal.patterns::bare_pattern-other_pattern-requires
patterns::bare_pattern-other_pattern-requires t c = (search rules, (within_limit _ _ (sym c.is_too_deep.ensures ∙ c.if-is_too_deep.false), (search rules, bare_once _ _ _ _ _ c.in-Ok.ensures.ok (sort_differs _ _ c.if-same.ensures))))

pub patterns::other_pattern-variable_or_alias-requires : goal.patterns::other_pattern-variable_or_alias-requires
patterns::other_pattern-variable_or_alias-requires t c = (search rules, (search rules, (search rules, (search rules, (search rules, (omega (arith, c.in-Ok.ensures.lighter, two_at_least c.in-Ok.found.token.now.kind), search rules))))))

pub patterns::other_pattern-tuple_pattern-requires : goal.patterns::other_pattern-tuple_pattern-requires
patterns::other_pattern-tuple_pattern-requires t c = (search rules, (search rules, (search rules, (search rules, (search rules, (omega (arith, c.in-Ok.ensures.lighter, two_at_least c.in-Ok.found.token.now.kind), search rules))))))

pub patterns::other_pattern-binary_pattern-requires : goal.patterns::other_pattern-binary_pattern-requires
patterns::other_pattern-binary_pattern-requires t c = (search rules, (search rules, (search rules, (search rules, (search rules, (omega (arith, c.in-Ok.ensures.lighter, two_at_least c.in-Ok.found.token.now.kind), search rules))))))

pub patterns::other_pattern-map_pattern-requires : goal.patterns::other_pattern-map_pattern-requires
patterns::other_pattern-map_pattern-requires t c = (search rules, (search rules, (search rules, (search rules, (search rules, (omega (arith, c.in-Ok.ensures.lighter, two_at_least c.in-Ok.found.token.now.kind), search rules))))))

pub patterns::patterns-pattern-requires-in-loop-found : goal.patterns::patterns-pattern-requires-in-loop-found
patterns::patterns-pattern-requires-in-loop-found t c = (search rules, (search rules, omega (arith, c.requires.labels, c.loop-found.invariant.labels, c.in-Ok-next.ensures.lighter)))

pub expressions::expression-list-requires : goal.expressions::expression-list-requires
expressions::expression-list-requires t c = (
  search rules,
  (
    within_limit _ _ (sym c.is_too_deep.ensures ∙ c.if-is_too_deep.false),
    (search rules, (search rules, (search rules, (omega (arith, c.in-Ok.ensures.lighter, two_at_least c.in-Ok.found.token.now.kind), c.same.ensures.0 c.if-same.true)))),
  ),
)
