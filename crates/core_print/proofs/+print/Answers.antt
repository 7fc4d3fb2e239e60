use Rattle.std.proofs.Common.{true, refl, ◌∷◌, codes, arith, sym, ◌∙◌}
use Rattle.core_ast.specs.Tree.{tree, pattern_tree, all_trees, all_clauses, all_defs, all_pairs, all_segments, all_steps, all_patterns, all_pat_pairs}
use Rattle.core_ast.specs.Tree.{all_pat_segments, clause_parts, pair_parts, segment_parts, pat_pair_parts, pat_segment_parts, step_tree, def_tree}
use Rattle.core_print.specs.Canonical.{expression, pattern, expressions, pairs, segments, clauses, definitions, patterns, pat_pairs, pat_segments}
use Rattle.core_print.specs.steps.Parts.{fronts, step_front, pair_words, segment_words, clause_words, definition_words, pat_pair_words, pat_segment_words}
use Rattle.core_print.specs.Words.{reserved, symbol}
use Rattle.core_print.proofs.Adding.{both, fixed, begins, next_item, all_items, next_row, all_rows}
use Rattle.std.proofs.lemmas.Result.{on_ok_weaker}
use Rattle.core_ast.specs.Model as m
use Rattle.core_ast.proofs.Forms.{variable_tree, local_tree, external_tree, literal_tree, fun_tree, listed_tree, tuple_tree, binary_tree, values_tree, chain_tree, case_tree, letrec_tree, apply_tree, call_tree}
use Rattle.core_ast.proofs.Forms.{primop_tree, try_tree, receive_tree, catch_tree, binds_pattern, equals_pattern, list_of_pattern, tuple_of_pattern, map_of_pattern, binary_of_pattern, alias_pattern}
use Rattle.core_print.proofs.PartLemmas.{next_step, as_tree, as_pattern, map_written, map_end_some, map_end_none, chain_written, at_expression, at_expressions, at_patterns, at_variables, segment_written, pat_segment_written, pair_written}
use Rattle.core_print.proofs.PartLemmas.{pat_pair_written, clause_written, expression_written, pattern_written, literal_as_tail, list_as_tail, expression_as_tail, literal_as_pattern_tail, list_as_pattern_tail, pattern_as_tail}
use Rattle.core_print.proofs.+print.Goals as goal

pub lists::append_expressions-loop-expr-init : goal.lists::append_expressions-loop-expr-init
lists::append_expressions-loop-expr-init t c = begins (expressions true (all_trees c.args.exprs.now)) c.args.out.now

pub lists::append_expressions-loop-expr-preserved : goal.lists::append_expressions-loop-expr-preserved
lists::append_expressions-loop-expr-preserved t c =
    next_item (λ first xs. expressions first (all_trees xs)) (λ e. expression (tree e))
    (expressions true (all_trees c.args.exprs.now)) c.args.exprs.now c.loop-expr.expr-index c.expr-item.result c.loop-expr.first c.args.out.now c.loop-expr.out c.append_comma.new.out c.append_expression.new.out
    (λ first x xs rest. refl)
    c.loop-expr-test.true c.expr-item.is c.loop-expr.invariant c.in_ok-append_comma.ensures c.in_ok-append_expression.ensures

pub lists::append_expressions-returns : goal.lists::append_expressions-returns
lists::append_expressions-returns t c = all_items (λ first xs. expressions first (all_trees xs)) (expressions true (all_trees c.args.exprs.now)) c.args.exprs.now c.loop-expr.expr-index c.loop-expr.first c.args.out.now c.loop-expr.out
    (λ first rest. refl) (omega arith) c.loop-expr.invariant

pub lists::append_pairs-loop-pair-init : goal.lists::append_pairs-loop-pair-init
lists::append_pairs-loop-pair-init t c = begins (pairs true (all_pairs c.args.pairs.now)) c.args.out.now

pub lists::append_pairs-loop-pair-preserved : goal.lists::append_pairs-loop-pair-preserved
lists::append_pairs-loop-pair-preserved t c =
    next_item (λ first xs. pairs first (all_pairs xs)) (λ p. pair_words (pair_parts p))
    (pairs true (all_pairs c.args.pairs.now)) c.args.pairs.now c.loop-pair.pair-index c.pair-item.result c.loop-pair.first c.args.out.now c.loop-pair.out c.append_comma.new.out c.append_pair.new.out (λ first x xs rest. refl)
    c.loop-pair-test.true c.pair-item.is c.loop-pair.invariant c.in_ok-append_comma.ensures c.in_ok-append_pair.ensures

pub lists::append_pairs-returns : goal.lists::append_pairs-returns
lists::append_pairs-returns t c = all_items (λ first xs. pairs first (all_pairs xs)) (pairs true (all_pairs c.args.pairs.now)) c.args.pairs.now c.loop-pair.pair-index c.loop-pair.first c.args.out.now c.loop-pair.out (λ first rest. refl)
    (omega arith) c.loop-pair.invariant

pub lists::append_segments-loop-segment-init : goal.lists::append_segments-loop-segment-init
lists::append_segments-loop-segment-init t c = begins (segments true (all_segments c.args.segments.now)) c.args.out.now

pub lists::append_segments-loop-segment-preserved : goal.lists::append_segments-loop-segment-preserved
lists::append_segments-loop-segment-preserved t c =
    next_item (λ first xs. segments first (all_segments xs)) (λ s. segment_words (segment_parts s))
    (segments true (all_segments c.args.segments.now)) c.args.segments.now c.loop-segment.segment-index c.segment-item.result c.loop-segment.first c.args.out.now c.loop-segment.out c.append_comma.new.out c.append_segment.new.out
    (λ first x xs rest. refl)
    c.loop-segment-test.true c.segment-item.is c.loop-segment.invariant c.in_ok-append_comma.ensures c.in_ok-append_segment.ensures

pub lists::append_segments-returns : goal.lists::append_segments-returns
lists::append_segments-returns t c = all_items (λ first xs. segments first (all_segments xs))
    (segments true (all_segments c.args.segments.now)) c.args.segments.now c.loop-segment.segment-index c.loop-segment.first c.args.out.now c.loop-segment.out (λ first rest. refl) (omega arith) c.loop-segment.invariant

pub patterns::append_patterns-loop-pattern-init : goal.patterns::append_patterns-loop-pattern-init
patterns::append_patterns-loop-pattern-init t c = begins (patterns true (all_patterns c.args.patterns.now)) c.args.out.now

pub patterns::append_patterns-loop-pattern-preserved : goal.patterns::append_patterns-loop-pattern-preserved
patterns::append_patterns-loop-pattern-preserved t c =
    next_item (λ first xs. patterns first (all_patterns xs)) (λ p. pattern (pattern_tree p))
    (patterns true (all_patterns c.args.patterns.now)) c.args.patterns.now c.loop-pattern.pattern-index c.pattern-item.result c.loop-pattern.first c.args.out.now c.loop-pattern.out c.append_comma.new.out c.append_pattern.new.out
    (λ first x xs rest. refl)
    c.loop-pattern-test.true c.pattern-item.is c.loop-pattern.invariant c.in_ok-append_comma.ensures c.in_ok-append_pattern.ensures

pub patterns::append_patterns-returns : goal.patterns::append_patterns-returns
patterns::append_patterns-returns t c = all_items (λ first xs. patterns first (all_patterns xs))
    (patterns true (all_patterns c.args.patterns.now)) c.args.patterns.now c.loop-pattern.pattern-index c.loop-pattern.first c.args.out.now c.loop-pattern.out (λ first rest. refl) (omega arith) c.loop-pattern.invariant

pub patterns::append_pattern_pairs-loop-pair-init : goal.patterns::append_pattern_pairs-loop-pair-init
patterns::append_pattern_pairs-loop-pair-init t c = begins (pat_pairs true (all_pat_pairs c.args.pairs.now)) c.args.out.now

pub patterns::append_pattern_pairs-loop-pair-preserved : goal.patterns::append_pattern_pairs-loop-pair-preserved
patterns::append_pattern_pairs-loop-pair-preserved t c =
    next_item (λ first xs. pat_pairs first (all_pat_pairs xs)) (λ p. pat_pair_words (pat_pair_parts p))
    (pat_pairs true (all_pat_pairs c.args.pairs.now)) c.args.pairs.now c.loop-pair.pair-index c.pair-item.result c.loop-pair.first c.args.out.now c.loop-pair.out c.append_comma.new.out c.append_pattern_pair.new.out
    (λ first x xs rest. refl)
    c.loop-pair-test.true c.pair-item.is c.loop-pair.invariant c.in_ok-append_comma.ensures c.in_ok-append_pattern_pair.ensures

pub patterns::append_pattern_pairs-returns : goal.patterns::append_pattern_pairs-returns
patterns::append_pattern_pairs-returns t c = all_items (λ first xs. pat_pairs first (all_pat_pairs xs))
    (pat_pairs true (all_pat_pairs c.args.pairs.now)) c.args.pairs.now c.loop-pair.pair-index c.loop-pair.first c.args.out.now c.loop-pair.out (λ first rest. refl) (omega arith) c.loop-pair.invariant

pub patterns::append_pattern_segments-loop-segment-init : goal.patterns::append_pattern_segments-loop-segment-init
patterns::append_pattern_segments-loop-segment-init t c = begins (pat_segments true (all_pat_segments c.args.segments.now)) c.args.out.now

pub patterns::append_pattern_segments-loop-segment-preserved : goal.patterns::append_pattern_segments-loop-segment-preserved
patterns::append_pattern_segments-loop-segment-preserved t c =
    next_item (λ first xs. pat_segments first (all_pat_segments xs)) (λ s. pat_segment_words (pat_segment_parts s))
    (pat_segments true (all_pat_segments c.args.segments.now)) c.args.segments.now c.loop-segment.segment-index c.segment-item.result c.loop-segment.first c.args.out.now c.loop-segment.out c.append_comma.new.out
    c.append_pattern_segment.new.out (λ first x xs rest. refl)
    c.loop-segment-test.true c.segment-item.is c.loop-segment.invariant c.in_ok-append_comma.ensures c.in_ok-append_pattern_segment.ensures

pub patterns::append_pattern_segments-returns : goal.patterns::append_pattern_segments-returns
patterns::append_pattern_segments-returns t c = all_items (λ first xs. pat_segments first (all_pat_segments xs))
    (pat_segments true (all_pat_segments c.args.segments.now)) c.args.segments.now c.loop-segment.segment-index c.loop-segment.first c.args.out.now c.loop-segment.out (λ first rest. refl) (omega arith) c.loop-segment.invariant

pub lists::append_steps-loop-step-init : goal.lists::append_steps-loop-step-init
lists::append_steps-loop-step-init t c = begins (fronts (all_steps c.args.steps.now)) c.args.out.now

pub lists::append_steps-loop-step-preserved : goal.lists::append_steps-loop-step-preserved
lists::append_steps-loop-step-preserved t c =
    next_row (λ xs. fronts (all_steps xs)) (λ s. step_front (step_tree s)) (fronts (all_steps c.args.steps.now)) c.args.steps.now c.loop-step.step-index c.step-item.result c.args.out.now c.loop-step.out c.append_step.new.out (next_step)
    c.loop-step-test.true c.step-item.is c.loop-step.invariant c.in_ok-append_step.ensures

pub lists::append_steps-returns : goal.lists::append_steps-returns
lists::append_steps-returns t c = all_rows (λ xs. fronts (all_steps xs)) (fronts (all_steps c.args.steps.now)) c.args.steps.now c.loop-step.step-index c.args.out.now c.loop-step.out (λ rest. refl) (omega arith) c.loop-step.invariant

pub lists::append_clauses-loop-clause-init : goal.lists::append_clauses-loop-clause-init
lists::append_clauses-loop-clause-init t c = begins (clauses (all_clauses c.args.clauses.now)) c.args.out.now

pub lists::append_clauses-loop-clause-preserved : goal.lists::append_clauses-loop-clause-preserved
lists::append_clauses-loop-clause-preserved t c =
    next_row (λ xs. clauses (all_clauses xs)) (λ c. clause_words (clause_parts c))
    (clauses (all_clauses c.args.clauses.now)) c.args.clauses.now c.loop-clause.clause-index c.clause-item.result c.args.out.now c.loop-clause.out c.append_clause.new.out (λ x xs rest. refl)
    c.loop-clause-test.true c.clause-item.is c.loop-clause.invariant c.in_ok-append_clause.ensures

pub lists::append_clauses-returns : goal.lists::append_clauses-returns
lists::append_clauses-returns t c = all_rows (λ xs. clauses (all_clauses xs)) (clauses (all_clauses c.args.clauses.now)) c.args.clauses.now c.loop-clause.clause-index c.args.out.now c.loop-clause.out (λ rest. refl)
    (omega arith) c.loop-clause.invariant

pub lists::append_functions-loop-function-init : goal.lists::append_functions-loop-function-init
lists::append_functions-loop-function-init t c = begins (definitions (all_defs c.args.functions.now)) c.args.out.now

pub lists::append_functions-loop-function-preserved : goal.lists::append_functions-loop-function-preserved
lists::append_functions-loop-function-preserved t c =
    next_row (λ xs. definitions (all_defs xs)) (λ d. definition_words (def_tree d))
    (definitions (all_defs c.args.functions.now)) c.args.functions.now c.loop-function.function-index c.function-item.result c.args.out.now c.loop-function.out c.append_definition.new.out (λ x xs rest. refl)
    c.loop-function-test.true c.function-item.is c.loop-function.invariant c.in_ok-append_definition.ensures

pub lists::append_functions-returns : goal.lists::append_functions-returns
lists::append_functions-returns t c = all_rows (λ xs. definitions (all_defs xs)) (definitions (all_defs c.args.functions.now)) c.args.functions.now c.loop-function.function-index c.args.out.now c.loop-function.out (λ rest. refl)
    (omega arith) c.loop-function.invariant

pub expressions::append_plain-returns-in-Var : goal.expressions::append_plain-returns-in-Var
expressions::append_plain-returns-in-Var t c = on_ok_weaker c.append_variable.result (as_tree c.args.expr.now _ _ _ (variable_tree c.args.expr.now _ c.in-Var.is)) c.append_variable.ensures

pub expressions::append_plain-returns-in-Local : goal.expressions::append_plain-returns-in-Local
expressions::append_plain-returns-in-Local t c = on_ok_weaker c.append_name.result (as_tree c.args.expr.now _ _ _ (local_tree c.args.expr.now _ c.in-Local.is)) c.append_name.ensures

pub expressions::append_plain-returns-in-External : goal.expressions::append_plain-returns-in-External
expressions::append_plain-returns-in-External t c = on_ok_weaker c.append_external.result (as_tree c.args.expr.now _ _ _ (external_tree c.args.expr.now _ _ c.in-External.is)) c.append_external.ensures

pub expressions::append_plain-returns-in-Lit : goal.expressions::append_plain-returns-in-Lit
expressions::append_plain-returns-in-Lit t c = on_ok_weaker c.append_literal.result (as_tree c.args.expr.now _ _ _ (literal_tree c.args.expr.now _ c.in-Lit.is)) c.append_literal.ensures

pub expressions::append_plain-returns-in-Fun : goal.expressions::append_plain-returns-in-Fun
expressions::append_plain-returns-in-Fun t c = on_ok_weaker c.append_fun.result (as_tree c.args.expr.now _ _ _ (fun_tree c.args.expr.now _ c.in-Fun.is)) c.append_fun.ensures

pub expressions::append_plain-returns-in-Listed : goal.expressions::append_plain-returns-in-Listed
expressions::append_plain-returns-in-Listed t c = on_ok_weaker c.append_list.result
    (as_tree c.args.expr.now _ _ _ (listed_tree c.args.expr.now _ _ c.in-Listed.is ∙ (λ i. m.listed c.args.expr.now.mark (all_trees (sym c.as_slice.ensures i)) (tree (sym c.get.ensures i))))) c.append_list.ensures

pub expressions::append_plain-returns-in-Tuple : goal.expressions::append_plain-returns-in-Tuple
expressions::append_plain-returns-in-Tuple t c = on_ok_weaker c.append_tuple.result
    (as_tree c.args.expr.now _ _ _ (tuple_tree c.args.expr.now _ c.in-Tuple.is ∙ (λ i. m.tuple c.args.expr.now.mark (all_trees (sym c.as_slice-in-Tuple.ensures i))))) c.append_tuple.ensures

pub expressions::append_plain-returns-in-Binary : goal.expressions::append_plain-returns-in-Binary
expressions::append_plain-returns-in-Binary t c = on_ok_weaker c.append_binary.result
    (as_tree c.args.expr.now _ _ _ (binary_tree c.args.expr.now _ c.in-Binary.is ∙ (λ i. m.binary c.args.expr.now.mark (all_segments (sym c.as_slice-in-Binary.ensures i))))) c.append_binary.ensures

pub expressions::append_plain-returns-in-Values : goal.expressions::append_plain-returns-in-Values
expressions::append_plain-returns-in-Values t c = on_ok_weaker c.append_values.result
    (as_tree c.args.expr.now _ _ _ (values_tree c.args.expr.now _ c.in-Values.is ∙ (λ i. m.values c.args.expr.now.mark (all_trees (sym c.as_slice-in-Values.ensures i))))) c.append_values.ensures

pub expressions::append_plain-returns-in-Chain : goal.expressions::append_plain-returns-in-Chain
expressions::append_plain-returns-in-Chain t c = on_ok_weaker c.append_chain.result
    (as_tree c.args.expr.now _ _ _ (chain_tree c.args.expr.now _ _ c.in-Chain.is ∙ (λ i. m.chain c.args.expr.now.mark (all_steps (sym c.as_slice-in-Chain.ensures i)) (tree (sym c.get-in-Chain.ensures i))))) c.append_chain.ensures

pub expressions::append_plain-returns-in-Case : goal.expressions::append_plain-returns-in-Case
expressions::append_plain-returns-in-Case t c = on_ok_weaker c.append_case.result
    (as_tree c.args.expr.now _ _ _ (case_tree c.args.expr.now _ _ c.in-Case.is ∙ (λ i. m.case c.args.expr.now.mark (tree (sym c.get-in-Case.ensures i)) (all_clauses (sym c.as_slice-in-Case.ensures i))))) c.append_case.ensures

pub expressions::append_plain-returns-in-Letrec : goal.expressions::append_plain-returns-in-Letrec
expressions::append_plain-returns-in-Letrec t c = on_ok_weaker c.append_letrec.result
    (as_tree c.args.expr.now _ _ _ (letrec_tree c.args.expr.now _ _ c.in-Letrec.is ∙ (λ i. m.letrec c.args.expr.now.mark (all_defs (sym c.as_slice-in-Letrec.ensures i)) (tree (sym c.get-in-Letrec.ensures i))))) c.append_letrec.ensures

pub expressions::append_plain-returns-in-Apply : goal.expressions::append_plain-returns-in-Apply
expressions::append_plain-returns-in-Apply t c = on_ok_weaker c.append_apply.result
    (as_tree c.args.expr.now _ _ _ (apply_tree c.args.expr.now _ _ c.in-Apply.is ∙ (λ i. m.apply c.args.expr.now.mark (tree (sym c.get-in-Apply.ensures i)) (all_trees (sym c.as_slice-in-Apply.ensures i))))) c.append_apply.ensures

pub expressions::append_plain-returns-in-Call : goal.expressions::append_plain-returns-in-Call
expressions::append_plain-returns-in-Call t c = on_ok_weaker c.append_call.result
    (as_tree c.args.expr.now _ _ _ (call_tree c.args.expr.now _ _ _ c.in-Call.is
    ∙ (λ i. m.call c.args.expr.now.mark (tree (sym c.get-in-Call.ensures i)) (tree (sym c.get-in-Call-2.ensures i)) (all_trees (sym c.as_slice-in-Call.ensures i))))) c.append_call.ensures

pub expressions::append_plain-returns-in-Primop : goal.expressions::append_plain-returns-in-Primop
expressions::append_plain-returns-in-Primop t c = on_ok_weaker c.append_primop.result
    (as_tree c.args.expr.now _ _ _ (primop_tree c.args.expr.now _ _ c.in-Primop.is ∙ (λ i. m.primop c.args.expr.now.mark c.in-Primop.name (all_trees (sym c.as_slice-in-Primop.ensures i))))) c.append_primop.ensures

pub expressions::append_plain-returns-in-Try : goal.expressions::append_plain-returns-in-Try
expressions::append_plain-returns-in-Try t c = on_ok_weaker c.append_try.result (as_tree c.args.expr.now _ _ _ (try_tree c.args.expr.now _ c.in-Try.is)) c.append_try.ensures

pub expressions::append_plain-returns-in-Receive : goal.expressions::append_plain-returns-in-Receive
expressions::append_plain-returns-in-Receive t c = on_ok_weaker c.append_receive.result
    (as_tree c.args.expr.now _ _ _ (receive_tree c.args.expr.now _ _ _ c.in-Receive.is
    ∙ (λ i. m.receive c.args.expr.now.mark (all_clauses (sym c.as_slice-in-Receive.ensures i)) (tree (sym c.get-in-Receive.ensures i)) (tree (sym c.get-in-Receive-2.ensures i))))) c.append_receive.ensures

pub expressions::append_plain-returns-in-Catch : goal.expressions::append_plain-returns-in-Catch
expressions::append_plain-returns-in-Catch t c = on_ok_weaker c.append_catch.result
    (as_tree c.args.expr.now _ _ _ (catch_tree c.args.expr.now _ c.in-Catch.is ∙ (λ i. m.catch c.args.expr.now.mark (tree (sym c.get-in-Catch.ensures i))))) c.append_catch.ensures

pub expressions::append_expression-returns : goal.expressions::append_expression-returns
expressions::append_expression-returns t c = on_ok_weaker c.append_closed.result (expression_written c.args.expr.now _ _ _ _ c.in_ok-append_opened.ensures c.in_ok-append_plain.ensures) c.append_closed.ensures

pub expressions::append_tail-returns-in-Lit : goal.expressions::append_tail-returns-in-Lit
expressions::append_tail-returns-in-Lit t c = on_ok_weaker c.append_literal_tail.result (literal_as_tail c.args.tail.now _ _ _ c.in-Lit.is) c.append_literal_tail.ensures

pub expressions::append_tail-returns-in-Listed : goal.expressions::append_tail-returns-in-Listed
expressions::append_tail-returns-in-Listed t c = on_ok_weaker c.append_listed_tail.result (list_as_tail c.args.tail.now _ _ _ _ c.in-Listed.is) c.append_listed_tail.ensures

pub patterns::append_plain_pattern-returns-in-Var : goal.patterns::append_plain_pattern-returns-in-Var
patterns::append_plain_pattern-returns-in-Var t c = on_ok_weaker c.append_variable.result (as_pattern c.args.pattern.now _ _ _ (binds_pattern c.args.pattern.now _ c.in-Var.is)) c.append_variable.ensures

pub patterns::append_plain_pattern-returns-in-Lit : goal.patterns::append_plain_pattern-returns-in-Lit
patterns::append_plain_pattern-returns-in-Lit t c = on_ok_weaker c.append_literal.result (as_pattern c.args.pattern.now _ _ _ (equals_pattern c.args.pattern.now _ c.in-Lit.is)) c.append_literal.ensures

pub patterns::append_plain_pattern-returns-in-Listed : goal.patterns::append_plain_pattern-returns-in-Listed
patterns::append_plain_pattern-returns-in-Listed t c = on_ok_weaker c.append_pattern_list.result
    (as_pattern c.args.pattern.now _ _ _ (list_of_pattern c.args.pattern.now _ _ c.in-Listed.is ∙ (λ i. m.list_of c.args.pattern.now.mark (all_patterns (sym c.as_slice.ensures i)) (pattern_tree (sym c.get.ensures i)))))
    c.append_pattern_list.ensures

pub patterns::append_plain_pattern-returns-in-Tuple : goal.patterns::append_plain_pattern-returns-in-Tuple
patterns::append_plain_pattern-returns-in-Tuple t c = on_ok_weaker c.append_pattern_tuple.result
    (as_pattern c.args.pattern.now _ _ _ (tuple_of_pattern c.args.pattern.now _ c.in-Tuple.is ∙ (λ i. m.tuple_of c.args.pattern.now.mark (all_patterns (sym c.as_slice-in-Tuple.ensures i))))) c.append_pattern_tuple.ensures

pub patterns::append_plain_pattern-returns-in-Map : goal.patterns::append_plain_pattern-returns-in-Map
patterns::append_plain_pattern-returns-in-Map t c = on_ok_weaker c.append_pattern_map.result
    (as_pattern c.args.pattern.now _ _ _ (map_of_pattern c.args.pattern.now _ c.in-Map.is ∙ (λ i. m.map_of c.args.pattern.now.mark (all_pat_pairs (sym c.as_slice-in-Map.ensures i))))) c.append_pattern_map.ensures

pub patterns::append_plain_pattern-returns-in-Binary : goal.patterns::append_plain_pattern-returns-in-Binary
patterns::append_plain_pattern-returns-in-Binary t c = on_ok_weaker c.append_pattern_binary.result
    (as_pattern c.args.pattern.now _ _ _ (binary_of_pattern c.args.pattern.now _ c.in-Binary.is ∙ (λ i. m.binary_of c.args.pattern.now.mark (all_pat_segments (sym c.as_slice-in-Binary.ensures i))))) c.append_pattern_binary.ensures

pub patterns::append_plain_pattern-returns-in-Alias : goal.patterns::append_plain_pattern-returns-in-Alias
patterns::append_plain_pattern-returns-in-Alias t c = on_ok_weaker c.append_alias.result
    (as_pattern c.args.pattern.now _ _ _ (alias_pattern c.args.pattern.now _ _ c.in-Alias.is ∙ (λ i. m.alias c.args.pattern.now.mark c.in-Alias.variable (pattern_tree (sym c.get-in-Alias.ensures i))))) c.append_alias.ensures

pub patterns::append_pattern-returns : goal.patterns::append_pattern-returns
patterns::append_pattern-returns t c = on_ok_weaker c.append_closed.result (pattern_written c.args.pattern.now _ _ _ _ c.in_ok-append_opened.ensures c.in_ok-append_plain_pattern.ensures) c.append_closed.ensures

pub expressions::append_list-returns : goal.expressions::append_list-returns
expressions::append_list-returns t c = on_ok_weaker c.append-2.result
    (λ e. (both (fixed (λ rest. symbol (codes "[") ∷ rest) _ _ _ c.in_ok-append.ensures.ok (λ rest. refl))
    (both c.in_ok-append_expressions.ensures (both c.in_ok-append_tail.ensures (fixed (λ rest. symbol (codes "]") ∷ rest) _ _ _ e (λ rest. refl)))))) c.append-2.ensures.ok

pub expressions::append_listed_tail-returns : goal.expressions::append_listed_tail-returns
expressions::append_listed_tail-returns t c = on_ok_weaker c.append_annotation.result
    (λ e. (both (fixed (λ rest. symbol (codes "|") ∷ symbol (codes "(") ∷ rest) _ _ _ c.in_ok-append.ensures.ok (λ rest. refl)) (both c.in_ok-append_plain.ensures e))) c.append_annotation.ensures

pub expressions::append_tuple-returns : goal.expressions::append_tuple-returns
expressions::append_tuple-returns t c = on_ok_weaker c.append-2.result
    (λ e. (both (fixed (λ rest. symbol (codes "{") ∷ rest) _ _ _ c.in_ok-append.ensures.ok (λ rest. refl)) (both c.in_ok-append_expressions.ensures (fixed (λ rest. symbol (codes "}") ∷ rest) _ _ _ e (λ rest. refl)))))
    c.append-2.ensures.ok

pub expressions::append_binary-returns : goal.expressions::append_binary-returns
expressions::append_binary-returns t c = on_ok_weaker c.append-2.result
    (λ e. (both (fixed (λ rest. symbol (codes "#{") ∷ rest) _ _ _ c.in_ok-append.ensures.ok (λ rest. refl)) (both c.in_ok-append_segments.ensures (fixed (λ rest. symbol (codes "}#") ∷ rest) _ _ _ e (λ rest. refl)))))
    c.append-2.ensures.ok

pub expressions::append_values-returns : goal.expressions::append_values-returns
expressions::append_values-returns t c = on_ok_weaker c.append-2.result
    (λ e. (both (fixed (λ rest. symbol (codes "<") ∷ rest) _ _ _ c.in_ok-append.ensures.ok (λ rest. refl)) (both c.in_ok-append_expressions.ensures (fixed (λ rest. symbol (codes ">") ∷ rest) _ _ _ e (λ rest. refl)))))
    c.append-2.ensures.ok

pub expressions::append_case-returns : goal.expressions::append_case-returns
expressions::append_case-returns t c = on_ok_weaker c.append-3.result
    (λ e. (both (fixed (λ rest. reserved (codes "case") ∷ rest) _ _ _ c.in_ok-append.ensures.ok (λ rest. refl))
    (both c.in_ok-append_expression.ensures (both (fixed (λ rest. reserved (codes "of") ∷ rest) _ _ _ c.in_ok-append-2.ensures.ok (λ rest. refl))
    (both c.in_ok-append_clauses.ensures (fixed (λ rest. reserved (codes "end") ∷ rest) _ _ _ e (λ rest. refl))))))) c.append-3.ensures.ok

pub expressions::append_letrec-returns : goal.expressions::append_letrec-returns
expressions::append_letrec-returns t c = on_ok_weaker c.append_expression.result
    (λ e. (both (fixed (λ rest. reserved (codes "letrec") ∷ rest) _ _ _ c.in_ok-append.ensures.ok (λ rest. refl))
    (both c.in_ok-append_functions.ensures (both (fixed (λ rest. reserved (codes "in") ∷ rest) _ _ _ c.in_ok-append-2.ensures.ok (λ rest. refl)) e)))) c.append_expression.ensures

pub expressions::append_apply-returns : goal.expressions::append_apply-returns
expressions::append_apply-returns t c = on_ok_weaker c.append_args.result (λ e. (both (fixed (λ rest. reserved (codes "apply") ∷ rest) _ _ _ c.in_ok-append.ensures.ok (λ rest. refl)) (both c.in_ok-append_expression.ensures e)))
    c.append_args.ensures

pub expressions::append_call-returns : goal.expressions::append_call-returns
expressions::append_call-returns t c = on_ok_weaker c.append_args.result
    (λ e. (both (fixed (λ rest. reserved (codes "call") ∷ rest) _ _ _ c.in_ok-append.ensures.ok (λ rest. refl))
    (both c.in_ok-append_expression.ensures (both (fixed (λ rest. symbol (codes ":") ∷ rest) _ _ _ c.in_ok-append-2.ensures.ok (λ rest. refl)) (both c.in_ok-append_expression-2.ensures e))))) c.append_args.ensures

pub expressions::append_primop-returns : goal.expressions::append_primop-returns
expressions::append_primop-returns t c = on_ok_weaker c.append_args.result (λ e.
    (both (fixed (λ rest. reserved (codes "primop") ∷ rest) _ _ _ c.in_ok-append.ensures.ok (λ rest. refl)) (both c.in_ok-append_atom.ensures e))) c.append_args.ensures

pub expressions::append_args-returns : goal.expressions::append_args-returns
expressions::append_args-returns t c = on_ok_weaker c.append-2.result
    (λ e. (both (fixed (λ rest. symbol (codes "(") ∷ rest) _ _ _ c.in_ok-append.ensures.ok (λ rest. refl)) (both c.in_ok-append_expressions.ensures (fixed (λ rest. symbol (codes ")") ∷ rest) _ _ _ e (λ rest. refl)))))
    c.append-2.ensures.ok

pub expressions::append_receive-returns : goal.expressions::append_receive-returns
expressions::append_receive-returns t c = on_ok_weaker c.append_expression-2.result
    (λ e. (both (fixed (λ rest. reserved (codes "receive") ∷ rest) _ _ _ c.in_ok-append.ensures.ok (λ rest. refl))
    (both c.in_ok-append_clauses.ensures (both (fixed (λ rest. reserved (codes "after") ∷ rest) _ _ _ c.in_ok-append-2.ensures.ok (λ rest. refl))
    (both c.in_ok-append_expression.ensures (both (fixed (λ rest. symbol (codes "->") ∷ rest) _ _ _ c.in_ok-append-3.ensures.ok (λ rest. refl)) e)))))) c.append_expression-2.ensures

pub expressions::append_catch-returns : goal.expressions::append_catch-returns
expressions::append_catch-returns t c = on_ok_weaker c.append_expression.result (λ e. (both (fixed (λ rest. reserved (codes "catch") ∷ rest) _ _ _ c.in_ok-append.ensures.ok (λ rest. refl)) e)) c.append_expression.ensures

pub patterns::append_pattern_list-returns : goal.patterns::append_pattern_list-returns
patterns::append_pattern_list-returns t c = on_ok_weaker c.append-2.result (λ e.
    (both (fixed (λ rest. symbol (codes "[") ∷ rest) _ _ _ c.in_ok-append.ensures.ok (λ rest. refl))
    (both c.in_ok-append_patterns.ensures (both c.in_ok-append_pattern_tail.ensures (fixed (λ rest. symbol (codes "]") ∷ rest) _ _ _ e (λ rest. refl)))))) c.append-2.ensures.ok

pub patterns::append_pattern_tuple-returns : goal.patterns::append_pattern_tuple-returns
patterns::append_pattern_tuple-returns t c = on_ok_weaker c.append-2.result (λ e.
    (both (fixed (λ rest. symbol (codes "{") ∷ rest) _ _ _ c.in_ok-append.ensures.ok (λ rest. refl)) (both c.in_ok-append_patterns.ensures (fixed (λ rest. symbol (codes "}") ∷ rest) _ _ _ e (λ rest. refl))))) c.append-2.ensures.ok

pub patterns::append_pattern_map-returns : goal.patterns::append_pattern_map-returns
patterns::append_pattern_map-returns t c = on_ok_weaker c.append-2.result
    (λ e. (both (fixed (λ rest. symbol (codes "~{") ∷ rest) _ _ _ c.in_ok-append.ensures.ok (λ rest. refl)) (both c.in_ok-append_pattern_pairs.ensures (fixed (λ rest. symbol (codes "}~") ∷ rest) _ _ _ e (λ rest. refl)))))
    c.append-2.ensures.ok

pub patterns::append_pattern_binary-returns : goal.patterns::append_pattern_binary-returns
patterns::append_pattern_binary-returns t c = on_ok_weaker c.append-2.result (λ e.
    (both (fixed (λ rest. symbol (codes "#{") ∷ rest) _ _ _ c.in_ok-append.ensures.ok (λ rest. refl)) (both c.in_ok-append_pattern_segments.ensures (fixed (λ rest. symbol (codes "}#") ∷ rest) _ _ _ e (λ rest. refl)))))
    c.append-2.ensures.ok

pub patterns::append_alias-returns : goal.patterns::append_alias-returns
patterns::append_alias-returns t c = on_ok_weaker c.append_pattern.result (λ e. (both c.in_ok-append_listed_variable.ensures (both (fixed (λ rest. symbol (codes "=") ∷ rest) _ _ _ c.in_ok-append.ensures.ok (λ rest. refl)) e)))
    c.append_pattern.ensures

pub expressions::append_fun-returns : goal.expressions::append_fun-returns
expressions::append_fun-returns t c = on_ok_weaker c.append_expression.result (λ e.
    (both (fixed (λ rest. reserved (codes "fun") ∷ symbol (codes "(") ∷ rest) _ _ _ c.in_ok-append.ensures.ok (λ rest. refl))
    (both (at_variables _ _ c.as_slice.ensures c.in_ok-append_variables.ensures)
    (both (fixed (λ rest. symbol (codes ")") ∷ symbol (codes "->") ∷ rest) _ _ _ c.in_ok-append-2.ensures.ok (λ rest. refl)) (at_expression _ _ c.get.ensures e))))) c.append_expression.ensures

pub expressions::append_map_pairs-returns : goal.expressions::append_map_pairs-returns
expressions::append_map_pairs-returns t c = on_ok_weaker c.append_pairs.result (λ e. (both (fixed (λ rest. symbol (codes "~{") ∷ rest) _ _ _ c.in_ok-append.ensures.ok (λ rest. refl)) e)) c.append_pairs.ensures

pub expressions::append_old_map-returns : goal.expressions::append_old_map-returns
expressions::append_old_map-returns t c = on_ok_weaker c.append-2.result
    (λ e. (both (fixed (λ rest. symbol (codes "|") ∷ rest) _ _ _ c.in_ok-append.ensures.ok (λ rest. refl)) (both c.in_ok-append_expression.ensures (fixed (λ rest. symbol (codes "}~") ∷ rest) _ _ _ e (λ rest. refl)))))
    c.append-2.ensures.ok

pub expressions::append_updated-returns-in-Some : goal.expressions::append_updated-returns-in-Some
expressions::append_updated-returns-in-Some t c = on_ok_weaker c.append_old_map.result (λ e. map_end_some _ _ _ _ _ c.in-Some.is c.get.ensures e) c.append_old_map.ensures

pub expressions::append_updated-returns-in-None : goal.expressions::append_updated-returns-in-None
expressions::append_updated-returns-in-None t c = on_ok_weaker c.append.result (λ e. map_end_none _ _ _ c.in-None.is e) c.append.ensures.ok

pub expressions::append_chain-returns : goal.expressions::append_chain-returns
expressions::append_chain-returns t c = on_ok_weaker c.append_steps_closed.result (λ e. chain_written _ _ _ _ _ _ c.in_ok-append_steps.ensures c.in_ok-append_expression.ensures e) c.append_steps_closed.ensures

pub expressions::append_try-returns : goal.expressions::append_try-returns
expressions::append_try-returns t c = on_ok_weaker c.append_expression-3.result (λ e.
    (both (fixed (λ rest. reserved (codes "try") ∷ rest) _ _ _ c.in_ok-append.ensures.ok (λ rest. refl))
    (both (at_expression _ _ c.get.ensures c.in_ok-append_expression.ensures) (both (fixed (λ rest. reserved (codes "of") ∷ symbol (codes "<") ∷ rest) _ _ _ c.in_ok-append-2.ensures.ok (λ rest. refl))
    (both (at_variables _ _ c.as_slice.ensures c.in_ok-append_variables.ensures)
    (both (fixed (λ rest. symbol (codes ">") ∷ symbol (codes "->") ∷ rest) _ _ _ c.in_ok-append-3.ensures.ok (λ rest. refl))
    (both (at_expression _ _ c.get-2.ensures c.in_ok-append_expression-2.ensures)
    (both (fixed (λ rest. reserved (codes "catch") ∷ symbol (codes "<") ∷ rest) _ _ _ c.in_ok-append-4.ensures.ok (λ rest. refl))
    (both (at_variables _ _ c.as_slice-2.ensures c.in_ok-append_variables-2.ensures)
    (both (fixed (λ rest. symbol (codes ">") ∷ symbol (codes "->") ∷ rest) _ _ _ c.in_ok-append-5.ensures.ok (λ rest. refl)) (at_expression _ _ c.get-3.ensures e))))))))))) c.append_expression-3.ensures

pub lists::append_let-returns : goal.lists::append_let-returns
lists::append_let-returns t c = on_ok_weaker c.append-3.result
    (λ e. (both c.in_ok-append_opened.ensures (both (fixed (λ rest. reserved (codes "let") ∷ symbol (codes "<") ∷ rest) _ _ _ c.in_ok-append.ensures.ok (λ rest. refl))
    (both c.in_ok-append_variables.ensures (both (fixed (λ rest. symbol (codes ">") ∷ symbol (codes "=") ∷ rest) _ _ _ c.in_ok-append-2.ensures.ok (λ rest. refl))
    (both c.in_ok-append_expression.ensures (fixed (λ rest. reserved (codes "in") ∷ rest) _ _ _ e (λ rest. refl)))))))) c.append-3.ensures.ok

pub lists::append_do-returns : goal.lists::append_do-returns
lists::append_do-returns t c = on_ok_weaker c.append_expression.result (λ e. (both c.in_ok-append_opened.ensures (both (fixed (λ rest. reserved (codes "do") ∷ rest) _ _ _ c.in_ok-append.ensures.ok (λ rest. refl)) e)))
    c.append_expression.ensures

pub lists::append_segment-returns : goal.lists::append_segment-returns
lists::append_segment-returns t c = on_ok_weaker c.append-3.result (λ e. segment_written c.args.segment.now
    (both (fixed (λ rest. symbol (codes "#<") ∷ rest) _ _ _ c.in_ok-append.ensures.ok (λ rest. refl))
    (both c.in_ok-append_expression.ensures (both (fixed (λ rest. symbol (codes ">") ∷ symbol (codes "(") ∷ rest) _ _ _ c.in_ok-append-2.ensures.ok (λ rest. refl))
    (both (at_expressions _ _ c.as_slice.ensures c.in_ok-append_expressions.ensures) (fixed (λ rest. symbol (codes ")") ∷ rest) _ _ _ e (λ rest. refl))))))) c.append-3.ensures.ok

pub patterns::append_pattern_segment-returns : goal.patterns::append_pattern_segment-returns
patterns::append_pattern_segment-returns t c = on_ok_weaker c.append-3.result (λ e.
    pat_segment_written c.args.segment.now (both (fixed (λ rest. symbol (codes "#<") ∷ rest) _ _ _ c.in_ok-append.ensures.ok (λ rest. refl))
    (both c.in_ok-append_pattern.ensures (both (fixed (λ rest. symbol (codes ">") ∷ symbol (codes "(") ∷ rest) _ _ _ c.in_ok-append-2.ensures.ok (λ rest. refl))
    (both (at_expressions _ _ c.as_slice.ensures c.in_ok-append_expressions.ensures) (fixed (λ rest. symbol (codes ")") ∷ rest) _ _ _ e (λ rest. refl))))))) c.append-3.ensures.ok

pub lists::append_pair-returns : goal.lists::append_pair-returns
lists::append_pair-returns t c = on_ok_weaker c.append_expression-2.result (λ e. pair_written c.args.pair.now (both c.in_ok-append_expression.ensures (both c.in_ok-append_arrow.ensures e))) c.append_expression-2.ensures

pub patterns::append_pattern_pair-returns : goal.patterns::append_pattern_pair-returns
patterns::append_pattern_pair-returns t c = on_ok_weaker c.append_pattern.result
    (λ e. pat_pair_written c.args.pair.now (both c.in_ok-append_expression.ensures (both (fixed (λ rest. symbol (codes ":=") ∷ rest) _ _ _ c.in_ok-append.ensures.ok (λ rest. refl)) e))) c.append_pattern.ensures

pub lists::append_clause-returns : goal.lists::append_clause-returns
lists::append_clause-returns t c = on_ok_weaker c.append_closed.result (λ e. clause_written c.args.clause.now
    (both c.in_ok-append_opened.ensures (both (fixed (λ rest. symbol (codes "<") ∷ rest) _ _ _ c.in_ok-append.ensures.ok (λ rest. refl))
    (both (at_patterns _ _ c.as_slice.ensures c.in_ok-append_patterns.ensures) (both (fixed (λ rest. symbol (codes ">") ∷ reserved (codes "when") ∷ rest) _ _ _ c.in_ok-append-2.ensures.ok (λ rest. refl))
    (both c.in_ok-append_expression.ensures (both (fixed (λ rest. symbol (codes "->") ∷ rest) _ _ _ c.in_ok-append-3.ensures.ok (λ rest. refl)) (both c.in_ok-append_expression-2.ensures e)))))))) c.append_closed.ensures

pub lists::append_definition-returns : goal.lists::append_definition-returns
lists::append_definition-returns t c = on_ok_weaker c.append_closed.result (λ e.
    (both c.in_ok-append_name.ensures (both (fixed (λ rest. symbol (codes "=") ∷ rest) _ _ _ c.in_ok-append.ensures.ok (λ rest. refl))
    (both c.in_ok-append_opened.ensures (both (fixed (λ rest. reserved (codes "fun") ∷ symbol (codes "(") ∷ rest) _ _ _ c.in_ok-append-2.ensures.ok (λ rest. refl))
    (both (at_variables _ _ c.as_slice.ensures c.in_ok-append_variables.ensures)
    (both (fixed (λ rest. symbol (codes ")") ∷ symbol (codes "->") ∷ rest) _ _ _ c.in_ok-append-3.ensures.ok (λ rest. refl)) (both (at_expression _ _ c.get.ensures c.in_ok-append_expression.ensures) e)))))))) c.append_closed.ensures

pub expressions::append_plain-returns-in_ok-append_map_pairs-in-Map : goal.expressions::append_plain-returns-in_ok-append_map_pairs-in-Map
expressions::append_plain-returns-in_ok-append_map_pairs-in-Map t c = on_ok_weaker c.append_updated.result
    (map_written c.args.expr.now _ _ _ _ _ _ c.in-Map.is c.as_slice-in-Map.ensures c.in_ok-append_map_pairs-in-Map.ensures) c.append_updated.ensures

pub expressions::append_tail-returns-in_ok-append-in_default : goal.expressions::append_tail-returns-in_ok-append-in_default
expressions::append_tail-returns-in_ok-append-in_default t c =
    on_ok_weaker c.append_expression.result (λ e. expression_as_tail c.args.tail.now _ _ c.in_default.not-Lit c.in_default.not-Listed
    (both (fixed (λ rest. symbol (codes "|") ∷ rest) _ _ _ c.in_ok-append-in_default.ensures.ok (λ rest. refl)) e)) c.append_expression.ensures

pub patterns::append_pattern_tail-returns-in-Lit : goal.patterns::append_pattern_tail-returns-in-Lit
patterns::append_pattern_tail-returns-in-Lit t c = on_ok_weaker c.append_literal_tail.result (literal_as_pattern_tail c.args.tail.now _ _ _ c.in-Lit.is) c.append_literal_tail.ensures

pub patterns::append_pattern_tail-returns-in_ok-append_plain_pattern-in-Listed : goal.patterns::append_pattern_tail-returns-in_ok-append_plain_pattern-in-Listed
patterns::append_pattern_tail-returns-in_ok-append_plain_pattern-in-Listed t c =
    on_ok_weaker c.append_annotation.result
    (λ e. list_as_pattern_tail c.args.tail.now _ _ _ _ c.in-Listed.is (both (fixed (λ rest. symbol (codes "|") ∷ symbol (codes "(") ∷ rest) _ _ _ c.in_ok-append-in-Listed.ensures.ok (λ rest. refl))
    (both c.in_ok-append_plain_pattern-in-Listed.ensures e)))
    c.append_annotation.ensures

pub patterns::append_pattern_tail-returns-in_ok-append-in_default : goal.patterns::append_pattern_tail-returns-in_ok-append-in_default
patterns::append_pattern_tail-returns-in_ok-append-in_default t c =
    on_ok_weaker c.append_pattern.result (λ e. pattern_as_tail c.args.tail.now _ _ c.in_default.not-Lit c.in_default.not-Listed
    (both (fixed (λ rest. symbol (codes "|") ∷ rest) _ _ _ c.in_ok-append-in_default.ensures.ok (λ rest. refl)) e)) c.append_pattern.ensures
