use Rattle.std.proofs.Common.{◌+◌, ◌*◌, max, true, drop}
use denote.Param.Weighed.{most}
use Rattle.core_ast.proofs.syntax.Expr.TheLaws as E
use Rattle.core_ast.proofs.syntax.Clause.TheLaws as C
use Rattle.core_ast.proofs.syntax.Pattern.TheLaws as P
use Rattle.core_ast.specs.Tree.{all_trees, all_clauses, all_defs, all_pairs, all_segments, all_steps, all_patterns, all_pat_pairs, all_pat_segments}
use Rattle.core_print.specs.Canonical.{expressions, pairs, segments, clauses, definitions, patterns, pat_pairs, pat_segments}
use Rattle.core_print.specs.steps.Parts.{fronts}
use Rattle.core_print.proofs.Adding.{Still}
use Rattle.core_print.proofs.+print.Given as goal

abbrev pub invariant-lists::append_expressions-loop-expr : goal.invariant-lists::append_expressions-loop-expr
invariant-lists::append_expressions-loop-expr l = Still (expressions l.first (all_trees (drop l.expr-index l.exprs))) (expressions true (all_trees l.exprs)) l.fn.out l.out

abbrev pub invariant-lists::append_pairs-loop-pair : goal.invariant-lists::append_pairs-loop-pair
invariant-lists::append_pairs-loop-pair l = Still (pairs l.first (all_pairs (drop l.pair-index l.pairs))) (pairs true (all_pairs l.pairs)) l.fn.out l.out

abbrev pub invariant-lists::append_segments-loop-segment : goal.invariant-lists::append_segments-loop-segment
invariant-lists::append_segments-loop-segment l = Still (segments l.first (all_segments (drop l.segment-index l.segments))) (segments true (all_segments l.segments)) l.fn.out l.out

abbrev pub invariant-patterns::append_patterns-loop-pattern : goal.invariant-patterns::append_patterns-loop-pattern
invariant-patterns::append_patterns-loop-pattern l = Still (patterns l.first (all_patterns (drop l.pattern-index l.patterns))) (patterns true (all_patterns l.patterns)) l.fn.out l.out

abbrev pub invariant-patterns::append_pattern_pairs-loop-pair : goal.invariant-patterns::append_pattern_pairs-loop-pair
invariant-patterns::append_pattern_pairs-loop-pair l = Still (pat_pairs l.first (all_pat_pairs (drop l.pair-index l.pairs))) (pat_pairs true (all_pat_pairs l.pairs)) l.fn.out l.out

abbrev pub invariant-patterns::append_pattern_segments-loop-segment : goal.invariant-patterns::append_pattern_segments-loop-segment
invariant-patterns::append_pattern_segments-loop-segment l = Still (pat_segments l.first (all_pat_segments (drop l.segment-index l.segments))) (pat_segments true (all_pat_segments l.segments)) l.fn.out l.out

abbrev pub invariant-lists::append_steps-loop-step : goal.invariant-lists::append_steps-loop-step
invariant-lists::append_steps-loop-step l = Still (fronts (all_steps (drop l.step-index l.steps))) (fronts (all_steps l.steps)) l.fn.out l.out

abbrev pub invariant-lists::append_clauses-loop-clause : goal.invariant-lists::append_clauses-loop-clause
invariant-lists::append_clauses-loop-clause l = Still (clauses (all_clauses (drop l.clause-index l.clauses))) (clauses (all_clauses l.clauses)) l.fn.out l.out

abbrev pub invariant-lists::append_functions-loop-function : goal.invariant-lists::append_functions-loop-function
invariant-lists::append_functions-loop-function l = Still (definitions (all_defs (drop l.function-index l.functions))) (definitions (all_defs l.functions)) l.fn.out l.out

abbrev pub decreases-expressions::append_expression : goal.decreases-expressions::append_expression
decreases-expressions::append_expression l = 10 * goal.size-expressions::append_expression l + 3

abbrev pub decreases-expressions::append_plain : goal.decreases-expressions::append_plain
decreases-expressions::append_plain l = 10 * goal.size-expressions::append_plain l + 2

abbrev pub decreases-expressions::append_fun : goal.decreases-expressions::append_fun
decreases-expressions::append_fun l = 10 * goal.size-expressions::append_fun l + 4

abbrev pub decreases-expressions::append_tail : goal.decreases-expressions::append_tail
decreases-expressions::append_tail l = 10 * goal.size-expressions::append_tail l + 5

abbrev pub decreases-expressions::append_listed_tail : goal.decreases-expressions::append_listed_tail
decreases-expressions::append_listed_tail l = 10 * goal.size-expressions::append_listed_tail l + 4

abbrev pub decreases-expressions::append_tuple : goal.decreases-expressions::append_tuple
decreases-expressions::append_tuple l = 10 * goal.size-expressions::append_tuple l + 6

abbrev pub decreases-expressions::append_binary : goal.decreases-expressions::append_binary
decreases-expressions::append_binary l = 10 * goal.size-expressions::append_binary l + 6

abbrev pub decreases-expressions::append_values : goal.decreases-expressions::append_values
decreases-expressions::append_values l = 10 * goal.size-expressions::append_values l + 6

abbrev pub decreases-expressions::append_primop : goal.decreases-expressions::append_primop
decreases-expressions::append_primop l = 10 * goal.size-expressions::append_primop l + 7

abbrev pub decreases-expressions::append_args : goal.decreases-expressions::append_args
decreases-expressions::append_args l = 10 * goal.size-expressions::append_args l + 6

abbrev pub decreases-expressions::append_try : goal.decreases-expressions::append_try
decreases-expressions::append_try l = 10 * goal.size-expressions::append_try l + 4

abbrev pub decreases-expressions::append_catch : goal.decreases-expressions::append_catch
decreases-expressions::append_catch l = 10 * goal.size-expressions::append_catch l + 4

abbrev pub decreases-lists::append_expressions : goal.decreases-lists::append_expressions
decreases-lists::append_expressions l = 10 * goal.size-lists::append_expressions l + 5

abbrev pub decreases-lists::append_pairs : goal.decreases-lists::append_pairs
decreases-lists::append_pairs l = 10 * goal.size-lists::append_pairs l + 5

abbrev pub decreases-lists::append_pair : goal.decreases-lists::append_pair
decreases-lists::append_pair l = 10 * goal.size-lists::append_pair l + 4

abbrev pub decreases-lists::append_segments : goal.decreases-lists::append_segments
decreases-lists::append_segments l = 10 * goal.size-lists::append_segments l + 5

abbrev pub decreases-lists::append_segment : goal.decreases-lists::append_segment
decreases-lists::append_segment l = 10 * goal.size-lists::append_segment l + 4

abbrev pub decreases-lists::append_steps : goal.decreases-lists::append_steps
decreases-lists::append_steps l = 10 * goal.size-lists::append_steps l + 6

abbrev pub decreases-lists::append_step : goal.decreases-lists::append_step
decreases-lists::append_step l = 10 * goal.size-lists::append_step l + 5

abbrev pub decreases-lists::append_clauses : goal.decreases-lists::append_clauses
decreases-lists::append_clauses l = 10 * goal.size-lists::append_clauses l + 5

abbrev pub decreases-lists::append_clause : goal.decreases-lists::append_clause
decreases-lists::append_clause l = 10 * goal.size-lists::append_clause l + 4

abbrev pub decreases-lists::append_functions : goal.decreases-lists::append_functions
decreases-lists::append_functions l = 10 * goal.size-lists::append_functions l + 5

abbrev pub decreases-lists::append_definition : goal.decreases-lists::append_definition
decreases-lists::append_definition l = 10 * goal.size-lists::append_definition l + 4

abbrev pub decreases-patterns::append_pattern : goal.decreases-patterns::append_pattern
decreases-patterns::append_pattern l = 10 * goal.size-patterns::append_pattern l + 3

abbrev pub decreases-patterns::append_plain_pattern : goal.decreases-patterns::append_plain_pattern
decreases-patterns::append_plain_pattern l = 10 * goal.size-patterns::append_plain_pattern l + 2

abbrev pub decreases-patterns::append_pattern_tail : goal.decreases-patterns::append_pattern_tail
decreases-patterns::append_pattern_tail l = 10 * goal.size-patterns::append_pattern_tail l + 4

abbrev pub decreases-patterns::append_pattern_tuple : goal.decreases-patterns::append_pattern_tuple
decreases-patterns::append_pattern_tuple l = 10 * goal.size-patterns::append_pattern_tuple l + 6

abbrev pub decreases-patterns::append_pattern_map : goal.decreases-patterns::append_pattern_map
decreases-patterns::append_pattern_map l = 10 * goal.size-patterns::append_pattern_map l + 6

abbrev pub decreases-patterns::append_pattern_binary : goal.decreases-patterns::append_pattern_binary
decreases-patterns::append_pattern_binary l = 10 * goal.size-patterns::append_pattern_binary l + 6

abbrev pub decreases-patterns::append_alias : goal.decreases-patterns::append_alias
decreases-patterns::append_alias l = 10 * goal.size-patterns::append_alias l + 4

abbrev pub decreases-patterns::append_patterns : goal.decreases-patterns::append_patterns
decreases-patterns::append_patterns l = 10 * goal.size-patterns::append_patterns l + 5

abbrev pub decreases-patterns::append_pattern_pairs : goal.decreases-patterns::append_pattern_pairs
decreases-patterns::append_pattern_pairs l = 10 * goal.size-patterns::append_pattern_pairs l + 5

abbrev pub decreases-patterns::append_pattern_pair : goal.decreases-patterns::append_pattern_pair
decreases-patterns::append_pattern_pair l = 10 * goal.size-patterns::append_pattern_pair l + 4

abbrev pub decreases-patterns::append_pattern_segments : goal.decreases-patterns::append_pattern_segments
decreases-patterns::append_pattern_segments l = 10 * goal.size-patterns::append_pattern_segments l + 5

abbrev pub decreases-patterns::append_pattern_segment : goal.decreases-patterns::append_pattern_segment
decreases-patterns::append_pattern_segment l = 10 * goal.size-patterns::append_pattern_segment l + 4

abbrev pub decreases-expressions::append_list : goal.decreases-expressions::append_list
decreases-expressions::append_list l = 10 * (max (goal.size-expressions::append_list l) (E.the_size l.tail.now)) + 7

abbrev pub decreases-expressions::append_chain : goal.decreases-expressions::append_chain
decreases-expressions::append_chain l = 10 * (max (goal.size-expressions::append_chain l) (E.the_size l.last.now)) + 7

abbrev pub decreases-expressions::append_case : goal.decreases-expressions::append_case
decreases-expressions::append_case l = 10 * (max (E.the_size l.arg.now) (most C.the_size l.clauses.now)) + 7

abbrev pub decreases-expressions::append_letrec : goal.decreases-expressions::append_letrec
decreases-expressions::append_letrec l = 10 * (max (goal.size-expressions::append_letrec l) (E.the_size l.body.now)) + 7

abbrev pub decreases-expressions::append_apply : goal.decreases-expressions::append_apply
decreases-expressions::append_apply l = 10 * (max (E.the_size l.operator.now) (most E.the_size l.args.now)) + 7

abbrev pub decreases-expressions::append_call : goal.decreases-expressions::append_call
decreases-expressions::append_call l = 10 * (max (E.the_size l.home.now) (max (E.the_size l.name.now) (most E.the_size l.args.now))) + 7

abbrev pub decreases-expressions::append_receive : goal.decreases-expressions::append_receive
decreases-expressions::append_receive l = 10 * (max (most C.the_size l.clauses.now) (max (E.the_size l.timeout.now) (E.the_size l.action.now))) + 7

abbrev pub decreases-patterns::append_pattern_list : goal.decreases-patterns::append_pattern_list
decreases-patterns::append_pattern_list l = 10 * (max (goal.size-patterns::append_pattern_list l) (P.the_size l.tail.now)) + 7

abbrev pub decreases-expressions::append_map_pairs : goal.decreases-expressions::append_map_pairs
decreases-expressions::append_map_pairs l = 10 * goal.size-expressions::append_map_pairs l + 6

abbrev pub decreases-expressions::append_updated : goal.decreases-expressions::append_updated
decreases-expressions::append_updated l = 10 * goal.size-expressions::append_updated l + 5

abbrev pub decreases-expressions::append_old_map : goal.decreases-expressions::append_old_map
decreases-expressions::append_old_map l = 10 * goal.size-expressions::append_old_map l + 4

abbrev pub decreases-lists::append_let : goal.decreases-lists::append_let
decreases-lists::append_let l = 10 * goal.size-lists::append_let l + 4

abbrev pub decreases-lists::append_do : goal.decreases-lists::append_do
decreases-lists::append_do l = 10 * goal.size-lists::append_do l + 4
