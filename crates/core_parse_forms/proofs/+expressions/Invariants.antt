use Rattle.std.proofs.Common.{◌≡◌, [], ◌+◌, ◌*◌, ◌<◌, ◌≤◌, length, map}
use Rattle.core_ast.specs.declared.syntax.Segment.{Segment}
use Rattle.core_ast.specs.Tree.{segment_parts, tree, def_tree, all_trees, pat_segment_parts, pattern_tree, all_patterns, pat_pair_parts}
use Rattle.core_parse_grammar.specs.Grammar.{segment, expression, pattern_segment, pattern_pair, pattern}
use Rattle.core_parse_forms.specs.steps.Items.{number_segment, number_pat_segment, number_pat_pair}
use Rattle.core_parse_grammar.specs.Weights.{weight}
use Rattle.core_parse_forms.proofs.ItemExits.{ItemsSoFar}
use Rattle.core_parse_forms.specs.steps.Chains.{ReadsSteps}
use Rattle.core_parse_forms.proofs.ClauseListExits.{MoreClauses}
use Rattle.core_parse_forms.proofs.RunExits.{DefinitionsSoFar}
use Rattle.core_parse_grammar.specs.Readings.{ReadsElements, ReadsPatternElements}
use Rattle.core_parse_forms.proofs.ExpressionListExits.{Elements}
use Rattle.core_ast.specs.declared.syntax.Expr.{Expr}
use Rattle.core_parse_grammar.specs.Labels.{number, number_pattern}
use Rattle.core_parse_forms.proofs.MapPairExits.{MapPairsSoFar}
use Rattle.core_parse_forms.proofs.PatternListExits.{PatternElements}
use Rattle.core_scan.specs.declared.sort.Sort.TheVariants as s
use Rattle.core_parse_forms.proofs.+expressions.Given as goal

abbrev pub decreases-binaries::binary : goal.decreases-binaries::binary
decreases-binaries::binary l = 16 * length l.tokens.now

abbrev pub decreases-binaries::segments : goal.decreases-binaries::segments
decreases-binaries::segments l = 16 * length l.tokens.now + 6

abbrev pub invariant-binaries::segments-loop-found : goal.invariant-binaries::segments-loop-found
invariant-binaries::segments-loop-found l = record {
  so_far : ItemsSoFar s.CloseBinary (segment l.depth) number_segment Segment segment_parts l.fn.label l.fn.tokens l.left l.items l.next_label;
  labels : l.next_label + weight l.left ≤ l.fn.label + weight l.fn.tokens;
  shorter : length l.left < length l.fn.tokens;
}

abbrev pub decreases-binaries::segments-loop-found : goal.decreases-binaries::segments-loop-found
decreases-binaries::segments-loop-found l = length l.left

abbrev pub decreases-binaries::segment : goal.decreases-binaries::segment
decreases-binaries::segment l = 16 * length l.tokens.now + 5

abbrev pub decreases-chains::chain : goal.decreases-chains::chain
decreases-chains::chain l = 16 * length l.tokens.now + 1

abbrev pub decreases-chains::steps : goal.decreases-chains::steps
decreases-chains::steps l = 16 * length l.tokens.now

abbrev pub invariant-chains::steps-loop-word : goal.invariant-chains::steps-loop-word
invariant-chains::steps-loop-word l = record {
  so_far : ReadsSteps l.depth l.label l.first.place l.fn.tokens l.frames l.left l.next_label;
  labels : l.next_label + weight l.left ≤ l.label + weight l.fn.tokens;
  shorter : length l.left < length l.fn.tokens;
}

abbrev pub decreases-chains::steps-loop-word : goal.decreases-chains::steps-loop-word
decreases-chains::steps-loop-word l = length l.left

abbrev pub decreases-chains::step : goal.decreases-chains::step
decreases-chains::step l = 16 * length l.word.rest.now + 5

abbrev pub decreases-clauses::clauses : goal.decreases-clauses::clauses
decreases-clauses::clauses l = 16 * length l.tokens.now + 6

abbrev pub invariant-clauses::clauses-loop-found : goal.invariant-clauses::clauses-loop-found
invariant-clauses::clauses-loop-found l = record {
  so_far : MoreClauses l.close l.depth l.fn.label l.fn.items l.fn.tokens l.left l.items l.next_label;
  labels : l.next_label + weight l.left ≤ l.fn.label + weight l.fn.tokens;
  shorter : length l.left ≤ length l.fn.tokens;
}

abbrev pub decreases-clauses::clauses-loop-found : goal.decreases-clauses::clauses-loop-found
decreases-clauses::clauses-loop-found l = length l.left

abbrev pub decreases-clauses::clause : goal.decreases-clauses::clause
decreases-clauses::clause l = 16 * length l.tokens.now + 5

abbrev pub decreases-clauses::head : goal.decreases-clauses::head
decreases-clauses::head l = 16 * length l.tokens.now + 4

abbrev pub decreases-clauses::head_in_brackets : goal.decreases-clauses::head_in_brackets
decreases-clauses::head_in_brackets l = 16 * length l.tokens.now + 1

abbrev pub decreases-clauses::head_with_variable : goal.decreases-clauses::head_with_variable
decreases-clauses::head_with_variable l = 16 * length l.tokens.now

abbrev pub decreases-clauses::several : goal.decreases-clauses::several
decreases-clauses::several l = 16 * length l.first.rest.now + 7

abbrev pub decreases-control_forms::case : goal.decreases-control_forms::case
decreases-control_forms::case l = 16 * length l.tokens.now

abbrev pub decreases-control_forms::try_expression : goal.decreases-control_forms::try_expression
decreases-control_forms::try_expression l = 16 * length l.tokens.now

abbrev pub decreases-control_forms::receive : goal.decreases-control_forms::receive
decreases-control_forms::receive l = 16 * length l.tokens.now

abbrev pub decreases-control_forms::catch : goal.decreases-control_forms::catch
decreases-control_forms::catch l = 16 * length l.tokens.now

abbrev pub decreases-definitions::definitions : goal.decreases-definitions::definitions
decreases-definitions::definitions l = 16 * length l.tokens.now + 6

abbrev pub invariant-definitions::definitions-loop-found : goal.invariant-definitions::definitions-loop-found
invariant-definitions::definitions-loop-found l = record {
  so_far : DefinitionsSoFar l.close l.depth l.label l.fn.tokens l.left (map def_tree l.items) l.next_label;
  labels : l.next_label + weight l.left ≤ l.label + weight l.fn.tokens;
  shorter : length l.left ≤ length l.fn.tokens;
}

abbrev pub decreases-definitions::definitions-loop-found : goal.decreases-definitions::definitions-loop-found
decreases-definitions::definitions-loop-found l = length l.left

abbrev pub decreases-definitions::definition : goal.decreases-definitions::definition
decreases-definitions::definition l = 16 * length l.tokens.now + 5

abbrev pub decreases-definitions::noted_function : goal.decreases-definitions::noted_function
decreases-definitions::noted_function l = 16 * length l.tokens.now + 6

abbrev pub decreases-definitions::function : goal.decreases-definitions::function
decreases-definitions::function l = 16 * length l.tokens.now + 5

abbrev pub decreases-expression_lists::list : goal.decreases-expression_lists::list
decreases-expression_lists::list l = 16 * length l.tokens.now + 1

abbrev pub invariant-expression_lists::list-loop-pending : goal.invariant-expression_lists::list-loop-pending
invariant-expression_lists::list-loop-pending l = record {
  so_far : ReadsElements l.depth l.label l.fn.first.place l.fn.tokens l.pending (all_trees l.items) (tree l.tail) l.rest l.next_label;
  shorter : length l.rest < length l.fn.tokens;
  labels : l.next_label + weight l.rest ≤ l.label + weight l.fn.tokens;
}

abbrev pub decreases-expression_lists::list-loop-pending : goal.decreases-expression_lists::list-loop-pending
decreases-expression_lists::list-loop-pending l = l.pending

abbrev pub decreases-expression_lists::elements : goal.decreases-expression_lists::elements
decreases-expression_lists::elements l = 16 * length l.tokens.now

abbrev pub invariant-expression_lists::elements-loop-found : goal.invariant-expression_lists::elements-loop-found
invariant-expression_lists::elements-loop-found l = record {
  so_far : Elements l.depth l.label l.fn.first.place l.fn.tokens l.left l.pending l.items l.next_label;
  shallow : l.depth + 1 ≤ 400;
  shorter : length l.left + l.pending < length l.fn.tokens;
  labels : l.next_label + weight l.left ≤ l.label + weight l.fn.tokens;
}

abbrev pub decreases-expression_lists::elements-loop-found : goal.decreases-expression_lists::elements-loop-found
decreases-expression_lists::elements-loop-found l = length l.left

abbrev pub decreases-expressions::expression : goal.decreases-expressions::expression
decreases-expressions::expression l = 16 * length l.tokens.now + 4

abbrev pub decreases-expressions::bare_expression : goal.decreases-expressions::bare_expression
decreases-expressions::bare_expression l = 16 * length l.tokens.now + 3

abbrev pub decreases-expressions::other_expression : goal.decreases-expressions::other_expression
decreases-expressions::other_expression l = 16 * length l.tokens.now + 2

abbrev pub decreases-expressions::expressions : goal.decreases-expressions::expressions
decreases-expressions::expressions l = 16 * length l.tokens.now + 5

abbrev pub invariant-expressions::expressions-loop-found : goal.invariant-expressions::expressions-loop-found
invariant-expressions::expressions-loop-found l = record {
  so_far : ItemsSoFar l.close (expression l.depth) number Expr tree l.fn.label l.fn.tokens l.left l.items l.next_label;
  labels : l.next_label + weight l.left ≤ l.fn.label + weight l.fn.tokens;
  shorter : length l.left < length l.fn.tokens;
}

abbrev pub decreases-expressions::expressions-loop-found : goal.decreases-expressions::expressions-loop-found
decreases-expressions::expressions-loop-found l = length l.left

abbrev pub decreases-forms::fun_or_external : goal.decreases-forms::fun_or_external
decreases-forms::fun_or_external l = 16 * length l.tokens.now + 1

abbrev pub decreases-forms::fun : goal.decreases-forms::fun
decreases-forms::fun l = 16 * length l.tokens.now

abbrev pub decreases-forms::tuple : goal.decreases-forms::tuple
decreases-forms::tuple l = 16 * length l.tokens.now

abbrev pub decreases-forms::values : goal.decreases-forms::values
decreases-forms::values l = 16 * length l.tokens.now

abbrev pub decreases-forms::letrec : goal.decreases-forms::letrec
decreases-forms::letrec l = 16 * length l.tokens.now

abbrev pub decreases-forms::apply : goal.decreases-forms::apply
decreases-forms::apply l = 16 * length l.tokens.now

abbrev pub decreases-forms::call : goal.decreases-forms::call
decreases-forms::call l = 16 * length l.tokens.now

abbrev pub decreases-forms::primop : goal.decreases-forms::primop
decreases-forms::primop l = 16 * length l.tokens.now

abbrev pub decreases-maps::map : goal.decreases-maps::map
decreases-maps::map l = 16 * length l.tokens.now

abbrev pub decreases-maps::pairs : goal.decreases-maps::pairs
decreases-maps::pairs l = 16 * length l.tokens.now + 7

abbrev pub invariant-maps::pairs-loop-found : goal.invariant-maps::pairs-loop-found
invariant-maps::pairs-loop-found l = record {
  so_far : MapPairsSoFar l.depth l.fn.label l.fn.tokens l.left l.items l.next_label;
  some : l.items ≡ [] → ⊥;
  labels : l.next_label + weight l.left ≤ l.fn.label + weight l.fn.tokens;
  shorter : length l.left ≤ length l.fn.tokens;
}

abbrev pub decreases-maps::pairs-loop-found : goal.decreases-maps::pairs-loop-found
decreases-maps::pairs-loop-found l = length l.left

abbrev pub decreases-maps::updated_by : goal.decreases-maps::updated_by
decreases-maps::updated_by l = 16 * length l.tokens.now + 6

abbrev pub decreases-maps::pair : goal.decreases-maps::pair
decreases-maps::pair l = 16 * length l.tokens.now + 6

abbrev pub decreases-maps::pair_in_brackets : goal.decreases-maps::pair_in_brackets
decreases-maps::pair_in_brackets l = 16 * length l.tokens.now + 5

abbrev pub decreases-maps::bare_pair : goal.decreases-maps::bare_pair
decreases-maps::bare_pair l = 16 * length l.tokens.now + 5

abbrev pub decreases-maps::pair_of_key : goal.decreases-maps::pair_of_key
decreases-maps::pair_of_key l = 16 * length l.tokens.now + 6

abbrev pub decreases-maps::value : goal.decreases-maps::value
decreases-maps::value l = 16 * length l.tokens.now + 5

abbrev pub decreases-pattern_binaries::binary_pattern : goal.decreases-pattern_binaries::binary_pattern
decreases-pattern_binaries::binary_pattern l = 16 * length l.tokens.now

abbrev pub decreases-pattern_binaries::pattern_segments : goal.decreases-pattern_binaries::pattern_segments
decreases-pattern_binaries::pattern_segments l = 16 * length l.tokens.now + 6

abbrev pub invariant-pattern_binaries::pattern_segments-loop-found : goal.invariant-pattern_binaries::pattern_segments-loop-found
invariant-pattern_binaries::pattern_segments-loop-found l = record {
  so_far : ItemsSoFar s.CloseBinary (pattern_segment l.depth) number_pat_segment _ pat_segment_parts l.fn.label l.fn.tokens l.left l.items l.next_label;
  labels : l.next_label + weight l.left ≤ l.fn.label + weight l.fn.tokens;
  shorter : length l.left ≤ length l.fn.tokens;
}

abbrev pub decreases-pattern_binaries::pattern_segments-loop-found : goal.decreases-pattern_binaries::pattern_segments-loop-found
decreases-pattern_binaries::pattern_segments-loop-found l = length l.left

abbrev pub decreases-pattern_binaries::pattern_segment : goal.decreases-pattern_binaries::pattern_segment
decreases-pattern_binaries::pattern_segment l = 16 * length l.tokens.now + 5

abbrev pub decreases-pattern_brackets::in_brackets : goal.decreases-pattern_brackets::in_brackets
decreases-pattern_brackets::in_brackets l = 16 * length l.tokens.now + 4

abbrev pub decreases-pattern_brackets::variable_in_brackets : goal.decreases-pattern_brackets::variable_in_brackets
decreases-pattern_brackets::variable_in_brackets l = 16 * length l.tokens.now

abbrev pub decreases-pattern_brackets::noted_variable : goal.decreases-pattern_brackets::noted_variable
decreases-pattern_brackets::noted_variable l = 16 * length l.second.rest.now + 7

abbrev pub decreases-pattern_brackets::named : goal.decreases-pattern_brackets::named
decreases-pattern_brackets::named l = 16 * length l.tokens.now + 6

abbrev pub decreases-pattern_brackets::noted_alias : goal.decreases-pattern_brackets::noted_alias
decreases-pattern_brackets::noted_alias l = 16 * length l.tokens.now

abbrev pub decreases-pattern_lists::pattern_list : goal.decreases-pattern_lists::pattern_list
decreases-pattern_lists::pattern_list l = 16 * length l.tokens.now + 1

abbrev pub invariant-pattern_lists::pattern_list-loop-pending : goal.invariant-pattern_lists::pattern_list-loop-pending
invariant-pattern_lists::pattern_list-loop-pending l = record {
  so_far : ReadsPatternElements l.depth l.label l.fn.first.place l.fn.tokens l.pending (all_patterns l.items) (pattern_tree l.tail) l.rest l.next_label;
  shorter : length l.rest < length l.fn.tokens;
  labels : l.next_label + weight l.rest ≤ l.label + weight l.fn.tokens;
}

abbrev pub decreases-pattern_lists::pattern_list-loop-pending : goal.decreases-pattern_lists::pattern_list-loop-pending
decreases-pattern_lists::pattern_list-loop-pending l = l.pending

abbrev pub decreases-pattern_lists::pattern_elements : goal.decreases-pattern_lists::pattern_elements
decreases-pattern_lists::pattern_elements l = 16 * length l.tokens.now

abbrev pub invariant-pattern_lists::pattern_elements-loop-found : goal.invariant-pattern_lists::pattern_elements-loop-found
invariant-pattern_lists::pattern_elements-loop-found l = record {
  so_far : PatternElements l.depth l.label l.fn.first.place l.fn.tokens l.left l.pending l.items l.next_label;
  shallow : l.depth + 1 ≤ 400;
  shorter : length l.left + l.pending < length l.fn.tokens;
  labels : l.next_label + weight l.left ≤ l.label + weight l.fn.tokens;
}

abbrev pub decreases-pattern_lists::pattern_elements-loop-found : goal.decreases-pattern_lists::pattern_elements-loop-found
decreases-pattern_lists::pattern_elements-loop-found l = length l.left

abbrev pub decreases-pattern_maps::map_pattern : goal.decreases-pattern_maps::map_pattern
decreases-pattern_maps::map_pattern l = 16 * length l.tokens.now

abbrev pub decreases-pattern_maps::pattern_pairs : goal.decreases-pattern_maps::pattern_pairs
decreases-pattern_maps::pattern_pairs l = 16 * length l.tokens.now + 7

abbrev pub invariant-pattern_maps::pattern_pairs-loop-found : goal.invariant-pattern_maps::pattern_pairs-loop-found
invariant-pattern_maps::pattern_pairs-loop-found l = record {
  so_far : ItemsSoFar s.CloseMap (pattern_pair l.depth) number_pat_pair _ pat_pair_parts l.fn.label l.fn.tokens l.left l.items l.next_label;
  labels : l.next_label + weight l.left ≤ l.fn.label + weight l.fn.tokens;
  shorter : length l.left ≤ length l.fn.tokens;
}

abbrev pub decreases-pattern_maps::pattern_pairs-loop-found : goal.decreases-pattern_maps::pattern_pairs-loop-found
decreases-pattern_maps::pattern_pairs-loop-found l = length l.left

abbrev pub decreases-pattern_maps::pattern_pair : goal.decreases-pattern_maps::pattern_pair
decreases-pattern_maps::pattern_pair l = 16 * length l.tokens.now + 6

abbrev pub decreases-pattern_maps::pattern_pair_in_brackets : goal.decreases-pattern_maps::pattern_pair_in_brackets
decreases-pattern_maps::pattern_pair_in_brackets l = 16 * length l.tokens.now + 5

abbrev pub decreases-pattern_maps::bare_pattern_pair : goal.decreases-pattern_maps::bare_pattern_pair
decreases-pattern_maps::bare_pattern_pair l = 16 * length l.tokens.now + 5

abbrev pub decreases-pattern_maps::pattern_pair_of_key : goal.decreases-pattern_maps::pattern_pair_of_key
decreases-pattern_maps::pattern_pair_of_key l = 16 * length l.tokens.now + 6

abbrev pub decreases-pattern_maps::value_pattern : goal.decreases-pattern_maps::value_pattern
decreases-pattern_maps::value_pattern l = 16 * length l.tokens.now + 5

abbrev pub decreases-patterns::pattern : goal.decreases-patterns::pattern
decreases-patterns::pattern l = 16 * length l.tokens.now + 5

abbrev pub decreases-patterns::bare_pattern : goal.decreases-patterns::bare_pattern
decreases-patterns::bare_pattern l = 16 * length l.tokens.now + 3

abbrev pub decreases-patterns::other_pattern : goal.decreases-patterns::other_pattern
decreases-patterns::other_pattern l = 16 * length l.tokens.now + 2

abbrev pub decreases-patterns::variable_or_alias : goal.decreases-patterns::variable_or_alias
decreases-patterns::variable_or_alias l = 16 * length l.tokens.now

abbrev pub decreases-patterns::tuple_pattern : goal.decreases-patterns::tuple_pattern
decreases-patterns::tuple_pattern l = 16 * length l.tokens.now

abbrev pub decreases-patterns::patterns : goal.decreases-patterns::patterns
decreases-patterns::patterns l = 16 * length l.tokens.now + 6

abbrev pub invariant-patterns::patterns-loop-found : goal.invariant-patterns::patterns-loop-found
invariant-patterns::patterns-loop-found l = record {
  so_far : ItemsSoFar l.close (pattern l.depth) number_pattern _ pattern_tree l.label l.fn.tokens l.left l.items l.next_label;
  labels : l.next_label + weight l.left ≤ l.label + weight l.fn.tokens;
  shorter : length l.left < length l.fn.tokens;
}

abbrev pub decreases-patterns::patterns-loop-found : goal.decreases-patterns::patterns-loop-found
decreases-patterns::patterns-loop-found l = length l.left
