use Rattle.std.proofs.Common.{◌≡◌, ◌+◌, ◌*◌, ◌&&◌, drop, is_some, max}
use denote.Param.Weighed.{most}
use Rattle.core_ast.proofs.syntax.Expr.TheLaws as E
use Rattle.core_ast.specs.Tree.{all_pairs, all_segments, all_trees, all_clauses, all_defs, all_steps}
use Rattle.module_flow_walk.specs.Findings.{found_in_all, found_in_pairs, found_in_segments, found_in_clauses, found_in_functions}
use Rattle.module_flow_walk.specs.Contributions.{contributions_of_all, contributions_of_pairs, contributions_of_segments, contributions_of_clauses, contributions_of_functions}
use Rattle.module_flow_walk.specs.Walk.{walk_all, walk_pairs, walk_segments, walk_clauses}
use Rattle.module_flow_calls.specs.TypeLists.{either}
use Rattle.module_flow_state.specs.steps.Walking.{noting, walk_scope_of, world_of}
use Rattle.module_flow_walk.proofs.Givens.{all_given}
use Rattle.module_flow_walk.proofs.+flow.Given as goal
use Rattle.core_ast.proofs.syntax.Clause.TheLaws as C
use Rattle.module_flow_walk.proofs.StepRounds.{StepsLeft}

abbrev pub invariant-expressions::walk_all-loop-expr : goal.invariant-expressions::walk_all-loop-expr
invariant-expressions::walk_all-loop-expr l = record {
  given : all_given l.all l.types (walk_all (world_of l.context) (walk_scope_of l.walker) (all_trees (drop l.expr-index l.exprs))) ≡ walk_all (world_of l.context) (walk_scope_of l.fn.walker) (all_trees l.exprs);
  noted : noting l.walker (contributions_of_all (world_of l.context) (walk_scope_of l.walker) (all_trees (drop l.expr-index l.exprs)))
      (found_in_all (world_of l.context) l.around (walk_scope_of l.walker) (all_trees (drop l.expr-index l.exprs)))
      ≡ noting l.fn.walker (contributions_of_all (world_of l.context) (walk_scope_of l.fn.walker) (all_trees l.exprs)) (found_in_all (world_of l.context) l.around (walk_scope_of l.fn.walker) (all_trees l.exprs));
}

abbrev pub invariant-forms::walk_pairs-loop-pair : goal.invariant-forms::walk_pairs-loop-pair
invariant-forms::walk_pairs-loop-pair l = record {
  given : (l.all && is_some (walk_pairs (world_of l.context) (walk_scope_of l.walker) (all_pairs (drop l.pair-index l.pairs)))) ≡ is_some (walk_pairs (world_of l.context) (walk_scope_of l.fn.walker) (all_pairs l.pairs));
  noted : noting l.walker (contributions_of_pairs (world_of l.context) (walk_scope_of l.walker) (all_pairs (drop l.pair-index l.pairs)))
      (found_in_pairs (world_of l.context) l.around (walk_scope_of l.walker) (all_pairs (drop l.pair-index l.pairs)))
      ≡ noting l.fn.walker (contributions_of_pairs (world_of l.context) (walk_scope_of l.fn.walker) (all_pairs l.pairs)) (found_in_pairs (world_of l.context) l.around (walk_scope_of l.fn.walker) (all_pairs l.pairs));
}

abbrev pub invariant-forms::walk_segments-loop-segment : goal.invariant-forms::walk_segments-loop-segment
invariant-forms::walk_segments-loop-segment l = record {
  given : (l.all && is_some (walk_segments (world_of l.context) (walk_scope_of l.walker) (all_segments (drop l.segment-index l.segments))))
      ≡ is_some (walk_segments (world_of l.context) (walk_scope_of l.fn.walker) (all_segments l.segments));
  noted : noting l.walker (contributions_of_segments (world_of l.context) (walk_scope_of l.walker) (all_segments (drop l.segment-index l.segments)))
      (found_in_segments (world_of l.context) l.around (walk_scope_of l.walker) (all_segments (drop l.segment-index l.segments)))
      ≡ noting l.fn.walker (contributions_of_segments (world_of l.context) (walk_scope_of l.fn.walker) (all_segments l.segments)) (found_in_segments (world_of l.context) l.around (walk_scope_of l.fn.walker) (all_segments l.segments));
}

abbrev pub decreases-expressions::walk_expression : goal.decreases-expressions::walk_expression
decreases-expressions::walk_expression l = 20 * (E.the_size l.expr.now) + 3

abbrev pub decreases-expressions::walk_all : goal.decreases-expressions::walk_all
decreases-expressions::walk_all l = 20 * (most E.the_size l.exprs.now) + 4

abbrev pub decreases-forms::walk_one : goal.decreases-forms::walk_one
decreases-forms::walk_one l = 20 * (E.the_size l.expr.now) + 4

abbrev pub decreases-forms::walk_old : goal.decreases-forms::walk_old
decreases-forms::walk_old l = 20 * (E.the_size l.map.now) + 4

abbrev pub decreases-forms::walk_listed : goal.decreases-forms::walk_listed
decreases-forms::walk_listed l = 20 * (max (most E.the_size l.items.now) (E.the_size l.tail.now)) + 5

abbrev pub decreases-forms::walk_tuple : goal.decreases-forms::walk_tuple
decreases-forms::walk_tuple l = 20 * (most E.the_size l.items.now) + 5

abbrev pub decreases-forms::walk_values : goal.decreases-forms::walk_values
decreases-forms::walk_values l = 20 * (most E.the_size l.items.now) + 5

abbrev pub decreases-forms::walk_pairs : goal.decreases-forms::walk_pairs
decreases-forms::walk_pairs l = 20 * (goal.size-forms::walk_pairs l) + 5

abbrev pub decreases-forms::walk_map : goal.decreases-forms::walk_map
decreases-forms::walk_map l = 20 * (goal.size-forms::walk_map l) + 6

abbrev pub decreases-forms::walk_updated_map : goal.decreases-forms::walk_updated_map
decreases-forms::walk_updated_map l = 20 * (max (goal.size-forms::walk_updated_map l) (E.the_size l.map.now)) + 6

abbrev pub decreases-forms::walk_segments : goal.decreases-forms::walk_segments
decreases-forms::walk_segments l = 20 * (goal.size-forms::walk_segments l) + 5

abbrev pub decreases-forms::walk_binary : goal.decreases-forms::walk_binary
decreases-forms::walk_binary l = 20 * (goal.size-forms::walk_binary l) + 6

abbrev pub decreases-forms::walk_application : goal.decreases-forms::walk_application
decreases-forms::walk_application l = 20 * (most E.the_size l.args.now) + 5

abbrev pub decreases-forms::walk_operator : goal.decreases-forms::walk_operator
decreases-forms::walk_operator l = 20 * (max (E.the_size l.operator.now) (most E.the_size l.args.now)) + 5

abbrev pub decreases-forms::walk_named_call : goal.decreases-forms::walk_named_call
decreases-forms::walk_named_call l = 20 * (most E.the_size l.args.now) + 5

abbrev pub decreases-forms::walk_call : goal.decreases-forms::walk_call
decreases-forms::walk_call l = 20 * (max (E.the_size l.home.now) (max (E.the_size l.name.now) (most E.the_size l.args.now))) + 5

abbrev pub decreases-forms::walk_primop : goal.decreases-forms::walk_primop
decreases-forms::walk_primop l = 20 * (most E.the_size l.args.now) + 5

abbrev pub invariant-control::walk_steps-loop-step : goal.invariant-control::walk_steps-loop-step
invariant-control::walk_steps-loop-step l = StepsLeft (world_of l.context) l.fn.around l.inner l.fn.walker l.walker (all_steps l.steps) (all_steps (drop l.step-index l.steps))

abbrev pub invariant-clauses::walk_clauses-loop-clause : goal.invariant-clauses::walk_clauses-loop-clause
invariant-clauses::walk_clauses-loop-clause l = record {
  given : either l.given (walk_clauses (world_of l.context) (walk_scope_of l.walker) l.ask l.matched (all_clauses (drop l.clause-index l.clauses)))
      ≡ walk_clauses (world_of l.context) (walk_scope_of l.fn.walker) l.ask l.matched (all_clauses l.clauses);
  noted :
      noting l.walker (contributions_of_clauses (world_of l.context) (walk_scope_of l.walker) l.ask l.matched (all_clauses (drop l.clause-index l.clauses)))
      (found_in_clauses (world_of l.context) l.around (walk_scope_of l.walker) l.ask l.matched (all_clauses (drop l.clause-index l.clauses)))
      ≡ noting l.fn.walker (contributions_of_clauses (world_of l.context) (walk_scope_of l.fn.walker) l.ask l.matched (all_clauses l.clauses))
      (found_in_clauses (world_of l.context) l.around (walk_scope_of l.fn.walker) l.ask l.matched (all_clauses l.clauses));
}

abbrev pub invariant-control::walk_functions-loop-def : goal.invariant-control::walk_functions-loop-def
invariant-control::walk_functions-loop-def l =
    noting l.walker (contributions_of_functions (world_of l.context) (walk_scope_of l.walker) (all_defs (drop l.def-index l.defs)))
    (found_in_functions (world_of l.context) l.around (walk_scope_of l.walker) (all_defs (drop l.def-index l.defs)))
    ≡ noting l.fn.walker (contributions_of_functions (world_of l.context) (walk_scope_of l.fn.walker) (all_defs l.defs)) (found_in_functions (world_of l.context) l.around (walk_scope_of l.fn.walker) (all_defs l.defs))

abbrev pub decreases-clauses::walk_quietly : goal.decreases-clauses::walk_quietly
decreases-clauses::walk_quietly l = 20 * (E.the_size l.expr.now) + 4

abbrev pub decreases-control::walk_under : goal.decreases-control::walk_under
decreases-control::walk_under l = 20 * (E.the_size l.expr.now) + 4

abbrev pub decreases-control::walk_passed : goal.decreases-control::walk_passed
decreases-control::walk_passed l = 20 * (E.the_size l.expr.now) + 4

abbrev pub decreases-control::walk_let : goal.decreases-control::walk_let
decreases-control::walk_let l = 20 * (E.the_size l.expr.now) + 4

abbrev pub decreases-control::walk_passed_under : goal.decreases-control::walk_passed_under
decreases-control::walk_passed_under l = 20 * (E.the_size l.expr.now) + 5

abbrev pub decreases-control::walk_last : goal.decreases-control::walk_last
decreases-control::walk_last l = 20 * (E.the_size l.last.now) + 5

abbrev pub decreases-control::walk_action : goal.decreases-control::walk_action
decreases-control::walk_action l = 20 * (E.the_size l.action.now) + 5

abbrev pub decreases-clauses::walk_matched_guard : goal.decreases-clauses::walk_matched_guard
decreases-clauses::walk_matched_guard l = 20 * (E.the_size l.guard.now) + 5

abbrev pub decreases-clauses::walk_guard : goal.decreases-clauses::walk_guard
decreases-clauses::walk_guard l = 20 * (E.the_size l.guard.now) + 6

abbrev pub decreases-clauses::walk_matched_body : goal.decreases-clauses::walk_matched_body
decreases-clauses::walk_matched_body l = 20 * (E.the_size l.body.now) + 5

abbrev pub decreases-clauses::walk_body : goal.decreases-clauses::walk_body
decreases-clauses::walk_body l = 20 * (E.the_size l.body.now) + 6

abbrev pub decreases-control::walk_fun : goal.decreases-control::walk_fun
decreases-control::walk_fun l = 20 * (goal.size-control::walk_fun l) + 5

abbrev pub decreases-control::walk_step : goal.decreases-control::walk_step
decreases-control::walk_step l = 20 * (goal.size-control::walk_step l) + 5

abbrev pub decreases-control::walk_steps : goal.decreases-control::walk_steps
decreases-control::walk_steps l = 20 * (goal.size-control::walk_steps l) + 6

abbrev pub decreases-control::walk_function : goal.decreases-control::walk_function
decreases-control::walk_function l = 20 * (goal.size-control::walk_function l) + 6

abbrev pub decreases-control::walk_functions : goal.decreases-control::walk_functions
decreases-control::walk_functions l = 20 * (goal.size-control::walk_functions l) + 7

abbrev pub decreases-control::walk_tried : goal.decreases-control::walk_tried
decreases-control::walk_tried l = 20 * (goal.size-control::walk_tried l) + 6

abbrev pub decreases-control::walk_try : goal.decreases-control::walk_try
decreases-control::walk_try l = 20 * (goal.size-control::walk_try l) + 7

abbrev pub decreases-clauses::walk_clause : goal.decreases-clauses::walk_clause
decreases-clauses::walk_clause l = 20 * (C.the_size l.clause.now) + 7

abbrev pub decreases-clauses::walk_clauses : goal.decreases-clauses::walk_clauses
decreases-clauses::walk_clauses l = 20 * (most C.the_size l.clauses.now) + 8

abbrev pub decreases-clauses::walk_matching : goal.decreases-clauses::walk_matching
decreases-clauses::walk_matching l = 20 * (most C.the_size l.clauses.now) + 9

abbrev pub decreases-control::walk_messages : goal.decreases-control::walk_messages
decreases-control::walk_messages l = 20 * (most C.the_size l.clauses.now) + 10

abbrev pub decreases-clauses::walk_case : goal.decreases-clauses::walk_case
decreases-clauses::walk_case l = 20 * (max (E.the_size l.argument.now) (most C.the_size l.clauses.now)) + 11

abbrev pub decreases-control::walk_receive : goal.decreases-control::walk_receive
decreases-control::walk_receive l = 20 * (max (most C.the_size l.clauses.now) (max (E.the_size l.timeout.now) (E.the_size l.action.now))) + 12

abbrev pub decreases-control::walk_chain : goal.decreases-control::walk_chain
decreases-control::walk_chain l = 20 * (max (goal.size-control::walk_chain l) (E.the_size l.last.now)) + 7

abbrev pub decreases-control::walk_letrec : goal.decreases-control::walk_letrec
decreases-control::walk_letrec l = 20 * (max (goal.size-control::walk_letrec l) (E.the_size l.body.now)) + 8
