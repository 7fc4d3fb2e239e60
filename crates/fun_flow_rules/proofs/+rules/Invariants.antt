use Rattle.std.proofs.Common.{◌≡◌, ◌+◌, ◌*◌, ◌++◌, drop, map, max}
use denote.Param.Weighed.{most}
use Rattle.type_kinds.specs.declared.atom.Atom.{Atom}
use Rattle.core_ast.proofs.syntax.Clause.TheLaws as C
use Rattle.core_ast.proofs.syntax.Expr.TheLaws as E
use Rattle.core_ast.proofs.syntax.Pattern.TheLaws as P
use Rattle.core_ast.specs.Tree.{all_clauses, all_defs, all_pairs, all_pat_pairs, all_pat_segments, all_patterns, all_segments, all_steps, all_trees}
use Rattle.core_meaning.specs.Programs.{Program}
use Rattle.fun_flow_places.specs.Naming.{place_named}
use Rattle.fun_flow_rules.specs.steps.Walking.{Entering, Going, Sees}
use Rattle.fun_flow_sets.specs.Rules.{after_steps, places_of_all, places_of_pairs, rules_of_all, rules_of_clauses, rules_of_definitions, rules_of_heads}
use Rattle.fun_flow_sets.specs.Rules.{rules_of_pairs, rules_of_pat_pairs, rules_of_pat_segments, rules_of_patterns, rules_of_segments, rules_of_steps}
use Rattle.fun_flow_sets.specs.Scopes.{Scope, with_heads, with_pat_pairs, with_pat_segments, with_patterns}
use Rattle.fun_flow_rules.proofs.+rules.Given as goal

abbrev pub invariant-expressions::walk_all-loop-expr : goal.invariant-expressions::walk_all-loop-expr
invariant-expressions::walk_all-loop-expr l =
    Going l.fn.walk l.walk (λ U home sc. rules_of_all U home sc (all_trees (drop l.expr-index l.exprs))) (λ U home sc. rules_of_all U home sc (all_trees l.exprs))
    × ((U : Program) (home : Atom) (sc : Scope) → Sees U home sc l.fn.walk → map (place_named U) l.places ++ places_of_all U home sc (all_trees (drop l.expr-index l.exprs)) ≡ places_of_all U home sc (all_trees l.exprs))

abbrev pub invariant-expressions::walk_pairs-loop-pair : goal.invariant-expressions::walk_pairs-loop-pair
invariant-expressions::walk_pairs-loop-pair l =
    Going l.fn.walk l.walk (λ U home sc. rules_of_pairs U home sc (all_pairs (drop l.pair-index l.pairs))) (λ U home sc. rules_of_pairs U home sc (all_pairs l.pairs))
    × ((U : Program) (home : Atom) (sc : Scope) → Sees U home sc l.fn.walk → map (place_named U) l.places ++ places_of_pairs U home sc (all_pairs (drop l.pair-index l.pairs)) ≡ places_of_pairs U home sc (all_pairs l.pairs))

abbrev pub invariant-expressions::walk_binary-loop-segment : goal.invariant-expressions::walk_binary-loop-segment
invariant-expressions::walk_binary-loop-segment l = Going l.fn.walk l.walk (λ U home sc. rules_of_segments U home sc (all_segments (drop l.segment-index l.segments))) (λ U home sc. rules_of_segments U home sc (all_segments l.segments))

abbrev pub invariant-control::walk_steps-loop-step : goal.invariant-control::walk_steps-loop-step
invariant-control::walk_steps-loop-step l =
    Entering l.fn.walk l.walk (λ U home sc. rules_of_steps U home sc (all_steps (drop l.step-index l.steps))) (λ U home sc. rules_of_steps U home sc (all_steps l.steps))
    (λ U home sc. after_steps U home sc (all_steps (drop l.step-index l.steps))) (λ U home sc. after_steps U home sc (all_steps l.steps))

abbrev pub invariant-control::walk_definitions-loop-def : goal.invariant-control::walk_definitions-loop-def
invariant-control::walk_definitions-loop-def l = Going l.fn.walk l.walk (λ U home sc. rules_of_definitions U home sc (all_defs (drop l.def-index l.defs))) (λ U home sc. rules_of_definitions U home sc (all_defs l.defs))

abbrev pub invariant-control::walk_clauses-loop-clause : goal.invariant-control::walk_clauses-loop-clause
invariant-control::walk_clauses-loop-clause l =
    Going l.fn.walk l.walk (λ U home sc. rules_of_clauses U home sc l.ask l.label (map (place_named U) l.values) (all_clauses (drop l.clause-index l.clauses)))
    (λ U home sc. rules_of_clauses U home sc l.ask l.label (map (place_named U) l.values) (all_clauses l.clauses))

abbrev pub invariant-patterns::walk_patterns-loop-pattern : goal.invariant-patterns::walk_patterns-loop-pattern
invariant-patterns::walk_patterns-loop-pattern l =
    Entering l.fn.walk l.walk (λ U home sc. rules_of_patterns U home sc (place_named U l.place) (all_patterns (drop l.pattern-index l.patterns))) (λ U home sc. rules_of_patterns U home sc (place_named U l.place) (all_patterns l.patterns))
    (λ U home sc. with_patterns (place_named U l.place) (all_patterns (drop l.pattern-index l.patterns)) sc) (λ U home sc. with_patterns (place_named U l.place) (all_patterns l.patterns) sc)

abbrev pub invariant-patterns::walk_pattern_pairs-loop-pair : goal.invariant-patterns::walk_pattern_pairs-loop-pair
invariant-patterns::walk_pattern_pairs-loop-pair l =
    Entering l.fn.walk l.walk (λ U home sc. rules_of_pat_pairs U home sc (place_named U l.place) (all_pat_pairs (drop l.pair-index l.pairs))) (λ U home sc. rules_of_pat_pairs U home sc (place_named U l.place) (all_pat_pairs l.pairs))
    (λ U home sc. with_pat_pairs (place_named U l.place) (all_pat_pairs (drop l.pair-index l.pairs)) sc) (λ U home sc. with_pat_pairs (place_named U l.place) (all_pat_pairs l.pairs) sc)

abbrev pub invariant-patterns::walk_pattern_segments-loop-segment : goal.invariant-patterns::walk_pattern_segments-loop-segment
invariant-patterns::walk_pattern_segments-loop-segment l =
    Entering l.fn.walk l.walk (λ U home sc. rules_of_pat_segments U home sc (all_pat_segments (drop l.segment-index l.segments))) (λ U home sc. rules_of_pat_segments U home sc (all_pat_segments l.segments))
    (λ U home sc. with_pat_segments (all_pat_segments (drop l.segment-index l.segments)) sc) (λ U home sc. with_pat_segments (all_pat_segments l.segments) sc)

abbrev pub invariant-patterns::walk_heads-loop-position : goal.invariant-patterns::walk_heads-loop-position
invariant-patterns::walk_heads-loop-position l =
    Entering l.fn.walk l.walk (λ U home sc. rules_of_heads U home sc (map (place_named U) (drop l.position l.places)) (all_patterns (drop l.position l.patterns)))
    (λ U home sc. rules_of_heads U home sc (map (place_named U) l.places) (all_patterns l.patterns))
    (λ U home sc. with_heads (map (place_named U) (drop l.position l.places)) (all_patterns (drop l.position l.patterns)) sc) (λ U home sc. with_heads (map (place_named U) l.places) (all_patterns l.patterns) sc)

abbrev pub decreases-expressions::walk_expression : goal.decreases-expressions::walk_expression
decreases-expressions::walk_expression l = 20 * (E.the_size l.expr.now) + 3

abbrev pub decreases-expressions::walk_one : goal.decreases-expressions::walk_one
decreases-expressions::walk_one l = 20 * (E.the_size l.expr.now) + 4

abbrev pub decreases-expressions::walk_all : goal.decreases-expressions::walk_all
decreases-expressions::walk_all l = 20 * (most E.the_size l.exprs.now) + 5

abbrev pub decreases-expressions::walk_body : goal.decreases-expressions::walk_body
decreases-expressions::walk_body l = 20 * (E.the_size l.body.now) + 5

abbrev pub decreases-expressions::walk_fun : goal.decreases-expressions::walk_fun
decreases-expressions::walk_fun l = 20 * (goal.size-expressions::walk_fun l) + 6

abbrev pub decreases-expressions::walk_listed : goal.decreases-expressions::walk_listed
decreases-expressions::walk_listed l = 20 * (max (most E.the_size l.items.now) (E.the_size l.tail.now)) + 6

abbrev pub decreases-expressions::walk_tuple : goal.decreases-expressions::walk_tuple
decreases-expressions::walk_tuple l = 20 * (most E.the_size l.items.now) + 6

abbrev pub decreases-expressions::walk_pairs : goal.decreases-expressions::walk_pairs
decreases-expressions::walk_pairs l = 20 * (goal.size-expressions::walk_pairs l) + 5

abbrev pub decreases-expressions::walk_new_map : goal.decreases-expressions::walk_new_map
decreases-expressions::walk_new_map l = 20 * (goal.size-expressions::walk_new_map l) + 6

abbrev pub decreases-expressions::walk_updated_map : goal.decreases-expressions::walk_updated_map
decreases-expressions::walk_updated_map l = 20 * (max (goal.size-expressions::walk_updated_map l) (E.the_size l.map.now)) + 6

abbrev pub decreases-expressions::walk_binary : goal.decreases-expressions::walk_binary
decreases-expressions::walk_binary l = 20 * (goal.size-expressions::walk_binary l) + 6

abbrev pub decreases-expressions::walk_primop : goal.decreases-expressions::walk_primop
decreases-expressions::walk_primop l = 20 * (most E.the_size l.args.now) + 6

abbrev pub decreases-expressions::walk_catch : goal.decreases-expressions::walk_catch
decreases-expressions::walk_catch l = 20 * (E.the_size l.inside.now) + 5

abbrev pub decreases-applications::walk_apply_name : goal.decreases-applications::walk_apply_name
decreases-applications::walk_apply_name l = 20 * (most E.the_size l.args.now) + 6

abbrev pub decreases-applications::walk_apply_value : goal.decreases-applications::walk_apply_value
decreases-applications::walk_apply_value l = 20 * (max (E.the_size l.operator.now) (most E.the_size l.args.now)) + 6

abbrev pub decreases-applications::walk_apply : goal.decreases-applications::walk_apply
decreases-applications::walk_apply l = 20 * (max (E.the_size l.operator.now) (most E.the_size l.args.now)) + 7

abbrev pub decreases-applications::walk_call : goal.decreases-applications::walk_call
decreases-applications::walk_call l = 20 * (max (E.the_size l.home.now) (max (E.the_size l.name.now) (most E.the_size l.args.now))) + 6

abbrev pub decreases-control::walk_step : goal.decreases-control::walk_step
decreases-control::walk_step l = 20 * (goal.size-control::walk_step l) + 5

abbrev pub decreases-control::walk_steps : goal.decreases-control::walk_steps
decreases-control::walk_steps l = 20 * (goal.size-control::walk_steps l) + 6

abbrev pub decreases-control::walk_chain : goal.decreases-control::walk_chain
decreases-control::walk_chain l = 20 * (max (goal.size-control::walk_chain l) (E.the_size l.last.now)) + 7

abbrev pub decreases-control::walk_definitions : goal.decreases-control::walk_definitions
decreases-control::walk_definitions l = 20 * (goal.size-control::walk_definitions l) + 7

abbrev pub decreases-control::walk_letrec : goal.decreases-control::walk_letrec
decreases-control::walk_letrec l = 20 * (max (goal.size-control::walk_letrec l) (E.the_size l.body.now)) + 8

abbrev pub decreases-control::walk_joined : goal.decreases-control::walk_joined
decreases-control::walk_joined l = 20 * (E.the_size l.expr.now) + 4

abbrev pub decreases-control::walk_under : goal.decreases-control::walk_under
decreases-control::walk_under l = 20 * (E.the_size l.expr.now) + 5

abbrev pub decreases-control::walk_try : goal.decreases-control::walk_try
decreases-control::walk_try l = 20 * (goal.size-control::walk_try l) + 6

abbrev pub decreases-control::walk_clause : goal.decreases-control::walk_clause
decreases-control::walk_clause l = 20 * (C.the_size l.clause.now) + 7

abbrev pub decreases-control::walk_clauses : goal.decreases-control::walk_clauses
decreases-control::walk_clauses l = 20 * (most C.the_size l.clauses.now) + 8

abbrev pub decreases-control::walk_case : goal.decreases-control::walk_case
decreases-control::walk_case l = 20 * (max (E.the_size l.argument.now) (most C.the_size l.clauses.now)) + 9

abbrev pub decreases-control::walk_receive : goal.decreases-control::walk_receive
decreases-control::walk_receive l = 20 * (max (most C.the_size l.clauses.now) (max (E.the_size l.timeout.now) (E.the_size l.action.now))) + 9

abbrev pub decreases-patterns::walk_pattern : goal.decreases-patterns::walk_pattern
decreases-patterns::walk_pattern l = 20 * (P.the_size l.pattern.now) + 5

abbrev pub decreases-patterns::walk_patterns : goal.decreases-patterns::walk_patterns
decreases-patterns::walk_patterns l = 20 * (most P.the_size l.patterns.now) + 6

abbrev pub decreases-patterns::walk_pattern_pairs : goal.decreases-patterns::walk_pattern_pairs
decreases-patterns::walk_pattern_pairs l = 20 * (goal.size-patterns::walk_pattern_pairs l) + 6

abbrev pub decreases-patterns::walk_pattern_segments : goal.decreases-patterns::walk_pattern_segments
decreases-patterns::walk_pattern_segments l = 20 * (goal.size-patterns::walk_pattern_segments l) + 6

abbrev pub decreases-patterns::walk_heads : goal.decreases-patterns::walk_heads
decreases-patterns::walk_heads l = 20 * (most P.the_size l.patterns.now) + 6
