use Rattle.std.proofs.Common.{drop}
use Rattle.core_ast.specs.Tree.{all_clauses, all_steps, all_trees}
use Rattle.module_flow_walk.specs.steps.Silent.{AreSilent, AreSilentClauses, AreSilentSteps}
use Rattle.module_flow_walk.proofs.guards.+silent.Given as goal

abbrev pub invariant-are_silent-loop-expr : goal.invariant-are_silent-loop-expr
invariant-are_silent-loop-expr l = AreSilent (all_trees (drop l.expr-index l.exprs)) → AreSilent (all_trees l.exprs)

abbrev pub invariant-are_silent_steps-loop-step : goal.invariant-are_silent_steps-loop-step
invariant-are_silent_steps-loop-step l = AreSilentSteps (all_steps (drop l.step-index l.steps)) → AreSilentSteps (all_steps l.steps)

abbrev pub invariant-are_silent_clauses-loop-clause : goal.invariant-are_silent_clauses-loop-clause
invariant-are_silent_clauses-loop-clause l = AreSilentClauses (all_clauses (drop l.clause-index l.clauses)) → AreSilentClauses (all_clauses l.clauses)
