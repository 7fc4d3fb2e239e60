use Rattle.std.proofs.Common.{drop}
use Rattle.core_ast.specs.Tree.{all_defs}
use Rattle.fun_flow_rules.specs.steps.Walking.{Going}
use Rattle.fun_flow_sets.specs.Rules.{rules_of_definitions}
use Rattle.fun_flow_rules.proofs.program.walk_definitions.Given as goal

abbrev pub invariant-loop-def : goal.invariant-loop-def
invariant-loop-def l = Going l.fn.walk l.walk (λ U home sc. rules_of_definitions U home sc (all_defs (drop l.def-index l.defs))) (λ U home sc. rules_of_definitions U home sc (all_defs l.defs))
