use Rattle.std.proofs.Common.{drop, map}
use Rattle.fun_flow_places.specs.Naming.{place_named}
use Rattle.fun_flow_rules.specs.steps.Walking.{Going}
use Rattle.fun_flow_sets.specs.Rules.{into_parameters}
use Rattle.fun_flow_rules.proofs.walk.RuleWalk.flow_to_parameters.Given as goal

abbrev pub invariant-loop-number : goal.invariant-loop-number
invariant-loop-number l = Going l.fn.self l.self (λ U home sc. into_parameters home l.label l.number (map (place_named U) (drop l.number l.from))) (λ U home sc. into_parameters home l.label 0 (map (place_named U) l.from))
