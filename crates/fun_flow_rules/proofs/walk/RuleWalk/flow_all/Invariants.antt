use Rattle.std.proofs.Common.{drop, map}
use Rattle.fun_flow_places.specs.Naming.{place_named}
use Rattle.fun_flow_rules.specs.steps.Walking.{Going}
use Rattle.fun_flow_sets.specs.Rules.{all_into}
use Rattle.fun_flow_rules.proofs.walk.RuleWalk.flow_all.Given as goal

abbrev pub invariant-loop-place : goal.invariant-loop-place
invariant-loop-place l = Going l.fn.self l.self (λ U home sc. all_into (map (place_named U) (drop l.place-index l.from)) (place_named U l.to)) (λ U home sc. all_into (map (place_named U) l.from) (place_named U l.to))
