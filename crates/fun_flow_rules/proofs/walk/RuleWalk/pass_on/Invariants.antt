use Rattle.std.proofs.Common.{◌-◌, drop, map}
use Rattle.fun_flow_places.specs.Naming.{place_named}
use Rattle.fun_flow_rules.specs.steps.Walking.{Going}
use Rattle.fun_flow_sets.specs.Rules.{into_parts, kept, passed_to}
use Rattle.fun_flow_sets.specs.Scopes.{fit}
use Rattle.fun_flow_rules.proofs.walk.RuleWalk.pass_on.Given as goal

abbrev pub invariant-loop-number : goal.invariant-loop-number
invariant-loop-number l = Going l.fn.self l.self (λ U home sc. into_parts home l.label l.number (fit (kept l.fn.ask - l.number) (map (place_named U) (drop l.number l.from))))
    (λ U home sc. passed_to U home l.label l.fn.ask (map (place_named U) l.from))
