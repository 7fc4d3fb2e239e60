use Rattle.std.proofs.Common.{drop, map}
use Rattle.fun_flow_places.specs.Naming.{place_named}
use Rattle.fun_flow_rules.specs.steps.Walking.{Entering, no_rules}
use Rattle.fun_flow_sets.specs.Scopes.{with_places}
use Rattle.fun_flow_rules.proofs.walk.RuleWalk.bind_all.Given as goal

abbrev pub invariant-loop-position : goal.invariant-loop-position
invariant-loop-position l = Entering l.fn.self l.self no_rules no_rules (λ U home sc. with_places (drop l.position l.vars) (map (place_named U) (drop l.position l.places)) sc)
    (λ U home sc. with_places l.vars (map (place_named U) l.places) sc)
