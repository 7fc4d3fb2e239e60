use Rattle.std.proofs.Common.{◌-◌, drop, length}
use Rattle.fun_flow_rules.specs.steps.Walking.{Entering, no_rules}
use Rattle.fun_flow_sets.specs.Rules.{in_function}
use Rattle.fun_flow_sets.specs.Scopes.{parameters, with_places}
use Rattle.fun_flow_rules.proofs.walk.RuleWalk.bind_parameters.Given as goal

abbrev pub invariant-loop-number : goal.invariant-loop-number
invariant-loop-number l = Entering l.fn.self l.self no_rules no_rules (λ U home sc. with_places (drop l.number l.vars) (parameters home l.label l.number (length l.vars - l.number)) sc) (λ U home sc. in_function U home l.label l.vars sc)
