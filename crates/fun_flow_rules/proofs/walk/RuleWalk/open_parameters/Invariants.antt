use Rattle.std.proofs.Common.{◌-◌}
use Rattle.fun_flow_rules.specs.steps.Walking.{Going}
use Rattle.fun_flow_sets.specs.Rules.{opens}
use Rattle.fun_flow_rules.proofs.walk.RuleWalk.open_parameters.Given as goal

abbrev pub invariant-loop-number : goal.invariant-loop-number
invariant-loop-number l = Going l.fn.self l.self (λ U home sc. opens home l.label l.number (l.count - l.number)) (λ U home sc. opens home l.label 0 l.count)
