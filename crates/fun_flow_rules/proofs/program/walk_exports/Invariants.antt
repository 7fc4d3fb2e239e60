use Rattle.std.proofs.Common.{drop}
use Rattle.fun_flow_rules.specs.steps.Walking.{Going, opened_rules}
use Rattle.fun_flow_rules.proofs.program.walk_exports.Given as goal

abbrev pub invariant-loop-name : goal.invariant-loop-name
invariant-loop-name l = Going l.fn.walk l.walk (λ U home sc. opened_rules U home sc (drop l.name-index l.names)) (λ U home sc. opened_rules U home sc l.names)
