use Rattle.std.proofs.Common.{◌≡◌, take}
use Rattle.std.specs.List.{filter_map}
use Rattle.fun_flow_applied.specs.steps.Applications.{application_in}
use Rattle.fun_flow_applied.proofs.applications.applications.Given as goal

abbrev pub invariant-loop-rule : goal.invariant-loop-rule
invariant-loop-rule l = l.found.items ≡ filter_map (application_in l.modules) (take l.rule-index l.rules)
