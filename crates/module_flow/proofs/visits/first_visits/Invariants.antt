use Rattle.std.proofs.Common.{◌≡◌, ◌++◌, drop, map}
use Rattle.module_flow.specs.steps.Visits.{first_visit}
use Rattle.module_flow.proofs.visits.first_visits.Given as goal

abbrev pub invariant-loop-def : goal.invariant-loop-def
invariant-loop-def l = l.visits ++ map first_visit (drop l.def-index l.defs) ≡ map first_visit l.defs
