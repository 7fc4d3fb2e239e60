use Rattle.std.proofs.Common.{◌≡◌, length}
use Rattle.fun_flow_solver.specs.steps.Work.{AreAt}
use Rattle.fun_flow_solver.proofs.solving.applications_by_operator.Given as goal

abbrev pub invariant-loop-number : goal.invariant-loop-number
invariant-loop-number l = (length l.applications_at ≡ l.count) × AreAt l.problem l.applications_at l.number
