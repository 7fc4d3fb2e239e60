use Rattle.std.proofs.Common.{◌≡◌, drop}
use Rattle.cons_tree.specs.Callees.{found}
use Rattle.analysis_crew.specs.steps.Fixing.{fixing_all}
use Rattle.analysis_crew.proofs.fixed.fix_calls.Given as goal

abbrev pub invariant-loop-call : goal.invariant-loop-call
invariant-loop-call l =
    fixing_all (found l.first) (found l.fixed) (drop l.call-index l.calls) ≡ fixing_all (found l.first) (found l.fn.fixed) l.calls
