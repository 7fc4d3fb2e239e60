use Rattle.std.proofs.Common.{true, drop}
use Rattle.core_print.specs.Canonical.{variables}
use Rattle.core_print.proofs.Adding.{Still}
use Rattle.core_print.proofs.leaves.append_variables.Given as goal

abbrev pub invariant-loop-variable : goal.invariant-loop-variable
invariant-loop-variable l = Still (variables l.first (drop l.variable-index l.list)) (variables true l.list) l.fn.out l.out
