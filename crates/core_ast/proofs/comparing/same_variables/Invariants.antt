use Rattle.core_ast.specs.Compared.{compared_variable}
use Rattle.core_ast.proofs.SameItems.{SoFar}
use Rattle.core_ast.proofs.comparing.same_variables.Given as goal

abbrev pub invariant-loop-i : goal.invariant-loop-i
invariant-loop-i l = SoFar (compared_variable l.places) l.a l.b l.i
