use Rattle.core_ast.proofs.SameItems.{SoFar}
use Rattle.core_ast.proofs.comparing.same_names.Given as goal

abbrev pub invariant-loop-i : goal.invariant-loop-i
invariant-loop-i l = SoFar (λ n. n) l.a l.b l.i
