use Rattle.std.proofs.Common.{false}
use Rattle.core_ast.specs.Tree.{def_tree}
use Rattle.core_ast.specs.steps.Comparing.{compared_def}
use Rattle.core_ast.proofs.SameItems.{SoFar}
use Rattle.core_ast.proofs.comparing.same_definitions.Given as goal

abbrev pub invariant-loop-i : goal.invariant-loop-i
invariant-loop-i l = SoFar (λ d. compared_def false (def_tree d)) l.a l.b l.i
