use Rattle.std.proofs.Common.{drop}
use Rattle.cons_tree.specs.Constraints.{constraints}
use Rattle.cons_solve.specs.Frames.{FreeEach}
use Rattle.cons_solve.specs.steps.Positions.{Grown}
use Rattle.cons_solve.proofs.index.+entering.Given as goal

abbrev pub invariant-enter_each-loop-c : goal.invariant-enter_each-loop-c
invariant-enter_each-loop-c l = Grown (λ s. FreeEach s (constraints (drop l.c-index l.inner)) → FreeEach s (constraints l.inner)) l.member l.initial.namings l.namings
