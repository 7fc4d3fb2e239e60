use Rattle.std.proofs.Common.{◌≡◌, ◌++◌, drop}
use Rattle.summary_board.specs.BoardValue.{outputs_of}
use Rattle.summary_board.proofs.progress.outputs.Given as goal

-- the outputs so far, and those of the components that are left, are all
abbrev pub invariant-loop-c : goal.invariant-loop-c
invariant-loop-c g l = l.outputs ++ outputs_of l.progress (drop l.c-index l.callees) ≡ outputs_of l.progress l.callees
