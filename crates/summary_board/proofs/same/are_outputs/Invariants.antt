use Rattle.std.proofs.Common.{◌≡◌, ◌↔◌, drop}
use Rattle.summary_board.specs.BoardValue.{outputs_of}
use Rattle.summary_board.proofs.same.are_outputs.Given as goal

-- what is left of the inputs decides
abbrev pub invariant-loop-c : goal.invariant-loop-c
invariant-loop-c g l = (l.left ≡ outputs_of l.progress (drop l.c-index l.callees)) ↔ (l.inputs ≡ outputs_of l.progress l.callees)
