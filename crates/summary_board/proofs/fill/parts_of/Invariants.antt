use Rattle.std.proofs.Common.{◌≡◌}
use Rattle.summary_board.specs.Calls.{each_below}
use Rattle.summary_board.proofs.fill.parts_of.Given as goal

abbrev pub invariant-loop-c : goal.invariant-loop-c
invariant-loop-c g l = l.parts ≡ each_below l.c (g.W.Work.part_of l.work)
