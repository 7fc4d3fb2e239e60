use Rattle.std.proofs.Common.{◌≡◌}
use Rattle.summary_board.specs.Calls.{each_below}
use Rattle.summary_board.proofs.fill.callees_of.Given as goal

abbrev pub invariant-loop-c : goal.invariant-loop-c
invariant-loop-c g l = l.callees ≡ each_below l.c (g.W.Work.callees_of l.work)
