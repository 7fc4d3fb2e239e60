use Rattle.std.proofs.Common.{◌≡◌}
use Rattle.summary_board.specs.Solved.{solved}
use Rattle.summary_board.proofs.assembly.assemble.Given as goal

abbrev pub invariant-loop-c : goal.invariant-loop-c
invariant-loop-c g l = l.outputs ≡ solved g.W.Work.written (g.W.Work.part_of l.work) (g.W.Work.callees_of l.work) l.c
