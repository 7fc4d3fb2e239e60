use Rattle.std.proofs.Common.{◌≡◌, map, take, length}
use Rattle.summary_board.proofs.agenda.counts_of.Given as goal

abbrev pub invariant-loop-called : goal.invariant-loop-called
invariant-loop-called l = l.counts ≡ map length (take l.called-index l.called-items)
