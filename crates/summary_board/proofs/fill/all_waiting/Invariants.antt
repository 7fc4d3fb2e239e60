use Rattle.std.proofs.Common.{◌≡◌, replicate}
use Rattle.summary_board.specs.declared.progress.Progress.TheVariants.{Waiting}
use Rattle.summary_board.proofs.fill.all_waiting.Given as goal

abbrev pub invariant-loop-c : goal.invariant-loop-c
invariant-loop-c g l = l.progress ≡ replicate l._c Waiting
