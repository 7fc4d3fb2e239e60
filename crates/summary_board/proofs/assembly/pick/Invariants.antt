use Rattle.std.proofs.Common.{◌≡◌, ◌++◌, drop}
use Rattle.summary_board.specs.Solved.{picked}
use Rattle.summary_board.proofs.assembly.pick.Given as goal

abbrev pub invariant-loop-at : goal.invariant-loop-at
invariant-loop-at g l = l.picked ++ picked l.items (drop l.at-index l.positions) ≡ picked l.items l.positions
