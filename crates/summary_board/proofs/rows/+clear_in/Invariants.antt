use Rattle.std.proofs.Common.{length}
use Rattle.summary_board.proofs.rows.+clear_in.Given as goal

abbrev pub decreases-clear_in : goal.decreases-clear_in
decreases-clear_in l = length l.rows.now
