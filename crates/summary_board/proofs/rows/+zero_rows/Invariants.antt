use Rattle.summary_board.proofs.rows.+zero_rows.Given as goal

abbrev pub decreases-zero_rows : goal.decreases-zero_rows
decreases-zero_rows l = l.words
