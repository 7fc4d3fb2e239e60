use Rattle.summary_board.proofs.RowLemmas.{word_missing}
use Rattle.summary_board.proofs.rows.word.Goals as goal

pub returns-in-None : goal.returns-in-None
returns-in-None c = word_missing c.args.row.now c.args.at c.in-None.ensures.value
