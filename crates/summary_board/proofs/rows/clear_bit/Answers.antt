use Rattle.summary_board.proofs.RowLemmas.{clear_bit_marks}
use Rattle.summary_board.proofs.rows.clear_bit.Goals as goal

pub returns-clause-marked : goal.returns-clause-marked
returns-clause-marked c = rw c.replace.ensures.after (clear_bit_marks c.args.row.now c.args.number c.word.result c.requires c.word.ensures)
