use Rattle.summary_board.proofs.RowLemmas.{set_bit_marks, set_bit_uses}
use Rattle.summary_board.proofs.rows.set_bit.Goals as goal

pub returns-clause-marked : goal.returns-clause-marked
returns-clause-marked c = rw c.replace.ensures.after (set_bit_marks c.args.row.now c.args.number c.word-old.result c.requires c.word-old.ensures)

pub returns-clause-used : goal.returns-clause-used
returns-clause-used c = rw c.replace.ensures.after (set_bit_uses c.args.row.now c.args.number c.word-old.result c.requires)
