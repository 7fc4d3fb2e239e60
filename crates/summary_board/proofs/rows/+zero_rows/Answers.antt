use Rattle.std.proofs.Common.{ap, ◌∙◌, arith, ◌<◌, ◌≤◌, ◌*◌}
use Rattle.summary_board.proofs.RowLemmas.{one_zero_tied, zeros_tied}
use Rattle.summary_board.proofs.rows.+zero_rows.Goals as goal
use Rattle.summary_board.proofs.rows.+zero_rows.Goals.{then-words-eq1, else-words-eq1+in_ok-rows}

pub returns-in-Ok-clause-tied : goal.returns-in-Ok-clause-tied
returns-in-Ok-clause-tied t c =
    rw (c.in-Ok.ensures.items, c.in_ok-row.ensures)
    (elim c.if-words-eq1.branch [
      | then-words-eq1 w ↦ one_zero_tied c.if-words-eq1.rows.items c.args.words w.if-words-eq1.true (ap (λ v. v.items) w.rows-is ∙ w.new-rows.ensures.items)
      | else-words-eq1+in_ok-rows w ↦
          let above = w.div_ceil.result in
          let room : c.args.words ≤ 64 * above = omega (arith, w.div_ceil.ensures) in
          let some : 0 < above = omega (arith, room, c.requires.some) in
          rw w.rows-is (zeros_tied w.in_ok-rows.rows.items c.args.words above c.requires.few room some w.in_ok-rows.ensures.tied w.in_ok-rows.ensures.lowest)
    ])
