use Rattle.std.proofs.Common.{◌≡◌, ◌⊎◌, ◌∷◌, ◌/◌, ◌<◌, [], length, inl, inr, sym, ◌∙◌, subst, arith}
use Rattle.summary_board.specs.steps.Rows.{IsUsed, AreTied}
use Rattle.summary_board.proofs.RowLemmas.{under_marked, under_kept, some_there, none_there}
use Rattle.summary_board.proofs.rows.+mark_in.Goals as goal
use Rattle.summary_board.proofs.rows.+mark_in.Goals.{else-set_bit-eq0-via-then-set_bit-eq0+else-not-is_empty, else-set_bit-eq0-via-else-set_bit-eq0}

pub returns-then-not-is_empty-clause-tied : goal.returns-then-not-is_empty-clause-tied
returns-then-not-is_empty-clause-tied t c =
    let row = c.in-Some.row.now in
    let above = c.in-Some.above.now in
    let tied : AreTied (row ∷ above) = subst AreTied c.in-Some.ensures.cases.0 c.requires.tied in
    let some : 0 < length above = some_there (length above) (sym c.is_empty.ensures ∙ c.if-not-is_empty.true) in (
      omega (arith, tied.0, c.set_bit.ensures.room),
      under_marked row c.set_bit.new.row above c.mark_in.new.rows (c.args.number / 64) tied.1 some c.mark_in.ensures.count c.set_bit.ensures.room c.mark_in.ensures.room
          c.set_bit.ensures.used c.mark_in.ensures.marked,
      c.mark_in.ensures.tied,
    )

pub returns-else-set_bit-eq0-clause-tied : goal.returns-else-set_bit-eq0-clause-tied
returns-else-set_bit-eq0-clause-tied t c =
    let row = c.in-Some.row.now in
    let above = c.in-Some.above.now in
    let tied : AreTied (row ∷ above) = subst AreTied c.in-Some.ensures.cases.0 c.requires.tied in
    let kept : (above ≡ []) ⊎ IsUsed row (c.args.number / 64) → AreTied (c.set_bit.new.row ∷ above) = λ why.
    (omega (arith, tied.0, c.set_bit.ensures.room), under_kept row c.set_bit.new.row above (c.args.number / 64) tied.1 c.set_bit.ensures.room c.set_bit.ensures.used why, tied.2) in
    elim c.else-set_bit-eq0.branch [
      | else-set_bit-eq0-via-then-set_bit-eq0+else-not-is_empty w ↦ rw w.rows-is (kept (inl (none_there above (sym w.is_empty.ensures ∙ w.if-not-is_empty.false))))
      | else-set_bit-eq0-via-else-set_bit-eq0 w ↦ rw w.rows-is (kept (inr (omega (arith, w.if-set_bit-eq0.false, c.set_bit.ensures.before))))
    ]
