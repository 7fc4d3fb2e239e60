use Rattle.std.proofs.Common.{◌≡◌, ◌⊎◌, ◌∷◌, ◌/◌, ◌<◌, [], length, inl, inr, sym, ◌∙◌, subst, arith}
use Rattle.summary_board.specs.steps.Rows.{word_at, IsUsed, AreTied}
use Rattle.summary_board.proofs.RowLemmas.{under_cleared, under_left, some_there, none_there}
use Rattle.summary_board.proofs.rows.+clear_in.Goals as goal
use Rattle.summary_board.proofs.rows.+clear_in.Goals.{else-clear_bit-eq0-via-then-clear_bit-eq0+else-not-is_empty, else-clear_bit-eq0-via-else-clear_bit-eq0}

pub returns-then-not-is_empty-clause-tied : goal.returns-then-not-is_empty-clause-tied
returns-then-not-is_empty-clause-tied t c =
    let row = c.in-Some.row.now in
    let above = c.in-Some.above.now in
    let tied : AreTied (row ∷ above) = subst AreTied c.in-Some.ensures.cases.0 c.requires.tied in
    let some : 0 < length above = some_there (length above) (sym c.is_empty.ensures ∙ c.if-not-is_empty.true) in
    let none : word_at c.clear_bit.new.row (c.args.number / 64) ≡ 0 = omega (arith, c.if-clear_bit-eq0.true, c.clear_bit.ensures.after) in (
      omega (arith, tied.0, c.clear_bit.ensures.room),
      under_cleared row c.clear_bit.new.row above c.clear_in.new.rows (c.args.number / 64) tied.1 some c.clear_in.ensures.count c.clear_bit.ensures.room c.clear_in.ensures.room
          c.clear_bit.ensures.used none c.clear_in.ensures.marked,
      c.clear_in.ensures.tied,
    )

pub returns-else-clear_bit-eq0-clause-tied : goal.returns-else-clear_bit-eq0-clause-tied
returns-else-clear_bit-eq0-clause-tied t c =
    let row = c.in-Some.row.now in
    let above = c.in-Some.above.now in
    let tied : AreTied (row ∷ above) = subst AreTied c.in-Some.ensures.cases.0 c.requires.tied in
    let kept : (above ≡ []) ⊎ (IsUsed row (c.args.number / 64) × IsUsed c.clear_bit.new.row (c.args.number / 64)) → AreTied (c.clear_bit.new.row ∷ above) = λ why.
    (omega (arith, tied.0, c.clear_bit.ensures.room), under_left row c.clear_bit.new.row above (c.args.number / 64) tied.1 c.clear_bit.ensures.room c.clear_bit.ensures.used why, tied.2) in
    elim c.else-clear_bit-eq0.branch [
      | else-clear_bit-eq0-via-then-clear_bit-eq0+else-not-is_empty w ↦ rw w.rows-is (kept (inl (none_there above (sym w.is_empty.ensures ∙ w.if-not-is_empty.false))))
      | else-clear_bit-eq0-via-else-clear_bit-eq0 w ↦
          rw w.rows-is (kept (inr (omega (arith, w.if-clear_bit-eq0.false, c.clear_bit.ensures.after, c.clear_bit.ensures.less), omega (arith, w.if-clear_bit-eq0.false, c.clear_bit.ensures.after))))
    ]
