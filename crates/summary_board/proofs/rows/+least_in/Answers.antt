use Rattle.std.proofs.Common.{◌<◌, ◌∷◌, ℕ, length, sym, ◌∙◌, subst, arith}
use Rattle.summary_board.specs.steps.Rows.{IsUsed, AreTied}
use Rattle.summary_board.proofs.RowLemmas.{first_used, least_of_rows, position_small, some_there}
use Rattle.summary_board.proofs.rows.+least_in.Goals as goal
use Rattle.summary_board.proofs.rows.+least_in.Goals.{then-is_empty, else-is_empty+in_ok-at}

pub overflow_add-result : goal.overflow_add-result
overflow_add-result t c =
    let row = c.in_ok-row.row.now in
    let tied : AreTied (row ∷ c.in_ok-row.above.now) = subst AreTied c.in_ok-row.ensures.cases.0 c.requires in
    omega (arith, position_small row c.if-is_empty.at c.word-word.result c.word-word.ensures c.if-word-eq0.false tied.0)

pub returns : goal.returns
returns t c =
    let row = c.in_ok-row.row.now in
    let above = c.in_ok-row.above.now in
    let tied : AreTied (row ∷ above) = subst AreTied c.in_ok-row.ensures.cases.0 c.requires in
    let none : (w : ℕ) → w < c.if-is_empty.at → IsUsed row w → ⊥ = λ w before used.
    elim c.if-is_empty.branch [
      | then-is_empty v ↦ absurd (omega (arith, before, v.at-is))
      | else-is_empty+in_ok-at v ↦
          let some : 0 < length above = some_there (length above) (sym c.is_empty.ensures ∙ v.if-is_empty.false) in
          (first_used row above v.in_ok-at.at tied.1 some v.in_ok-at.ensures).1 w (omega (arith, before, v.at-is)) used
    ] in
    least_of_rows c.args.rows.now above row c.if-is_empty.at c.word-word.result c.in_ok-row.ensures.cases.0 c.word-word.ensures c.if-word-eq0.false c.word-word.type_inv none
