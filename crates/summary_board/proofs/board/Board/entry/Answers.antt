use Rattle.std.proofs.Common.{◌∙◌, sym, ap, slice_get}
use Rattle.summary_board.proofs.board.Board.entry.Goals as goal

pub returns-clause-written : goal.returns-clause-written
returns-clause-written g c =
    let there = sym (ap (λ progress. slice_get progress c.args.component) c.as_slice.ensures) ∙ c.in_ok-inputs.ensures in
    (c.self.invariant.0.supported c.args.component c.at.result.now _ c.at.ensures there).2
