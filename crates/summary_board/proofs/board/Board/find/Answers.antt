use Rattle.std.proofs.Common.{sym, refl, ap, ◌∙◌}
use Rattle.summary_board.proofs.board.Board.find.Goals as goal

pub returns-then-same_part-clause-written : goal.returns-then-same_part-clause-written
returns-then-same_part-clause-written g c =
    let here = c.self.invariant.0.supported c.args.component c.at.result.now _ c.at.ensures c.in_ok-found.ensures.some in
    here.2 ∙ ap (λ p. g.W.Work.written p c.args.inputs.now) (sym c.get.ensures ∙ c.if-same_part.ensures.0 refl)
