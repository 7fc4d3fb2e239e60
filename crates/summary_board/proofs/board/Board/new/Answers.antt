use Rattle.std.proofs.Common.{arith, ◌∙◌, ◌<◌}
use Rattle.summary_board.proofs.Sounds.{kept_fresh}
use Rattle.summary_board.proofs.BoardTracks.{below_fresh, few_fresh, tracks_new}
use Rattle.summary_board.proofs.board.Board.new.Goals as goal

pub new-requires-clause-few : goal.new-requires-clause-few
new-requires-clause-few g c = few_fresh c.count-count.result (g.W.Work.callees_of c.args.work.now) _ c.in_ok-callees.ensures (omega (arith, c.count-count.type_inv))

pub new-requires-clause-below : goal.new-requires-clause-below
new-requires-clause-below g c =
    let work = c.args.work.now in
    below_fresh c.count-count.result (g.W.Work.callees_of work) _ c.in_ok-callees.ensures
    (λ k within. g.met.W.Work.ascending work k (let less : k < g.W.Work.count_of work = omega (arith, within, c.count-count.ensures) in less))

pub invariant_of-result : goal.invariant_of-result
invariant_of-result g c =
    let count = c.count-count.result in
    let work = c.args.work.now in
    let kept = kept_fresh g.W.Work.written count c.reserve.new.self.spare (g.W.Work.part_of work) (g.W.Work.callees_of work) (omega (arith, c.count-count.type_inv))
    c.in_ok-reserve.ensures.ok (λ k within. g.met.W.Work.ascending work k (let less : k < g.W.Work.count_of work = omega (arith, within, c.count-count.ensures) in less)) in (
      rw (c.in_ok-parts.ensures, c.in_ok-callees.ensures, c.in_ok-progress.ensures, c.in_ok-reserve.ensures.items ∙ c.new-journal.ensures.items) kept.0,
      rw (c.in_ok-progress.ensures) kept.1,
      tracks_new count (g.W.Work.callees_of work) _ _ _ _ _ _ c.in_ok-callees.ensures c.in_ok-progress.ensures c.in_ok-agenda.ensures,
    )
