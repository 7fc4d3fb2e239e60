use Rattle.std.proofs.Common.{sym, subst₂}
use Rattle.std.proofs.lemmas.Option.{slice_get_within}
use Rattle.summary_board.specs.BoardValue.{BoardValue}
use Rattle.summary_board.specs.DoneValue.{DoneValue}
use Rattle.summary_board.specs.Calls.{Fits}
use Rattle.summary_board.specs.declared.progress.Progress.TheVariants.{Out}
use Rattle.summary_board.proofs.BoardTracks.{some_left, within_callers, enough, counts_fit, settled, tracks_finish}
use Rattle.summary_board.proofs.Sounds.{kept_finished, room_finished}
use Rattle.summary_board.proofs.board.Board.finish.Goals as goal

pub set_progress-requires : goal.set_progress-requires
set_progress-requires g c =
    let P : BoardValue g.row.W-Part.Denot g.row.W-Out.Denot → DoneValue g.row.W-Part.Denot g.row.W-Out.Denot → Type 0 = λ k it. Fits k c.args.seat it in
    let fits = subst₂ P (sym c.self.view_is) (sym c.done.view_is) c.requires in
    slice_get_within c.self.inside.progress c.done.inside.job.component (Out c.args.seat) fits.0

pub finish-requires-clause-within : goal.finish-requires-clause-within
finish-requires-clause-within g c =
    let P : BoardValue g.row.W-Part.Denot g.row.W-Out.Denot → DoneValue g.row.W-Part.Denot g.row.W-Out.Denot → Type 0 = λ k it. Fits k c.args.seat it in
    let fits = subst₂ P (sym c.self.view_is) (sym c.done.view_is) c.requires in
    within_callers _ _ _ _ _ _ c.self.invariant.2 c.done.inside.job.component c.args.seat fits.0

pub finish-requires-clause-some : goal.finish-requires-clause-some
finish-requires-clause-some g c =
    let P : BoardValue g.row.W-Part.Denot g.row.W-Out.Denot → DoneValue g.row.W-Part.Denot g.row.W-Out.Denot → Type 0 = λ k it. Fits k c.args.seat it in
    let fits = subst₂ P (sym c.self.view_is) (sym c.done.view_is) c.requires in
    some_left _ _ _ _ _ _ c.self.invariant.2 c.done.inside.job.component c.args.seat fits.0

pub finish-requires-clause-counts : goal.finish-requires-clause-counts
finish-requires-clause-counts g c =
    let P : BoardValue g.row.W-Part.Denot g.row.W-Out.Denot → DoneValue g.row.W-Part.Denot g.row.W-Out.Denot → Type 0 = λ k it. Fits k c.args.seat it in
    let fits = subst₂ P (sym c.self.view_is) (sym c.done.view_is) c.requires in
    enough _ _ _ _ _ _ c.self.invariant.2 c.done.inside.job.component c.args.seat fits.0

pub finish-requires-clause-room : goal.finish-requires-clause-room
finish-requires-clause-room g c = counts_fit _ _ _ _ _ _ c.self.invariant.2

pub put-requires : goal.put-requires
put-requires g c =
    let P : BoardValue g.row.W-Part.Denot g.row.W-Out.Denot → DoneValue g.row.W-Part.Denot g.row.W-Out.Denot → Type 0 = λ k it. Fits k c.args.seat it in
    let fits = subst₂ P (sym c.self.view_is) (sym c.done.view_is) c.requires in
    let it : DoneValue g.row.W-Part.Denot g.row.W-Out.Denot = record { component = c.done.inside.job.component; part = c.done.inside.job.part; inputs = c.done.inside.job.inputs; output = c.done.inside.output } in
    room_finished g.W.Work.written _ c.args.seat it _ (c.self.invariant.0, c.self.invariant.1) fits

pub invariant_of-self : goal.invariant_of-self
invariant_of-self g c =
    let P : BoardValue g.row.W-Part.Denot g.row.W-Out.Denot → DoneValue g.row.W-Part.Denot g.row.W-Out.Denot → Type 0 = λ k it. Fits k c.args.seat it in
    let fits = subst₂ P (sym c.self.view_is) (sym c.done.view_is) c.requires in
    let inv = c.self.invariant in
    let kept = kept_finished g.W.Work.written _ c.args.seat _ _ _ _ _ (inv.0, inv.1) fits c.done.invariant c.set_progress.ensures c.put.ensures.items c.put.ensures.spare in (
      kept.0,
      kept.1,
      tracks_finish _ _ _ _ _ _ inv.2 c.done.inside.job.component c.args.seat _ _ _ _ _ _ _ (settled g.W.Work.written _ inv.0) fits.0 c.set_progress.ensures c.finish.ensures.callers
          c.finish.ensures.lowered c.finish.ensures.unfinished,
    )
