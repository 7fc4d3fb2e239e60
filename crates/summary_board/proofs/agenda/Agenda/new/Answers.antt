use Rattle.summary_board.proofs.Tracking.{tracks_fresh}
use Rattle.summary_board.proofs.agenda.Agenda.new.Goals as goal

pub returns : goal.returns
returns c =
    rw c.len.ensures
    (tracks_fresh c.args.callees.now c.in_ok-callers.callers c.in_ok-counts.counts c.in_ok-ready.ready c.in_ok-callers.ensures.as_many c.in_ok-callers.ensures.inverse c.in_ok-counts.ensures
    c.in_ok-ready.ensures.room c.in_ok-ready.ensures.exact)
