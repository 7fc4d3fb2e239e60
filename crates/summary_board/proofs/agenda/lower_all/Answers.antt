use Rattle.summary_board.proofs.Lowering.{lowered_next}
use Rattle.summary_board.proofs.agenda.lower_all.Goals as goal

pub loop-caller-preserved : goal.loop-caller-preserved
loop-caller-preserved c =
    lowered_next c.args.callers.now c.args.counts.now c.loop-caller.counts c.args.ready.now c.loop-caller.ready c.loop-caller.caller-index c.lower.new.counts c.lower.new.ready
    c.loop-caller.invariant c.loop-caller-test.true c.lower.ensures
