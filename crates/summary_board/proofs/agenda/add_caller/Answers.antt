use Rattle.std.proofs.Common.{arith}
use Rattle.summary_board.proofs.Lowering.{added_next}
use Rattle.summary_board.proofs.agenda.add_caller.Goals as goal

pub loop-d-preserved : goal.loop-d-preserved
loop-d-preserved c =
    let so_far = c.loop-d.invariant in
    rw c.in_ok-add_at.ensures.ok
    (added_next c.args.callers.now c.loop-d.callers c.args.c c.args.numbers.now c.loop-d.d-index so_far c.loop-d-test.true
    (omega (arith, c.requires c.loop-d.d-index 0 c.loop-d-test.true, so_far.as_many)))
