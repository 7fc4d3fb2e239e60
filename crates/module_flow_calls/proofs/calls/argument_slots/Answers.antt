use Rattle.std.proofs.Common.{refl}
use Rattle.module_flow_calls.proofs.Solved.{slots_round}
use Rattle.module_flow_calls.proofs.calls.argument_slots.Goals as goal

pub loop-position-preserved : goal.loop-position-preserved
loop-position-preserved c = slots_round c.loop-position.position _ c.loop-position.slots c.add.new.self refl c.in_ok-add.ensures.ok c.loop-position.invariant
