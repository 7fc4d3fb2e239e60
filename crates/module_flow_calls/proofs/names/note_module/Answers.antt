use Rattle.module_flow_calls.proofs.GatheredRounds.{defs_round}
use Rattle.module_flow_calls.proofs.names.note_module.Goals as goal

pub loop-def-preserved : goal.loop-def-preserved
loop-def-preserved c =
    defs_round c.loop-def.walk c.define.new.self c.note_names.new.walk _ c.args.defs.now c.loop-def.def-index c.def-item.result c.get-def.result.now c.get.result.now c.loop-def-test.true c.def-item.is c.get-def.ensures
    c.in_ok-define.ensures c.get.ensures c.in_ok-note_names.ensures c.loop-def.invariant
