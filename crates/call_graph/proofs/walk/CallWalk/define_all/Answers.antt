use Rattle.call_graph.proofs.Rounds.{names_round}
use Rattle.call_graph.proofs.walk.CallWalk.define_all.Goals as goal

pub loop-def-preserved : goal.loop-def-preserved
loop-def-preserved c = names_round c.loop-def.self _ c.push.new.self c.args.defs.now c.loop-def.def-index c.def-item.result c.loop-def-test.true c.def-item.is c.in_ok-push.ensures.bound c.loop-def.invariant
