use Rattle.std.proofs.Common.{◌+◌, drop, arith}
use Rattle.module_flow_state.proofs.TakenBefore.{joins_more, next_left}
use Rattle.module_flow_state.proofs.states.cover.Goals as goal

pub loop-at-preserved : goal.loop-at-preserved
loop-at-preserved c =
    let at = c.loop-at.at in
    let us = c.args.others.now in
    let ts = c.args.types.now in
    λ covered. c.loop-at.invariant
    (joins_more c.type_facts.ensures (drop at us) (drop at ts) c.index-others-at.result c.index-types-at.result (drop (at + 1) us) (drop (at + 1) ts)
    (next_left us at c.index-others-at.result c.loop-at-test.true c.index-others-at.is)
    (next_left ts at c.index-types-at.result (omega (arith, c.loop-at-test.true, c.if-types-others.false)) c.index-types-at.is)
    (c.leq.ensures.below.0 c.if-not-leq.false) covered)
