use Rattle.components.proofs.Orders.{advance_more}
use Rattle.components.proofs.ready.Order.advance.Goals as goal

pub loop-to-preserved : goal.loop-to-preserved
loop-to-preserved c =
    advance_more _ _ _ _ _ _ c.loop-to.invariant.0 c.loop-to.invariant.1 c.index.ensures (c.requires.inside c.loop-to.to c.loop-to-test.true) c.in_default.is
