use Rattle.std.proofs.Common.{arith}
use Rattle.module_flow_calls.proofs.TypeLists.{joins_end}
use Rattle.module_flow_calls.proofs.types.joins.Goals as goal

pub returns : goal.returns
returns c =
    joins_end c.args.left.now c.args.right.now c.loop-at.list c.loop-at.at c.min-at-end.result c.min-at-end.ensures (omega (arith, c.loop-at-test.false)) c.loop-at.invariant
