use Rattle.module_flow_calls.proofs.TypeLists.{are_same_long}
use Rattle.module_flow_calls.proofs.types.are_same.Goals as goal

pub returns-then-left-right : goal.returns-then-left-right
returns-then-left-right c = are_same_long c.args.left.now c.args.right.now c.if-left-right.true
