use Rattle.module_flow_calls.proofs.TypeLists.{as_many_parts}
use Rattle.module_flow_calls.proofs.types.as_many.Goals as goal

pub returns : goal.returns
returns c =
    as_many_parts c.args.count c.len.result c.args.types c.truncate.new.self c.add_any.new.types c.truncate.ensures c.len.ensures c.in_ok-add_any.ensures
