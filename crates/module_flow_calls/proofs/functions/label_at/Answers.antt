use Rattle.module_flow_calls.proofs.functions.label_at.Goals as goal
use Rattle.type_kinds.proofs.Lists.{nothing_there}

pub returns-in-None : goal.returns-in-None
returns-in-None c = nothing_there c.args.labels.now c.args.position c.get.result c.in-None.is c.get.ensures.value
