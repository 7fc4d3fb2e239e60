use Rattle.module_flow_state.proofs.changes.Changes.last.Goals as goal
use Rattle.type_kinds.proofs.Lists.{nothing_there}

pub returns-in-None : goal.returns-in-None
returns-in-None c = nothing_there c.args.self.now.rounds c.args.label c.get.result c.in-None.is c.get.ensures.value
