use Rattle.core_scope.proofs.names.last_of.Goals as goal
use Rattle.type_kinds.proofs.Lists.{nothing_there}

pub returns-in-None : goal.returns-in-None
returns-in-None c = nothing_there c.args.last.now c.args.number c.get.result c.in-None.is c.get.ensures.value
