use Rattle.type_kinds.proofs.Lists.{nothing_there}
use Rattle.fun_flow_applied.proofs.module_text.line_at.Goals as goal

pub returns-in-None : goal.returns-in-None
returns-in-None c = nothing_there c.args.text.now.lines c.args.label c.get.result c.in-None.is c.get.ensures.value
