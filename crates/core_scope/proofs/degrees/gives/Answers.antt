use Rattle.core_scope.proofs.GivesExits.{gives_call}
use Rattle.core_scope.proofs.degrees.gives.Goals as goal

pub returns-in-Call : goal.returns-in-Call
returns-in-Call c =
    gives_call c.args.expr.now c.in-Call.home c.in-Call.name c.get.result.now c.get-in-Call.result.now c.in-Call.args c.len-in-Call.result c.call_gives.result c.in-Call.is c.get.ensures c.get-in-Call.ensures c.len-in-Call.ensures
    c.call_gives.ensures
