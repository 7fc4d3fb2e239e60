use Rattle.table_verify_laws.proofs.Closed.{are_closed}
use Rattle.table_verify_laws.proofs.laws.rules_close.Goals as goal

pub returns : goal.returns
returns c = are_closed c.call_laws.ensures.exports
