use Rattle.table_verify_laws.proofs.Firsts.{one_first}
use Rattle.table_verify_laws.proofs.laws.one_first_rule.Goals as goal

pub returns : goal.returns
returns c = one_first
