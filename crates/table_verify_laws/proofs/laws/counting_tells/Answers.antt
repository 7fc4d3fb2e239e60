use Rattle.table_verify_laws.proofs.Compared.{told}
use Rattle.table_verify_laws.proofs.laws.counting_tells.Goals as goal

pub returns : goal.returns
returns c = told c.call_laws.ensures.exports
