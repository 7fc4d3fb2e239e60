use Rattle.table_verify_laws.proofs.Fronts.{same_names, other_names}
use Rattle.table_verify_laws.proofs.laws.names_tell.Goals as goal

pub returns-clause-same : goal.returns-clause-same
returns-clause-same c = same_names

pub returns-clause-other : goal.returns-clause-other
returns-clause-other c = other_names
