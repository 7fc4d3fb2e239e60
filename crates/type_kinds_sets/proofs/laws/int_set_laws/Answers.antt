use Rattle.type_kinds_sets.proofs.NumberLaws.{join-least}
use Rattle.type_kinds_sets.proofs.laws.int_set_laws.Goals as goal

pub returns-clause-least : goal.returns-clause-least
returns-clause-least c = join-least
