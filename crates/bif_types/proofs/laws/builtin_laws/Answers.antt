use Rattle.bif_types.proofs.BuiltinLaws.{satisfied, held}
use Rattle.bif_types.proofs.laws.builtin_laws.Goals as goal

pub returns-clause-satisfies : goal.returns-clause-satisfies
returns-clause-satisfies c = satisfied

pub returns-clause-held : goal.returns-clause-held
returns-clause-held c = held
