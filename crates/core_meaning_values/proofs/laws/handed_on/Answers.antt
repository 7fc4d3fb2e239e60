use Rattle.core_meaning_values.proofs.Handed.{held}
use Rattle.core_meaning_values.proofs.laws.handed_on.Goals as goal

pub returns : goal.returns
returns c = record { held = held }
