use Rattle.core_reading_laws.proofs.Breaks.{first_break}
use Rattle.core_reading_laws.proofs.laws.a_first_break.Goals as goal

pub returns : goal.returns
returns c = first_break
