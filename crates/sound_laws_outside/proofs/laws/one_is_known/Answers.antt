use Rattle.sound_laws_outside.proofs.One.{one_known}
use Rattle.sound_laws_outside.proofs.laws.one_is_known.Goals as goal

pub returns : goal.returns
returns c = λ xs outside known other a b. one_known c.rounds_laws.ensures.ends xs outside known other a b
