use Rattle.sound_laws_outside.proofs.Folding.{solved}
use Rattle.sound_laws_outside.proofs.laws.solved_is_known.Goals as goal

pub returns : goal.returns
returns c = solved
