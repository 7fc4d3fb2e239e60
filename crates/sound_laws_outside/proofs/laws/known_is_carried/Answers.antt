use Rattle.sound_laws_outside.proofs.Carrying.{carried}
use Rattle.sound_laws_outside.proofs.laws.known_is_carried.Goals as goal

pub returns : goal.returns
returns c = carried
