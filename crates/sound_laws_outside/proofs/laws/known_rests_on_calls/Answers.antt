use Rattle.sound_laws_outside.proofs.Following.{rests}
use Rattle.sound_laws_outside.proofs.laws.known_rests_on_calls.Goals as goal

pub returns : goal.returns
returns c = rests c.known_is_carried.ensures c.one_is_known.ensures
