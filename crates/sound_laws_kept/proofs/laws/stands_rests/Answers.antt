use Rattle.sound_laws_kept.proofs.Rests as rests
use Rattle.sound_laws_kept.proofs.laws.stands_rests.Goals as goal

pub returns : goal.returns
returns c = rests.stands_rests
