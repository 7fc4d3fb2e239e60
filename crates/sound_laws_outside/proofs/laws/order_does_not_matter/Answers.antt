use Rattle.sound_laws_outside.proofs.Following.{order}
use Rattle.sound_laws_outside.proofs.laws.order_does_not_matter.Goals as goal

pub returns : goal.returns
returns c = order c.solved_is_known.ensures c.known_is_carried.ensures c.one_is_known.ensures
