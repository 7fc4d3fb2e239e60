use Rattle.sound_laws_rounds.proofs.Closed.{are_closed}
use Rattle.sound_laws_rounds.proofs.laws.whole_is_closed.Goals as goal

pub returns : goal.returns
returns c = λ U K whole. are_closed c.type_facts.ensures c.solution_laws.ensures.alive c.rounds_laws.ensures.settles U K whole
