use Rattle.comp_rounds.proofs.Settled as settled
use Rattle.comp_rounds.proofs.Taking.{summaries_take}
use Rattle.comp_rounds.proofs.Widening as widening
use Rattle.comp_rounds.proofs.laws.rounds_laws.Goals as goal

pub returns-clause-settles : goal.returns-clause-settles
returns-clause-settles c = λ outside gs. widening.last_still c.type_facts.ensures c.solution_laws.ensures.below outside gs

pub returns-clause-ends : goal.returns-clause-ends
returns-clause-ends c = λ outside gs k h. widening.settled_after c.type_facts.ensures c.solution_laws.ensures.below outside gs k h

pub returns-clause-stays : goal.returns-clause-stays
returns-clause-stays c = λ outside gs k n still h. settled.stays c.type_facts.ensures outside gs k still n h

pub returns-clause-take : goal.returns-clause-take
returns-clause-take c = λ outside gs. summaries_take c.solution_laws.ensures.below outside gs
