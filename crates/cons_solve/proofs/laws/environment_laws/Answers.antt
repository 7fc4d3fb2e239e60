use Rattle.cons_solve.proofs.OrderLaws as O
use Rattle.cons_solve.proofs.laws.environment_laws.Goals as goal

pub returns-clause-laws : goal.returns-clause-laws
returns-clause-laws c =
    O.environment_laws c.type_facts.ensures c.type_laws.ensures.rank c.narrowing_laws.ensures.below c.narrowing_laws.ensures.monotone
