use Rattle.sound_laws.proofs.gathered.solution_facts.Goals as goal

pub returns : goal.returns
returns c = record { every = c.type_laws.ensures.every; below = c.solution_laws.ensures.below; keeps = c.solution_laws.ensures.keeps }
