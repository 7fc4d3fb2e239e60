use Rattle.sound_laws.proofs.gathered.facts.Goals as goal

pub returns : goal.returns
returns c = record { atoms = c.maker_laws.ensures.atoms; ints = c.maker_laws.ensures.ints; kind = c.maker_laws.ensures.kind; built_in = c.builtin_laws.ensures.satisfies }
