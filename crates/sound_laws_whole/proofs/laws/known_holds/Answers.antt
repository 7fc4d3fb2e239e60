use Rattle.sound_laws_whole.proofs.laws.known_holds.Goals as goal

pub returns-clause-strict : goal.returns-clause-strict
returns-clause-strict c = λ xs known accepted apart is stage tr run home f s v vs w at top among.
    c.whole_holds.ensures.strict xs known accepted (c.known_is_whole.ensures xs known accepted apart is) stage tr run home f s v vs w at top among

pub returns-clause-lenient : goal.returns-clause-lenient
returns-clause-lenient c = λ xs known accepted apart is stage tr run home f s v vs w at top among.
    c.whole_holds.ensures.lenient xs known accepted (c.known_is_whole.ensures xs known accepted apart is) stage tr run home f s v vs w at top among
