use Rattle.std.proofs.Common.{◌++◌, ◌∙◌, ap, arith}
use Rattle.std.specs.Option.{option_to_list}
use Rattle.components.proofs.Steps.{settle_step}
use Rattle.components.proofs.search.Search.settle.Goals as goal

pub returns-clause-sound : goal.returns-clause-sound
returns-clause-sound c = settle_step _ _ _ _ _ _ _ _ _ _ c.requires.sound c.requires.top c.requires.known.0 c.requires.known.1
    (c.pop.ensures.items ∙ ap (λ o. c.pop.new.self.items ++ option_to_list o) (c.pop.ensures.value 0 (omega (arith, c.requires.known.0))))
