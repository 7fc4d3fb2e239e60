use Rattle.std.proofs.Common.{length, subst}
use Rattle.components.specs.steps.Search.{Closes}
use Rattle.components.proofs.Appended.{popped}
use Rattle.components.proofs.Steps.{close_step, top_some}
use Rattle.components.proofs.search.Search.close.Goals as goal

pub returns-clause-sound : goal.returns-clause-sound
returns-clause-sound c =
    close_step _ _ _ _ _ _ _ _ _ _ _ _ c.requires.sound c.requires.top c.requires.idle
    (subst (λ p. Closes c.args.self.now.states.items c.shut.new.states.items p c.args.top.first (length p) c.args.self.now.count) c.as_slice.ensures c.shut.ensures)
    c.truncate.ensures (popped _ _ _ (top_some _ _ c.requires.top) c.pop.ensures).1
