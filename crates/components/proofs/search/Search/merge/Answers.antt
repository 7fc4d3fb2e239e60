use Rattle.components.proofs.Appended.{popped}
use Rattle.components.proofs.Steps.{merge_step, top_some}
use Rattle.components.proofs.search.Search.merge.Goals as goal

pub returns-clause-sound : goal.returns-clause-sound
returns-clause-sound c = merge_step _ _ _ _ _ _ _ _ _ _ c.requires.sound c.requires.top c.requires.back.0 c.requires.back.1 (popped _ _ _ (top_some _ _ c.requires.top) c.pop.ensures).1
