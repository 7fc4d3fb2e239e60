use Rattle.indexmap.specs.IndexMap.{keys}
use Rattle.table_keep.proofs.SortedNames.{sorted_rises}
use Rattle.table_keep.proofs.candidates.sort.Goals as goal

pub returns-in-Ok-clause-rises : goal.returns-in-Ok-clause-rises
returns-in-Ok-clause-rises c = sorted_rises (keys c.sort_unstable_keys.new.self) c.in-Ok.ensures.sorted c.in-Ok.ensures.unique
