use Rattle.table_keep.proofs.SomeGroups as some
use Rattle.table_keep.proofs.laws.some_groups.Goals as goal

pub returns : goal.returns
returns c = some.some_groups c.a_numbering.ensures
