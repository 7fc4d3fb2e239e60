use Rattle.indexmap.specs.IndexMap.{get}
use Rattle.core_scope.specs.Names.{same_atom}
use Rattle.table_keep.specs.steps.Candidates.{entry_names}
use Rattle.table_keep.proofs.PlacedNames.{entry_round}
use Rattle.table_keep.proofs.RisingNames.{never_before}
use Rattle.table_keep.proofs.StandingNames.{entry_at}
use Rattle.table_keep.proofs.candidates.add_entries.Goals as goal

pub loop-at-preserved : goal.loop-at-preserved
loop-at-preserved c = λ sources start.
    let names = entry_names c.args.entries.now in
    let at = entry_at c.args.entries.now c.loop-at.at c.index-entries-at.result c.loop-at-test.true c.index-entries-at.is in
    entry_round sources names c.loop-at.at c.index-entries-at.result.name (get same_atom c.loop-at.found) (get same_atom c.put_entry.new.found) at
    (never_before names c.requires c.loop-at.at c.index-entries-at.result.name at) (c.loop-at.invariant sources start) c.in_ok-put_entry.ensures
