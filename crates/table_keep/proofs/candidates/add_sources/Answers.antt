use Rattle.indexmap.specs.IndexMap.{get}
use Rattle.core_scope.specs.Names.{same_atom}
use Rattle.table_keep.specs.steps.Candidates.{source_names}
use Rattle.table_keep.proofs.PlacedNames.{source_round}
use Rattle.table_keep.proofs.StandingNames.{none_earlier, source_at}
use Rattle.table_keep.proofs.candidates.add_sources.Goals as goal

pub loop-at-preserved : goal.loop-at-preserved
loop-at-preserved c =
    let names = source_names c.args.sources.now in
    let at = source_at c.args.sources.now c.loop-at.at c.index-sources-at.result c.module.result.now c.loop-at-test.true c.index-sources-at.is c.module.ensures in
    source_round names c.loop-at.at c.module.result.now.name (get same_atom c.loop-at.found) (get same_atom c.put.new.found) at
    (none_earlier names c.loop-at.at c.module.result.now.name at (c.requires.distinct c.loop-at.at c.loop-at-test.true)) c.loop-at.invariant c.in_ok-put.ensures
