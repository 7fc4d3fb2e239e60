use Rattle.std.proofs.Common.{map, ap, subst}
use Rattle.sound_laws_kept.specs.Solving.{IsWritten}
use Rattle.table_keep.specs.Model.{entries_so, entry_so, sources_so}
use Rattle.analysis.proofs.analysing.analysis_again.Goals as goal

pub returns-in-Ok-clause-written : goal.returns-in-Ok-clause-written
returns-in-Ok-clause-written g c =
    subst (λ table. IsWritten table (sources_so c.args.sources.now) c.in-Ok.analysis.reports (entries_so c.in-Ok.analysis.table)) (ap (map entry_so) c.empty-table.ensures) c.in-Ok.ensures.written
