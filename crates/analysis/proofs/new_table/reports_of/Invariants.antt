use Rattle.std.proofs.Common.{◌≡◌, ◌++◌, drop, map}
use Rattle.table_keep.specs.Model.{sources_so}
use Rattle.analysis.specs.steps.Keyed.{entry_at}
use Rattle.analysis.specs.steps.Making.{lines_in}
use Rattle.analysis.proofs.new_table.reports_of.Given as goal

abbrev pub invariant-loop-source : goal.invariant-loop-source
invariant-loop-source l =
    l.reports ++ map (λ s. lines_in (entry_at l.entries.by_name s.tree.name)) (sources_so (drop l.source-index l.sources)) ≡ map (λ s. lines_in (entry_at l.entries.by_name s.tree.name)) (sources_so l.sources)
