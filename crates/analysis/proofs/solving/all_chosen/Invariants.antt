use Rattle.std.proofs.Common.{◌≡◌, ◌++◌, drop, map}
use Rattle.table_keep.specs.Groups.{has}
use Rattle.table_keep.specs.Model.{picked, source_so, sources_so}
use Rattle.analysis.proofs.solving.all_chosen.Given as goal

abbrev pub invariant-loop-source : goal.invariant-loop-source
invariant-loop-source l =
    map (λ c. source_so c.source.now) l.list ++ picked (has l.todo) (sources_so (drop l.source-index l.sources)) ≡ picked (has l.todo) (sources_so l.sources)
