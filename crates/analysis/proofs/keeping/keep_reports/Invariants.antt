use Rattle.std.proofs.Common.{◌≡◌, length}
use Rattle.table_keep.specs.Model.{sources_so}
use Rattle.analysis.specs.Keeping.{AreKeptOf}
use Rattle.analysis.proofs.keeping.keep_reports.Given as goal

abbrev pub invariant-loop-at : goal.invariant-loop-at
invariant-loop-at l = record {
  places : length l.kept ≡ length l.fn.kept;
  kept : AreKeptOf (sources_so l.sources) l.kept;
}
