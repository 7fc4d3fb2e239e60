use Rattle.std.proofs.Common.{◌-◌, ◌≤◌, length}
use Rattle.table_keep.specs.Model.{sources_so}
use Rattle.analysis.specs.Keeping.{AreKeptOf}
use Rattle.analysis.proofs.analysing.add_places.Given as goal

abbrev pub decreases-loop-kept : goal.decreases-loop-kept
decreases-loop-kept l = length l.sources - length l.kept

abbrev pub invariant-loop-kept : goal.invariant-loop-kept
invariant-loop-kept l = record {
  places : length l.kept ≤ length l.sources;
  kept : AreKeptOf (sources_so l.sources) l.kept;
}
