use Rattle.std.proofs.Common.{◌≡◌, length}
use Rattle.std.specs.Prelude.{All}
use Rattle.cons_tree.specs.Callees.{found}
use Rattle.table_keep.specs.Model.{sources_so}
use Rattle.analysis.specs.steps.Reporting.{IsMade, AreKept}
use Rattle.analysis.proofs.reporting.keep_all.Given as goal

abbrev pub invariant-loop-made : goal.invariant-loop-made
invariant-loop-made l = record {
  counted : length l.kept ≡ length l.sources;
  kept : AreKept (found l.known) (sources_so l.sources) l.kept;
  made : All (IsMade (found l.known) (sources_so l.sources)) l.list;
}

abbrev pub decreases-loop-made : goal.decreases-loop-made
decreases-loop-made l = length l.list
