use Rattle.std.proofs.Common.{◌≡◌, length}
use Rattle.cons_tree.specs.Callees.{found}
use Rattle.table_keep.specs.Model.{sources_so}
use Rattle.analysis.specs.steps.Reporting.{AreKept}
use Rattle.analysis.proofs.reporting.made_by_workers.Given as goal

abbrev pub invariant-loop-list : goal.invariant-loop-list
invariant-loop-list g l = record {
  counted : length l.kept ≡ length l.sources;
  kept : AreKept (found l.known) (sources_so l.sources) l.kept;
}
