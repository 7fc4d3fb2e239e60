use Rattle.std.proofs.Common.{◌≡◌, length}
use Rattle.cons_tree.specs.Callees.{found}
use Rattle.table_keep.specs.Model.{sources_so}
use Rattle.analysis.specs.steps.Reporting.{AreKept}
use Rattle.analysis.proofs.Reported.{ReportedBelow}
use Rattle.analysis.proofs.solving.report_on_all.Given as goal

abbrev pub invariant-loop-at : goal.invariant-loop-at
invariant-loop-at l = record {
  reported : ReportedBelow l.todo (sources_so l.sources) (found l.known) l.fn.lines l.lines l.at;
  places : length l.made ≡ length l.sources;
  kept : AreKept (found l.known) (sources_so l.sources) l.made;
}
