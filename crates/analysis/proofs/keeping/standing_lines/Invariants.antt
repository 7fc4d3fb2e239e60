use Rattle.std.proofs.Common.{◌≡◌, length}
use Rattle.cons_tree.specs.Callees.{found}
use Rattle.table_keep.specs.Model.{sources_so}
use Rattle.analysis.specs.steps.Reporting.{AreKept}
use Rattle.analysis.proofs.keeping.standing_lines.Given as goal

abbrev pub invariant-loop-at : goal.invariant-loop-at
invariant-loop-at l = record {
  counted : length l.lines ≡ l.at;
  kept : AreKept (found l.known) (sources_so l.sources) l.lines;
}
