use Rattle.std.proofs.Common.{sym, subst}
use Rattle.core_scope.specs.Checked.{tree_of}
use Rattle.cons_tree.specs.Callees.{found}
use Rattle.table_keep.specs.Model.{source_so}
use Rattle.analysis.specs.steps.Reporting.{IsReportOn}
use Rattle.analysis.proofs.KeptReports.{still_lines}
use Rattle.analysis.proofs.keeping.lines_now.Goals as goal

pub returns : goal.returns
returns c =
    subst (IsReportOn (found c.args.known.now) (source_so c.args.source.now)) (sym c.in_ok-lines.ensures)
    (still_lines c.findings_rest_on_calls.ensures.findings (tree_of c.args.source.now.checked) c.args.report.now (found c.args.known.now) c.requires.kept c.requires.closed
    (c.stands.ensures c.if-not-stands.false))
