use Rattle.std.proofs.Common.{sym, subst}
use Rattle.core_scope.specs.Checked.{tree_of}
use Rattle.cons_tree.specs.Callees.{found}
use Rattle.module_flow.specs.Flow.{findings}
use Rattle.warn_list.specs.Lines.{AreLines}
use Rattle.analysis.proofs.kept.keep_report.Goals as goal

pub returns : goal.returns
returns c = record {
  known = found c.args.known.now;
  closed = c.requires.closed;
  rests = c.in_ok-rests.ensures;
  lines = subst (AreLines (tree_of c.args.source.now).name (findings (found c.args.known.now) (tree_of c.args.source.now))) (sym c.in_ok-lines.ensures) c.requires.report;
}
