use Rattle.std.proofs.Common.{◌≡◌, length, slice_get, true, Some, sym, ap, ◌∙◌, subst, arith}
use Rattle.std.proofs.lemmas.List.{length-set}
use Rattle.std.proofs.lemmas.Option.{slice_get-get_or}
use Rattle.core_ast.specs.declared.syntax.Module.{Module}
use Rattle.core_scope.specs.Checked.{tree_of}
use Rattle.cons_tree.specs.Callees.{found}
use Rattle.table_keep.specs.Groups.{has}
use Rattle.table_keep.specs.Model.{source_so, sources_so}
use Rattle.analysis.specs.Keeping.{AreKeptOf}
use Rattle.analysis.proofs.Handed.{source_at}
use Rattle.analysis.proofs.KeptReports.{kept_anew, text_reported}
use Rattle.analysis.proofs.keeping.keep_at.Goals as goal

pub keep_report-requires-clause-closed : goal.keep_report-requires-clause-closed
keep_report-requires-clause-closed c =
    let s = c.index-sources-at.result in
    let at = source_at c.args.sources.now c.args.at s (slice_get-get_or c.args.sources.now c.args.at s (omega arith) ∙ ap Some (sym c.index-sources-at.is)) in
    let own : has c.args.todo.now (tree_of s.checked).name ≡ true = ap (λ (x : Module). has c.args.todo.now x.name) (sym c.«module».ensures) ∙ sym c.has.ensures ∙ c.if-not-has.false in
    c.requires.closed c.args.at (source_so s) at own

pub keep_report-requires-clause-report : goal.keep_report-requires-clause-report
keep_report-requires-clause-report c =
    let s = c.index-sources-at.result in
    let at = source_at c.args.sources.now c.args.at s (slice_get-get_or c.args.sources.now c.args.at s (omega arith) ∙ ap Some (sym c.index-sources-at.is)) in
    let own : has c.args.todo.now (tree_of s.checked).name ≡ true = ap (λ (x : Module). has c.args.todo.now x.name) (sym c.«module».ensures) ∙ sym c.has.ensures ∙ c.if-not-has.false in
    text_reported (found c.args.known.now) (tree_of s.checked) (slice_get c.args.lines.now c.args.at) c.at.result.now c.at.ensures (c.requires.reported c.args.at (source_so s) at own)

pub returns-clause-places : goal.returns-clause-places
returns-clause-places c = ap length c.replace.ensures.after ∙ length-set c.args.kept.now c.args.at (Some c.in_ok-report.report)

pub returns-clause-kept : goal.returns-clause-kept
returns-clause-kept c =
    let s = c.index-sources-at.result in
    let at = source_at c.args.sources.now c.args.at s (slice_get-get_or c.args.sources.now c.args.at s (omega arith) ∙ ap Some (sym c.index-sources-at.is)) in
    subst (AreKeptOf (sources_so c.args.sources.now)) (sym c.replace.ensures.after)
    (kept_anew (sources_so c.args.sources.now) c.args.kept.now c.requires.kept c.args.at (source_so s) at c.in_ok-report.report c.in_ok-report.ensures)
