use Rattle.std.proofs.Common.{None, Some, length, sym, subst, ap, ◌∙◌, arith}
use Rattle.std.proofs.lemmas.List.{length-map, length-set}
use Rattle.std.proofs.lemmas.Option.{slice_get-get_or}
use Rattle.cons_tree.specs.Callees.{found}
use Rattle.table_keep.specs.Model.{source_so, sources_so}
use Rattle.analysis.specs.steps.Reporting.{AreKept}
use Rattle.analysis.proofs.Handed.{source_at}
use Rattle.analysis.proofs.MadeReports.{kept_set, none_some, was_kept}
use Rattle.analysis.proofs.Reported.{one_reported, all_reported}
use Rattle.analysis.proofs.solving.report_on_all.Goals as goal

pub loop-at-preserved : goal.loop-at-preserved
loop-at-preserved c =
    let s = c.index-sources-at.result in
    let it = c.loop-at.invariant in
    let known = found c.args.known.now in
    let M = sources_so c.args.sources.now in
    record {
      reported = one_reported c.args.todo.now M known c.args.lines.now c.loop-at.lines c.report_at.new.lines c.loop-at.at (source_so s) it.reported
          (source_at c.args.sources.now c.loop-at.at s (slice_get-get_or c.args.sources.now c.loop-at.at s (omega arith) ∙ ap Some (sym c.index-sources-at.is)))
          c.in_ok-report_at.ensures.counted c.in_ok-report_at.ensures.reported c.in_ok-report_at.ensures.stays c.in_ok-report_at.ensures.others;
      places = ap length c.replace-was.ensures.after ∙ length-set c.loop-at.made c.loop-at.at None ∙ it.places;
      kept = subst (AreKept known M) (sym c.replace-was.ensures.after)
          (kept_set known M c.loop-at.made c.loop-at.at None it.kept (λ x text e h. absurd (none_some text e)));
    }

pub returns : goal.returns
returns c =
    let t = c.loop-at-test.false in
    let counted = length-map c.args.sources.now source_so in
    all_reported c.args.todo.now (sources_so c.args.sources.now) (found c.args.known.now) c.args.lines.now c.loop-at.lines c.loop-at.at (omega (arith, counted)) c.loop-at.invariant.reported

pub report_at-requires-clause-made : goal.report_at-requires-clause-made
report_at-requires-clause-made c =
    let s = c.index-sources-at.result in
    was_kept (found c.args.known.now) (sources_so c.args.sources.now) c.loop-at.made c.loop-at.at (source_so s) c.replace-was.result c.loop-at.invariant.kept c.replace-was.ensures.before
    (source_at c.args.sources.now c.loop-at.at s (slice_get-get_or c.args.sources.now c.loop-at.at s (omega arith) ∙ ap Some (sym c.index-sources-at.is)))
