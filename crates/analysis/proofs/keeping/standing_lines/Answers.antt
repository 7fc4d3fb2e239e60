use Rattle.std.proofs.Common.{◌+◌, ◌∷◌, [], length, slice_get, Some, sym, subst, ap, ◌∙◌, arith, length-append}
use Rattle.std.proofs.lemmas.Option.{slice_get-get_or}
use Rattle.cons_tree.specs.Callees.{found}
use Rattle.table_keep.specs.Model.{source_so, sources_so}
use Rattle.analysis.specs.steps.Reporting.{AreKept}
use Rattle.analysis.proofs.Handed.{source_at}
use Rattle.analysis.proofs.MadeReports.{none_kept, one_kept}
use Rattle.analysis.proofs.keeping.standing_lines.Goals as goal

pub loop-at-init : goal.loop-at-init
loop-at-init c = record {
  counted = ap length c.new-lines.ensures;
  kept = subst (AreKept (found c.args.known.now) (sources_so c.args.sources.now)) (sym c.new-lines.ensures) (none_kept (found c.args.known.now) (sources_so c.args.sources.now));
}

pub loop-at-preserved : goal.loop-at-preserved
loop-at-preserved c =
    let s = c.index-sources-at.result in
    let it = c.loop-at.invariant in
    let known = found c.args.known.now in
    let M = sources_so c.args.sources.now in
    let at = source_at c.args.sources.now c.loop-at.at s (slice_get-get_or c.args.sources.now c.loop-at.at s (omega arith) ∙ ap Some (sym c.index-sources-at.is)) in
    record {
      counted = ap length c.in_ok-add.ensures.ok ∙ length-append c.loop-at.lines (c.in_ok-one.one ∷ []) ∙ ap (λ n. n + 1) it.counted;
      kept = subst (AreKept known M) (sym c.in_ok-add.ensures.ok)
          (one_kept known M c.loop-at.lines (source_so s) c.in_ok-one.one it.kept (ap (slice_get M) it.counted ∙ at) c.in_ok-one.ensures);
    }

pub standing_at-requires-clause-closed : goal.standing_at-requires-clause-closed
standing_at-requires-clause-closed c =
    let s = c.index-sources-at.result in
    c.requires.closed c.loop-at.at (source_so s) (source_at c.args.sources.now c.loop-at.at s (slice_get-get_or c.args.sources.now c.loop-at.at s (omega arith) ∙ ap Some (sym c.index-sources-at.is)))

pub standing_at-requires-clause-kept : goal.standing_at-requires-clause-kept
standing_at-requires-clause-kept c =
    let s = c.index-sources-at.result in
    c.requires.kept c.loop-at.at (source_so s) (source_at c.args.sources.now c.loop-at.at s (slice_get-get_or c.args.sources.now c.loop-at.at s (omega arith) ∙ ap Some (sym c.index-sources-at.is)))
