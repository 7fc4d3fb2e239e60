use Rattle.std.proofs.Common.{◌∷◌, [], length, None, sym, ap, ◌∙◌, subst, arith, length-append}
use Rattle.table_keep.specs.Model.{sources_so}
use Rattle.analysis.specs.Keeping.{AreKeptOf}
use Rattle.analysis.proofs.KeptReports.{kept_none}
use Rattle.analysis.proofs.analysing.add_places.Goals as goal

pub loop-kept-preserved : goal.loop-kept-preserved
loop-kept-preserved c =
    let longer = ap length c.in_ok-add.ensures.ok ∙ length-append c.loop-kept.kept (None ∷ []) in
    record {
      places = omega (arith, longer);
      kept = subst (AreKeptOf (sources_so c.args.sources.now)) (sym c.in_ok-add.ensures.ok) (kept_none (sources_so c.args.sources.now) c.loop-kept.kept c.loop-kept.invariant.kept);
    }

pub loop-kept-smaller : goal.loop-kept-smaller
loop-kept-smaller c =
    let longer = ap length c.in_ok-add.ensures.ok ∙ length-append c.loop-kept.kept (None ∷ []) in
    omega (arith, longer)
