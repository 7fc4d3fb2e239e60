use Rattle.std.proofs.Common.{◌≡◌, suc, ◌-◌, drop, ap, ◌∙◌, arith}
use Rattle.cons_tree.specs.Callees.{found}
use Rattle.analysis.specs.steps.Entering.{with_exports}
use Rattle.analysis.proofs.Entered.{export_at, more_entered}
use Rattle.analysis.proofs.entering.enter_exports.Goals as goal

pub enter_export-requires : goal.enter_export-requires
enter_export-requires c = export_at c.args.exports.now (c.loop-left.left - 1) c.index-exports-left.result c.requires (omega arith) c.index-exports-left.is

pub loop-left-preserved : goal.loop-left-preserved
loop-left-preserved c =
    let one : c.loop-left.left ≡ suc (c.loop-left.left - 1) = omega arith in
    record {
      low = omega arith;
      known =
          more_entered (found c.args.known.now) (found c.loop-left.known) (found c.enter_export.new.known) c.args.home.now c.args.exports.now (c.loop-left.left - 1) c.index-exports-left.result (omega arith) c.index-exports-left.is
          (c.loop-left.invariant.known ∙ ap (λ n. with_exports (found c.args.known.now) c.args.home.now (drop n c.args.exports.now)) one)
          c.in_ok-enter_export.ensures;
    }
