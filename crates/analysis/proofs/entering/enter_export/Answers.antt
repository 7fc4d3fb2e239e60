use Rattle.std.proofs.Common.{◌∙◌, ap}
use Rattle.cons_tree.specs.Callees.{found}
use Rattle.cons_tree.specs.declared.parts.Callee.TheVariants.{Known}
use Rattle.type_kinds.proofs.Results.{on_both}
use Rattle.comp_rounds.proofs.SameCallees.{set_callee}
use Rattle.analysis.proofs.entering.enter_export.Goals as goal

pub returns : goal.returns
returns c =
    on_both c.set.result c.set.ensures.set c.set.ensures.others
    (λ set others. set_callee (found c.args.known.now) (found c.set.new.self) c.args.home.now c.args.export.now.0 (Known c.args.export.now.1) (set ∙ ap Known c.in_ok-summary.ensures) others)
