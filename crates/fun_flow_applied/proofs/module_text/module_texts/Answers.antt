use Rattle.std.proofs.Common.{◌∙◌, ap}
use Rattle.core_ast.specs.Tree.{module_tree}
use Rattle.core_scope.specs.Checked.{module_of, tree_of}
use Rattle.fun_flow_applied.proofs.Zipped.{mapped_round}
use Rattle.fun_flow_applied.specs.steps.Texts.{IsTextOf}
use Rattle.fun_flow_applied.proofs.module_text.module_texts.Goals as goal

pub loop-source-preserved : goal.loop-source-preserved
loop-source-preserved g c =
    mapped_round IsTextOf (λ s. tree_of (g.S.AsChecked.stands_for s)) c.args.mods.now c.loop-source.source-index c.source-item.result c.loop-source.texts.items c.push.new.self.items
    c.in_ok-text.text c.loop-source-test.true c.source-item.is c.loop-source.invariant c.in-Ok.ensures.items
    (ap module_tree (c.module.ensures ∙ ap module_of c.checked.ensures)) c.in_ok-text.ensures
