use Rattle.std.proofs.Common.{map, take}
use Rattle.core_scope.specs.Checked.{tree_of}
use Rattle.fun_flow_applied.specs.steps.Texts.{AreTextsOf}
use Rattle.fun_flow_applied.proofs.module_text.module_texts.Given as goal

abbrev pub invariant-loop-source : goal.invariant-loop-source
invariant-loop-source g l = AreTextsOf (map (λ s. tree_of (g.S.AsChecked.stands_for s)) (take l.source-index l.mods)) l.texts.items
