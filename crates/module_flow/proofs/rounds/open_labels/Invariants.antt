use Rattle.std.proofs.Common.{◌≡◌, ◌++◌, drop}
use Rattle.core_ast.specs.Tree.{all_defs}
use Rattle.module_flow.specs.Flow.{exported_labels}
use Rattle.module_flow.proofs.rounds.open_labels.Given as goal

abbrev pub invariant-loop-def : goal.invariant-loop-def
invariant-loop-def l = l.labels ++ exported_labels l.exports (all_defs (drop l.def-index l.defs)) ≡ exported_labels l.exports (all_defs l.defs)

abbrev pub invariant-loop-label : goal.invariant-loop-label
invariant-loop-label l = l.labels ++ drop l.label-index l.values ≡ exported_labels l.exports (all_defs l.defs) ++ l.values
