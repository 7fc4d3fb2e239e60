use Rattle.std.proofs.Common.{◌≡◌, ◌++◌, drop}
use Rattle.core_ast.specs.Tree.{all_defs}
use Rattle.core_lines.specs.Lines.{lines_of_defs}
use Rattle.core_lines.proofs.expressions.node_lines.Given as goal

abbrev pub invariant-loop-def : goal.invariant-loop-def
invariant-loop-def l = l.out ++ lines_of_defs l.module.note.line (all_defs (drop l.def-index l.module.defs)) ≡ lines_of_defs l.module.note.line (all_defs l.module.defs)
