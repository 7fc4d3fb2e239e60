use Rattle.std.proofs.Common.{drop}
use Rattle.core_ast.specs.Tree.{all_defs}
use Rattle.core_print.specs.Canonical.{definitions}
use Rattle.core_print.proofs.Adding.{Still}
use Rattle.core_print.proofs.modules.append_definitions.Given as goal

abbrev pub invariant-loop-definition : goal.invariant-loop-definition
invariant-loop-definition l = Still (definitions (all_defs (drop l.definition-index l.shared))) (definitions (all_defs l.shared)) l.fn.out l.out
