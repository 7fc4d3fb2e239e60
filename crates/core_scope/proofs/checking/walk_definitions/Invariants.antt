use Rattle.std.proofs.Common.{◌≡◌, drop}
use Rattle.core_ast.specs.Tree.{all_defs}
use Rattle.core_scope.specs.Breaks.{def_breaks}
use Rattle.core_scope.specs.steps.State.{scope_of, noting}
use Rattle.core_scope.proofs.checking.walk_definitions.Given as goal

abbrev pub invariant-loop-def : goal.invariant-loop-def
invariant-loop-def l = noting l.walk (def_breaks (scope_of l.walk) (all_defs (drop l.def-index l.defs))) ≡ noting l.fn.walk (def_breaks (scope_of l.fn.walk) (all_defs l.defs))
