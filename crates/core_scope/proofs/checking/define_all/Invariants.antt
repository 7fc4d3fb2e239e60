use Rattle.std.proofs.Common.{◌≡◌, ◌≤◌, [], length, drop}
use Rattle.core_ast.specs.Tree.{all_defs}
use Rattle.core_scope.specs.Names.{defined_names}
use Rattle.core_scope.specs.Breaks.{new_functions}
use Rattle.core_scope.specs.steps.State.{defining}
use Rattle.core_scope.proofs.checking.define_all.Given as goal

abbrev pub invariant-loop-def : goal.invariant-loop-def
invariant-loop-def l = record {
  so_far : defining l.walk (defined_names (all_defs (drop l.def-index l.defs))) (new_functions (drop l.from l.walk.functions) (all_defs (drop l.def-index l.defs)))
      ≡ defining l.fn.walk (defined_names (all_defs l.defs)) (new_functions [] (all_defs l.defs));
  within : l.from ≤ length l.walk.functions;
}
