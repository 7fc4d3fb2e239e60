use Rattle.std.proofs.Common.{◌≡◌, ◌++◌, drop}
use Rattle.core_ast.specs.Tree.{all_defs}
use Rattle.core_scope.specs.Names.{defined_names}
use Rattle.module_flow_calls.specs.Functions.{defined_labels}
use Rattle.module_flow_calls.proofs.functions.Functions.add_all.Given as goal

abbrev pub invariant-loop-def : goal.invariant-loop-def
invariant-loop-def l = record {
  names : l.self.names ++ defined_names (all_defs (drop l.def-index l.defs)) ≡ l.fn.self.names ++ defined_names (all_defs l.defs);
  labels : l.self.labels ++ defined_labels (all_defs (drop l.def-index l.defs)) ≡ l.fn.self.labels ++ defined_labels (all_defs l.defs);
}
