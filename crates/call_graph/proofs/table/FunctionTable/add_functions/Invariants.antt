use Rattle.std.proofs.Common.{◌≡◌, ◌+◌, length, drop}
use Rattle.core_ast.specs.Tree.{all_defs}
use Rattle.call_graph.specs.Calls.{functions_in}
use Rattle.call_graph.specs.steps.Building.{inserted}
use Rattle.call_graph.proofs.table.FunctionTable.add_functions.Given as goal

abbrev pub invariant-loop-def : goal.invariant-loop-def
invariant-loop-def l = record {
  entries : inserted l.self.functions.entries l.self.count (functions_in l.home l.exports (all_defs (drop l.def-index l.defs))) ≡ inserted l.fn.self.functions.entries l.fn.self.count (functions_in l.home l.exports (all_defs l.defs));
  count : l.self.count + length (functions_in l.home l.exports (all_defs (drop l.def-index l.defs))) ≡ l.fn.self.count + length (functions_in l.home l.exports (all_defs l.defs));
  modules : l.self.modules.keys ≡ l.fn.self.modules.keys;
}
