use Rattle.std.proofs.Common.{◌≡◌, ◌↔◌, ℕ, ◌+◌, ◌⊎◌, [], ◌++◌, length, drop, map}
use Rattle.components.specs.Graph.{Leads}
use Rattle.core_ast.specs.Tree.{all_defs}
use Rattle.call_graph.specs.Calls.{functions_in}
use Rattle.call_graph.specs.steps.Walking.{PairsFrom, missed_in}
use Rattle.call_graph.proofs.pairs.add_module.Given as goal

abbrev pub invariant-loop-def : goal.invariant-loop-def
invariant-loop-def l = record {
  pairs : (i j : ℕ) → (Leads l.calls.graph i j ⊎ PairsFrom l.fn.walk.table l.caller (functions_in l.source.name l.source.exports (all_defs (drop l.def-index l.defs))) i j)
      ↔ (Leads l.fn.calls.graph i j ⊎ PairsFrom l.fn.walk.table l.first (functions_in l.source.name l.source.exports (all_defs l.defs)) i j);
  size : length l.calls.graph ≡ length l.fn.calls.graph;
  caller : l.caller + length (functions_in l.source.name l.source.exports (all_defs (drop l.def-index l.defs))) ≡ l.first + length (functions_in l.source.name l.source.exports (all_defs l.defs));
  table : l.walk.table ≡ l.fn.walk.table;
  home : l.walk.home ≡ l.source.name;
  outside : l.calls.outside ++ map (missed_in l.fn.walk.table) (functions_in l.source.name l.source.exports (all_defs (drop l.def-index l.defs)))
      ≡ l.fn.calls.outside ++ map (missed_in l.fn.walk.table) (functions_in l.source.name l.source.exports (all_defs l.defs));
  locals : l.walk.locals ≡ [];
}
