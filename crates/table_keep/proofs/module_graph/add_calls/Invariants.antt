use Rattle.std.proofs.Common.{◌≡◌, ◌↔◌, ℕ, length, drop}
use Rattle.indexmap.specs.IndexMap.{keys}
use Rattle.table_keep.specs.steps.Named.{IsNamed}
use Rattle.table_keep.proofs.CallPairs.{With}
use Rattle.table_keep.proofs.module_graph.add_calls.Given as goal

abbrev pub invariant-loop-name : goal.invariant-loop-name
invariant-loop-name l = record {
  pairs : (i j : ℕ) → With l.graph l.from (IsNamed (keys l.found) (drop l.name-index l.names)) i j ↔ With l.fn.graph l.from (IsNamed (keys l.found) l.names) i j;
  size : length l.graph ≡ length l.fn.graph;
}
