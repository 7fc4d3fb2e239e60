use Rattle.std.proofs.Common.{◌≡◌, ◌↔◌, ℕ, length}
use Rattle.indexmap.specs.IndexMap.{keys}
use Rattle.components.specs.Graph.{Leads}
use Rattle.table_keep.specs.Kept.{calls_of}
use Rattle.table_keep.specs.Model.{entries_so, sources_so}
use Rattle.table_keep.proofs.GraphLaws.{FromFirst}
use Rattle.table_keep.proofs.module_graph.module_graph.Given as goal

abbrev pub invariant-loop-place : goal.invariant-loop-place
invariant-loop-place l = record {
  size : length l.graph ≡ length (keys l.found);
  pairs : (i j : ℕ) → Leads l.graph i j ↔ FromFirst (keys l.found) (calls_of (entries_so l.table) (sources_so l.sources)) l.place i j;
}
