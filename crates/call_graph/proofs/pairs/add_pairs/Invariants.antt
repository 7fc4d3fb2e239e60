use Rattle.std.proofs.Common.{◌≡◌, ◌↔◌, ℕ, ◌⊎◌, Contains, length, drop}
use Rattle.components.specs.Graph.{Leads}
use Rattle.call_graph.proofs.pairs.add_pairs.Given as goal

abbrev pub invariant-loop-to : goal.invariant-loop-to
invariant-loop-to l = record {
  pairs : (i j : ℕ) → (Leads l.graph i j ⊎ ((i ≡ l.from) × Contains (drop l.to-index l.callees) j)) ↔ (Leads l.fn.graph i j ⊎ ((i ≡ l.from) × Contains l.callees j));
  size : length l.graph ≡ length l.fn.graph;
}
