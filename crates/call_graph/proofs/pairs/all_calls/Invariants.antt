use Rattle.std.proofs.Common.{◌≡◌, ◌↔◌, ℕ, ◌+◌, ◌⊎◌, [], ◌++◌, length, drop, map}
use Rattle.components.specs.Graph.{Leads}
use Rattle.call_graph.specs.Calls.{functions_of}
use Rattle.call_graph.specs.Outside.{outside_of}
use Rattle.call_graph.specs.Tables.{IsTableOf}
use Rattle.call_graph.specs.steps.Walking.{PairsFrom}
use Rattle.call_graph.proofs.DistinctKeys.{modules}
use Rattle.call_graph.proofs.pairs.all_calls.Given as goal

abbrev pub invariant-loop-source : goal.invariant-loop-source
invariant-loop-source g l = record {
  pairs : (i j : ℕ) → (Leads l.calls.graph i j ⊎ PairsFrom l.walk.table l.next (functions_of (modules g.S.AsChecked.stands_for (drop l.source-index l.mods))) i j)
      ↔ PairsFrom l.walk.table 0 (functions_of (modules g.S.AsChecked.stands_for l.mods)) i j;
  size : length l.calls.graph ≡ length (functions_of (modules g.S.AsChecked.stands_for l.mods));
  next : l.next + length (functions_of (modules g.S.AsChecked.stands_for (drop l.source-index l.mods))) ≡ length (functions_of (modules g.S.AsChecked.stands_for l.mods));
  table : IsTableOf (modules g.S.AsChecked.stands_for l.mods) l.walk.table;
  outside : l.calls.outside ++ map (outside_of (modules g.S.AsChecked.stands_for l.mods)) (functions_of (modules g.S.AsChecked.stands_for (drop l.source-index l.mods)))
      ≡ map (outside_of (modules g.S.AsChecked.stands_for l.mods)) (functions_of (modules g.S.AsChecked.stands_for l.mods));
  locals : l.walk.locals ≡ [];
}
