use Rattle.std.proofs.Common.{◌≡◌, ◌↔◌, ℕ, ◌<◌, [], length, map}
use Rattle.std.specs.Prelude.{◌^◌}
use Rattle.components.specs.Graph.{Leads}
use Rattle.call_graph.specs.Among.{CallsLast, name_of}
use Rattle.call_graph.specs.steps.Finding.{FindsLast, TellsLast}
use Rattle.call_graph.proofs.among.calls_among.Given as goal

abbrev pub invariant-loop-at : goal.invariant-loop-at
invariant-loop-at g l = record {
  table : FindsLast l.walk.table (map name_of (map g.S.AsFunction.stands_for l.functions));
  few : length l.functions < 2 ^ 32;
  locals : l.walk.locals ≡ [];
  size : length l.calls.callers ≡ length l.functions;
  callers : (i j : ℕ) → Leads l.calls.callers j i ↔ ((i < l.at) × CallsLast (map g.S.AsFunction.stands_for l.functions) i j);
  flags : length l.calls.last ≡ l.at;
  last : TellsLast (map name_of (map g.S.AsFunction.stands_for l.functions)) l.calls.last;
}
