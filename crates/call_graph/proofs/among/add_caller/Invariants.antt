use Rattle.std.proofs.Common.{◌≡◌, ◌↔◌, ℕ, ◌⊎◌, Contains, length, take}
use Rattle.components.specs.Graph.{Leads}
use Rattle.call_graph.proofs.among.add_caller.Given as goal

abbrev pub invariant-loop-callee : goal.invariant-loop-callee
invariant-loop-callee l = record {
  added : (i j : ℕ) → Leads l.callers j i ↔ (Leads l.fn.callers j i ⊎ ((i ≡ l.caller) × Contains (take l.callee-index l.callees) j));
  size : length l.callers ≡ length l.fn.callers;
}
