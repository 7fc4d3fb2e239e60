use Rattle.std.proofs.Common.{◌≡◌, [], replicate}
use Rattle.components.proofs.graph.Graph.new.Given as goal

abbrev pub invariant-loop : goal.invariant-loop
invariant-loop l = l.leads ≡ replicate l.counter []
