use Rattle.std.proofs.Common.{◌≡◌, map, take}
use Rattle.call_graph.specs.Outside.{Called}
use Rattle.table_keep.proofs.calls.called_modules.Given as goal

abbrev pub invariant-loop-call : goal.invariant-loop-call
invariant-loop-call l = l.names ≡ map (λ (c : Called). c.0) (take l.call-index l.calls)
