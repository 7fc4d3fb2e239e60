use Rattle.std.proofs.Common.{◌≡◌, None, length}
use Rattle.std.specs.Prelude.{Contains}
use Rattle.fun_flow_solver.specs.declared.problem.Edge.{Edge}
use Rattle.fun_flow_solver.specs.declared.problem.Pair.{Pair}
use Rattle.components.specs.Graph.{Leads}
use Rattle.fun_flow_solver.specs.steps.Work.{IsWork}
use Rattle.fun_flow_solver.proofs.solving.solve.Given as goal

abbrev pub invariant-loop : goal.invariant-loop
invariant-loop l =
    (length l.sets ≡ l.count)
    × ((length l.out ≡ l.count)
    × (IsWork l.problem None l.sets l.out l.queue.items
    × (((s : Pair) → Contains l.problem.starts.items s → Leads l.sets s.place s.item)
    × ((e : Edge) → Contains l.problem.flows.items e → Leads l.out e.from e.to))))
