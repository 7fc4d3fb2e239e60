use Rattle.std.proofs.Common.{◌≡◌, ℕ, ◌<◌, length}
use Rattle.std.specs.Prelude.{slice_index_or}
use Rattle.fun_flow_solver.specs.declared.problem.Edge.{Edge}
use Rattle.components.specs.Graph.{Leads}
use Rattle.fun_flow_solver.specs.Holds.{Holds}
use Rattle.fun_flow_solver.proofs.solving.first_edges.Given as goal

abbrev pub invariant-loop-number : goal.invariant-loop-number
invariant-loop-number l =
    (length l.out ≡ l.count)
    × (((p q x : ℕ) → Leads l.out p q → Holds l.problem p x → Holds l.problem q x)
    × ((k : ℕ) → k < l.number → (e : Edge) → slice_index_or l.problem.flows.items k e ≡ e → Leads l.out e.from e.to))
