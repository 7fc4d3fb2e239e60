use Rattle.std.proofs.Common.{◌≡◌, ℕ, ◌<◌, ◌⊎◌}
use Rattle.std.specs.Prelude.{slice_index_or}
use Rattle.fun_flow_solver.specs.declared.problem.Pair.{Pair}
use Rattle.components.specs.Graph.{Leads}
use Rattle.fun_flow_solver.specs.Holds.{Holds}
use Rattle.fun_flow_solver.specs.steps.Work.{Moves}
use Rattle.fun_flow_solver.proofs.solving.start.Given as goal

abbrev pub invariant-loop-number : goal.invariant-loop-number
invariant-loop-number l =
    Moves l.initial.sets l.initial.queue.items l.sets l.queue.items
    × (((p x : ℕ) → Leads l.sets p x → Leads l.initial.sets p x ⊎ Holds l.problem p x)
    × ((k : ℕ) → k < l.number → (s : Pair) → slice_index_or l.problem.starts.items k s ≡ s → Leads l.sets s.place s.item))
