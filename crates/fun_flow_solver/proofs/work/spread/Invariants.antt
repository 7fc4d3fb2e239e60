use Rattle.std.proofs.Common.{◌≡◌, ℕ, ◌<◌, ◌⊎◌, slice_index}
use Rattle.components.specs.Graph.{Leads}
use Rattle.fun_flow_solver.specs.steps.Work.{Moves}
use Rattle.fun_flow_solver.proofs.work.spread.Given as goal

abbrev pub invariant-loop-to : goal.invariant-loop-to
invariant-loop-to l =
    Moves l.initial.sets l.initial.queue.items l.sets l.queue.items
    × (((p x : ℕ) → Leads l.sets p x → Leads l.initial.sets p x ⊎ (Leads l.out l.place p × (x ≡ l.item)))
    × ((k : ℕ) → k < l.to-index → Leads l.sets (slice_index l.to-items k) l.item))
