use Rattle.std.proofs.Common.{◌≡◌, ℕ, ◌<◌, ◌⊎◌, slice_index}
use Rattle.components.specs.Graph.{Leads}
use Rattle.fun_flow_solver.specs.steps.Work.{Moves}
use Rattle.fun_flow_solver.proofs.work.send.Given as goal

abbrev pub invariant-loop-item : goal.invariant-loop-item
invariant-loop-item l =
    Moves l.initial.sets l.initial.queue.items l.sets l.queue.items
    × (((p x : ℕ) → Leads l.sets p x → Leads l.initial.sets p x ⊎ ((p ≡ l.to) × Leads l.initial.sets l.from x))
    × ((k : ℕ) → k < l.item-index → Leads l.sets l.to (slice_index l.item-items k)))
