use Rattle.std.proofs.Common.{◌≡◌, ℕ, ◌||◌, drop}
use Rattle.module_flow.specs.Flow.{has_label}
use Rattle.module_flow.proofs.rounds.Labels.of.Given as goal

abbrev pub invariant-loop-label : goal.invariant-loop-label
invariant-loop-label l = (k : ℕ) → (has_label (drop l.label-index l.labels) k || has_label l.set k) ≡ has_label l.labels k
