use Rattle.std.proofs.Common.{ℕ, ◌<◌, ◌≤◌, ◌-◌, length}
use Rattle.std.specs.Prelude.{slice_index}
use Rattle.components.specs.steps.Order.{Ranked}
use Rattle.components.proofs.ready.Order.advance.Given as goal

abbrev pub invariant-loop-to : goal.invariant-loop-to
invariant-loop-to l = (l.at ≤ l.to) × ((k : ℕ) → l.at ≤ k → k < l.to → k < length l.own → Ranked l.self.ranks.items (slice_index l.own k))

abbrev pub decreases-loop-to : goal.decreases-loop-to
decreases-loop-to l = length l.own - l.to
