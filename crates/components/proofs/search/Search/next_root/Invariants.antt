use Rattle.std.proofs.Common.{◌≡◌, ◌-◌, []}
use Rattle.components.specs.steps.State.{IsSound}
use Rattle.components.proofs.search.Search.next_root.Given as goal

abbrev pub invariant-loop-self : goal.invariant-loop-self
invariant-loop-self l = IsSound l.graph l.self × (l.self.states.items ≡ l.initial.self.states.items) × (l.self.blocks ≡ [])

abbrev pub decreases-loop-self : goal.decreases-loop-self
decreases-loop-self l = l.count - l.self.cursor
