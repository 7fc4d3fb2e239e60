use Rattle.std.proofs.Common.{◌≡◌, ◌+◌, length}
use Rattle.std.specs.Prelude.{sum_by}
use Rattle.components.specs.steps.Search.{fresh}
use Rattle.components.specs.steps.State.{IsSound}
use Rattle.components.proofs.search.Search.next.Given as goal

abbrev pub invariant-loop-top : goal.invariant-loop-top
invariant-loop-top l = IsSound l.graph l.self × (sum_by fresh l.self.states.items ≡ sum_by fresh l.initial.self.states.items)

abbrev pub decreases-loop-top : goal.decreases-loop-top
decreases-loop-top l = length l.self.pending.items + length l.self.blocks
