use Rattle.std.specs.Prelude.{sum_by}
use Rattle.components.specs.steps.Search.{fresh}
use Rattle.components.specs.steps.State.{IsSound}
use Rattle.components.proofs.numbering.run.Given as goal

abbrev pub invariant-loop-node : goal.invariant-loop-node
invariant-loop-node l = IsSound l.graph l.search

abbrev pub decreases-loop-node : goal.decreases-loop-node
decreases-loop-node l = sum_by fresh l.search.states.items
