use Rattle.std.proofs.Common.{◌≡◌, ℕ, ◌<◌, length}
use Rattle.std.specs.Prelude.{slice_index}
use Rattle.components.specs.declared.search.NodeState.TheVariants.{Closed}
use Rattle.components.specs.steps.Search.{state_of}
use Rattle.components.proofs.numbering.closed_components.Given as goal

abbrev pub invariant-loop-state : goal.invariant-loop-state
invariant-loop-state l = (length l.component_of ≡ l.state-index) × ((f : ℕ) → f < l.state-index → state_of l.states f ≡ Closed (slice_index l.component_of f))
