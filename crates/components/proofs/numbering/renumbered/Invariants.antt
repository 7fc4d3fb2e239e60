use Rattle.std.proofs.Common.{◌≡◌, ℕ, ◌<◌, length}
use Rattle.std.specs.Prelude.{slice_index}
use Rattle.components.proofs.numbering.renumbered.Given as goal

abbrev pub invariant-loop-ordinal : goal.invariant-loop-ordinal
invariant-loop-ordinal l =
    (length l.component_of ≡ l.ordinal-index)
    × ((f : ℕ) → f < l.ordinal-index → slice_index l.component_of f ≡ slice_index l.numbers (slice_index l.ordinals f))
