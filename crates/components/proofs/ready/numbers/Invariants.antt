use Rattle.std.proofs.Common.{◌≡◌, ℕ, ◌<◌, length}
use Rattle.std.specs.Prelude.{slice_index, Some}
use Rattle.components.specs.steps.Order.{rank_of}
use Rattle.components.proofs.ready.numbers.Given as goal

abbrev pub invariant-loop-rank : goal.invariant-loop-rank
invariant-loop-rank l = (length l.numbers ≡ l.rank-index) × ((c : ℕ) → c < l.rank-index → rank_of l.ranks c ≡ Some (slice_index l.numbers c))
