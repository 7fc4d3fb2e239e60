-- Outputs that are published.
use Rattle.std.proofs.Common.{◌≡◌, ℕ, ◌+◌, ◌<◌, List, ◌++◌, length, drop, slice_index, slice_get, refl, drop-cons, add-one}
use Rattle.summary_board.specs.declared.progress.Progress.{Progress}
use Rattle.summary_board.specs.BoardValue.{published, outputs_of}

-- the outputs of the components from i on are that of the one at i, and then those of the rest
pub outputs_of_next : {O : Type 0} (progress : List (Progress O)) (cs : List ℕ) (i : ℕ) → i < length cs
    → outputs_of progress (drop i cs) ≡ published (slice_get progress (slice_index cs i)) ++ outputs_of progress (drop (i + 1) cs)
outputs_of_next progress cs i within = rw (drop-cons cs i 0 within, add-one i) refl
