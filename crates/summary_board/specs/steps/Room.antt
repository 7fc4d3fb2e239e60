-- How many more events there can be, for which the journal has room.
use Rattle.std.specs.Prelude.{ℕ, ◌+◌, Bool, cond, List, [], ◌∷◌}
use Rattle.summary_board.specs.declared.progress.Progress.{Progress}
use Rattle.summary_board.specs.declared.progress.Progress.TheVariants.{Waiting, Out, Done}

module _ {O : Type 0} where
  -- to take a component and to finish it
  abbrev pub left_of : Progress O → ℕ
  left_of Waiting = 2
  left_of (Out seat) = 1
  left_of (Done inputs output) = 0

  abbrev pub left_in : List (Progress O) → ℕ
  left_in [] = 0
  left_in (at ∷ progress) = left_of at + left_in progress

  -- these, and one for a stop
  abbrev pub left : List (Progress O) → Bool → ℕ
  left progress stopped = left_in progress + cond stopped 0 1
