-- Each run has an outcome.
use Rattle.std.specs.Prelude.{ℕ, List, Option, Some}
use Rattle.da_shelf.specs.Told.{Files}
use Rattle.dialyze_command.specs.declared.status.Status.{Status}
use Rattle.dialyze_command.specs.Outcome.{Outcome}
use Rattle.dialyze_command.specs.SomeAnswer.{HoldsBytes}

-- The words and what is held have a status and an output, and this is held afterwards.
pub record HasOutcome (words : List (List ℕ)) (held : Files) : Type 0 where
  pub status : Status
  pub output : List ℕ
  pub after : Option Files
  pub outcome : Outcome words (Some held) status output after

abbrev pub SomeOutcomeLaw : Type 0
SomeOutcomeLaw = (words : List (List ℕ)) (held : Files) → HoldsBytes held → HasOutcome words held
