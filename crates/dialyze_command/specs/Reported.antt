-- Whether a check reports something, and what an answer comes of.
use Rattle.std.specs.Prelude.{List, ℕ, Option, Some}
use Rattle.std.specs.List.{concat}
use Rattle.da_shelf.specs.Told.{Files}
use Rattle.table_file.specs.declared.tables.Table.{Table}
use Rattle.dialyze_command.specs.declared.words.Command.{Command}
use Rattle.dialyze_command.specs.OneOutcome.{BeginsFitly}
use Rattle.dialyze_command.specs.Outcome.{Analyses, Stores}

-- The words ask for a check, each of its steps passes, and of the lines of all its reports this holds.
pub record Reports (words : List (List ℕ)) (held : Files) (Are : List ℕ → Type 0) : Type 0 where
  pub command : Command
  pub reports : List (List ℕ)
  pub new : Table
  pub after : Option Files
  pub analyses : Analyses words (Some held) command reports new
  pub stored : Stores words command new (Some held) after
  pub are : Are (concat reports)

-- An answer comes only of its cause, and of that always where the words and what is held have one outcome.
abbrev pub ComesOf : (words : List (List ℕ)) (held : Files) (Answer Cause : Type 0) → Type 0
ComesOf words held Answer Cause = (Answer → Cause) × (BeginsFitly words held → Cause → Answer)
