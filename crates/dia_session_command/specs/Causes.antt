-- When each answer of a session comes, and which there are.
use Rattle.std.specs.Prelude.{◌≡◌, ℕ, ◌<◌, List, length, Some}
use Rattle.da_shelf.specs.Told.{Files, Holds, Lacks}
use Rattle.analysis_sources.specs.declared.refusals.Device.TheVariants.{Replace}
use Rattle.analysis_sources.specs.declared.refusals.RefusalName.TheVariants.{TooLong}
use Rattle.analysis_sources.specs.declared.source.TheConstants.{LONGEST_SOURCE}
use Rattle.analysis_sources.specs.Refusals.{missing}
use Rattle.analysis_sources.specs.Sources.{of_the_whole}
use Rattle.analysis_answers.specs.declared.run_status.RunStatus.{RunStatus}
use Rattle.analysis_answers.specs.declared.run_status.RunStatus.TheVariants.{Refused, TableFault, DeviceFault}
use Rattle.analysis_answers.specs.FileRuns.{refused}
use Rattle.dia_session_command.specs.Lines.{bad_line}
use Rattle.dia_session_command.specs.Script.{IsBadLine, Request}
use Rattle.dia_session_command.specs.Session.{AsksFor, ReadsScript}
use Rattle.dia_session_command.specs.Words.{NamesScript}

-- The script isn't held.
pub record LacksScript (words : List (List ℕ)) (held : Files) (word : ℕ) : Type 0 where
  pub script : List ℕ
  pub named : NamesScript words script word
  pub absent : Lacks (Some held) script

-- The script has more than 16 MiB.
pub record HasLongScript (words : List (List ℕ)) (held : Files) (word : ℕ) : Type 0 where
  pub script : List ℕ
  pub bytes : List ℕ
  pub named : NamesScript words script word
  pub held_so : Holds (Some held) script bytes
  pub long : LONGEST_SOURCE < length bytes

-- The line of this number is the first of the script that is bad.
pub record HasBadLine (words : List (List ℕ)) (held : Files) (word number : ℕ) : Type 0 where
  pub script : List ℕ
  pub bytes : List ℕ
  pub named : NamesScript words script word
  pub read : ReadsScript (Some held) script bytes
  pub is : IsBadLine bytes number

-- All lines of the script are good.
abbrev pub HasGoodScript : (words : List (List ℕ)) (held : Files) → Type 0
HasGoodScript words held = (requests : List Request) × AsksFor words (Some held) requests

-- The status of a refusal: of the script alone, by its position among the words.
pub data IsRefusal (words : List (List ℕ)) (status : RunStatus) : Type 0 where
  of_missing : (word : ℕ) → word < length words → status ≡ refused word missing → IsRefusal words status
  of_length : (word : ℕ) → word < length words → status ≡ refused word (of_the_whole TooLong) → IsRefusal words status
  of_line : (word number : ℕ) → word < length words → 0 < number → status ≡ bad_line word number → IsRefusal words status

-- The statuses that a run on these words may have. No table is read, and nothing is put onto the shelf.
abbrev pub IsPossible : (words : List (List ℕ)) → RunStatus → Type 0
IsPossible words (Refused refusal) = IsRefusal words (Refused refusal)
IsPossible words (TableFault number) = ⊥
IsPossible words (DeviceFault (Replace word)) = ⊥
IsPossible words status = Unit {0}
