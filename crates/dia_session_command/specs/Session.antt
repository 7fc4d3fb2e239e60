-- What a session answers: by the words, by what the shelf holds, and by the script, line after line.
use Rattle.std.specs.Prelude.{◌≡◌, ℕ, ◌<◌, ◌≤◌, suc, true, false, List, [], ◌∷◌, ◌++◌, length, map, Option, Some, slice_get}
use Rattle.std.specs.List.{concat}
use Rattle.da_shelf.specs.Counts.{Rose}
use Rattle.da_shelf.specs.Told.{Files, Holds, Lacks, appended, IsPrefixAppended}
use Rattle.core_scope.specs.Sets.{FirstDuplicate}
use Rattle.table_keep.specs.Model.{trees}
use Rattle.analysis_sources.specs.declared.refusals.SourceFault.{SourceFault}
use Rattle.analysis_sources.specs.declared.refusals.RefusalName.TheVariants.{TooLong}
use Rattle.analysis_sources.specs.declared.source.TheConstants.{LONGEST_SOURCE}
use Rattle.analysis_sources.specs.Reading.{AreRead, RefusedAt}
use Rattle.analysis_sources.specs.Refusals.{missing, refusal_line}
use Rattle.analysis_sources.specs.Sources.{of_the_whole}
use Rattle.analysis_answers.specs.declared.run_status.RunStatus.{RunStatus}
use Rattle.analysis_answers.specs.declared.run_status.RunStatus.TheVariants.{Done, Usage}
use Rattle.analysis_answers.specs.FileRuns.{refused}
use Rattle.analysis_answers.specs.Lines.{duplicate_line, read_fault_line, too_many_line}
use Rattle.dia_session_engine.specs.Held.{Held, HeldFile, sources_in, files_in, is_held, with_file, without, IsOneTooMany, IsTooLong, MayHold, HoldsOwnNames, AreReportsOn}
use Rattle.dia_session_command.specs.Lines.{ok_line, asked_line, not_there_line, bad_line, bad_line_line}
use Rattle.dia_session_command.specs.Script.{Request, IsScript, IsBadLine}
use Rattle.dia_session_command.specs.Script.Request.{to_replace, to_drop, to_ask}
use Rattle.dia_session_command.specs.Words.{IsNoCommand, NamesScript, usage_line}

-- ---- one line of the script: what it gives, where this is held before it and that after it

-- The shelf holds the text of this file.
abbrev pub ReadsFile : Option Files → HeldFile → Type 0
ReadsFile told new = AreRead told 0 (new.file ∷ []) (new.source ∷ []) new.length

-- A line that replaces a file: it is read, and then held.
pub data Replaces (told : Option Files) (before : Held) (file output : List ℕ) (after : Held) : Type 0 where
  replaced : (new : HeldFile) → new.file ≡ file → ReadsFile told new → MayHold before file new.length
      → output ≡ ok_line → after ≡ with_file before new → Replaces told before file output after
  not_read : (fault : SourceFault) → RefusedAt told (file ∷ []) 0 fault
      → output ≡ refusal_line file fault → after ≡ before → Replaces told before file output after
  one_too_many : (new : HeldFile) → new.file ≡ file → ReadsFile told new → IsOneTooMany before file
      → output ≡ too_many_line → after ≡ before → Replaces told before file output after
  too_long : (new : HeldFile) → new.file ≡ file → ReadsFile told new → (IsOneTooMany before file → ⊥) → IsTooLong before file new.length
      → output ≡ refusal_line file (of_the_whole TooLong) → after ≡ before → Replaces told before file output after

-- A line that drops a file.
pub data Drops (before : Held) (file output : List ℕ) (after : Held) : Type 0 where
  dropped : is_held before file ≡ true → output ≡ ok_line → after ≡ without before file → Drops before file output after
  not_there : is_held before file ≡ false → output ≡ not_there_line file → after ≡ before → Drops before file output after

-- Of the modules that are held, the second of two files' is the first that has the name of one before it.
pub record HoldsTwice (held : Held) (file other : List ℕ) : Type 0 where
  pub first : ℕ
  pub second : ℕ
  pub is : FirstDuplicate (map (λ x. x.name) (trees (sources_in held))) first second
  pub file_so : slice_get (files_in held) second ≡ Some file
  pub other_so : slice_get (files_in held) first ≡ Some other

-- A line that asks: the reports of an analysis of what is held from scratch.
pub data Asks (before : Held) (output : List ℕ) (after : Held) : Type 0 where
  reported : (reports : List (List ℕ)) → HoldsOwnNames before → AreReportsOn before reports
      → output ≡ concat reports ++ asked_line → after ≡ before → Asks before output after
  same_name : (file other : List ℕ) → HoldsTwice before file other → output ≡ duplicate_line file other → after ≡ before → Asks before output after

abbrev pub Gives : Option Files → (before : Held) → Request → (output : List ℕ) → (after : Held) → Type 0
Gives told before (to_replace file) output after = Replaces told before file output after
Gives told before (to_drop file) output after = Drops before file output after
Gives told before to_ask output after = Asks before output after

-- ---- the lines one after another

-- What requests give, each where the one before it left what is held.
abbrev pub GiveAll : Option Files → (before : Held) → List Request → (output : List ℕ) → (after : Held) → Type 0
GiveAll told before [] output after = (output ≡ []) × (after ≡ before)
GiveAll told before (r ∷ rs) output after =
    (next : Held) × (first more : List ℕ) × Gives told before r first next × GiveAll told next rs more after × (output ≡ first ++ more)

-- What requests give where nothing is held at first.
abbrev pub IsOutput : Option Files → List Request → (output : List ℕ) → Type 0
IsOutput told requests output = (after : Held) × GiveAll told [] requests output after

-- ---- the script

-- The shelf holds the script with these bytes, which aren't too many.
pub record ReadsScript (told : Option Files) (script bytes : List ℕ) : Type 0 where
  pub held_so : Holds told script bytes
  pub short : length bytes ≤ LONGEST_SOURCE

-- The words name a script of these requests.
pub record AsksFor (words : List (List ℕ)) (told : Option Files) (requests : List Request) : Type 0 where
  pub script : List ℕ
  pub word : ℕ
  pub bytes : List ℕ
  pub named : NamesScript words script word
  pub read : ReadsScript told script bytes
  pub is : IsScript bytes requests

-- The status and the output where the script, the word at this position, is refused: it isn't held, has too many bytes, or a bad line.
pub data RefusesScript (told : Option Files) (script : List ℕ) (word : ℕ) (status : RunStatus) (output : List ℕ) : Type 0 where
  not_held : status ≡ refused word missing → output ≡ refusal_line script missing → Lacks told script
      → RefusesScript told script word status output
  too_many_bytes : (bytes : List ℕ) → status ≡ refused word (of_the_whole TooLong) → output ≡ refusal_line script (of_the_whole TooLong)
      → Holds told script bytes → LONGEST_SOURCE < length bytes → RefusesScript told script word status output
  line_is_bad : (bytes : List ℕ) (number : ℕ) → status ≡ bad_line word number → output ≡ bad_line_line script number
      → ReadsScript told script bytes → IsBadLine bytes number → RefusesScript told script word status output

-- The status and the output of a run that carries no line out: no line is, unless all are good.
pub data Declines (words : List (List ℕ)) (told : Option Files) (status : RunStatus) (output : List ℕ) : Type 0 where
  no_command : status ≡ Usage → output ≡ usage_line → IsNoCommand words → Declines words told status output
  no_script : (script : List ℕ) (word : ℕ) → NamesScript words script word → RefusesScript told script word status output
      → Declines words told status output

-- All lines are carried out, and this is what they give.
pub record Carries (words : List (List ℕ)) (told : Option Files) (output : List ℕ) : Type 0 where
  pub requests : List Request
  pub asked : AsksFor words told requests
  pub gives : IsOutput told requests output

-- The status and the output of a run.
pub data Outcome (words : List (List ℕ)) (told : Option Files) (status : RunStatus) (output : List ℕ) : Type 0 where
  declined : Declines words told status output → Outcome words told status output
  carried : status ≡ Done → Carries words told output → Outcome words told status output

-- The run wrote its output, and status and output are those of the words, of what is held, and of the script.
pub record Answers (words : List (List ℕ)) (held : Files) (status : RunStatus) (written_before written_now : Option (List ℕ)) : Type 0 where
  pub output : List ℕ
  pub outcome : Outcome words (Some held) status output
  pub written_so : written_now ≡ appended written_before output

-- ---- faults of devices, and of memory

-- The first lines of the script are carried out, and give this.
pub record CarriesFirst (words : List (List ℕ)) (told : Option Files) (first rest : List Request) (output : List ℕ) : Type 0 where
  pub asked : AsksFor words told (first ++ rest)
  pub gives : IsOutput told first output

-- The shelf fails to read: the script, which is the word of this number, or the file that the line of this number replaces. And what was
-- to be written of the lines before it, and of the fault.
pub data IsUnread (words : List (List ℕ)) (told : Option Files) (number : ℕ) (output : List ℕ) : Type 0 where
  script_unread : (script : List ℕ) → NamesScript words script number → output ≡ read_fault_line script → IsUnread words told number output
  file_unread : (first rest : List Request) (file before : List ℕ) → number ≡ suc (length first)
      → CarriesFirst words told first (to_replace file ∷ rest) before → output ≡ before ++ read_fault_line file
      → IsUnread words told number output

-- The shelf failed to read, and counted it; and exactly what the lines before gave was written, and the line of the fault.
pub record FailsToRead (words : List (List ℕ)) (told : Option Files) (number : ℕ) (reads reads_now : ℕ) (written_before written_now : Option (List ℕ)) : Type 0 where
  pub rose : Rose reads reads_now
  pub output : List ℕ
  pub unread_so : IsUnread words told number output
  pub written_so : written_now ≡ appended written_before output

-- What a run means to write, up to a line of the script or to its end.
pub data MeansToWrite (words : List (List ℕ)) (told : Option Files) (reads reads_now : ℕ) (output : List ℕ) : Type 0 where
  of_refusal : (status : RunStatus) → Declines words told status output → MeansToWrite words told reads reads_now output
  of_lines : (first rest : List Request) → CarriesFirst words told first rest output → MeansToWrite words told reads reads_now output
  of_fault : (number : ℕ) → IsUnread words told number output → Rose reads reads_now → MeansToWrite words told reads reads_now output

-- The sink failed and counted it, and a prefix was written of what the run means to write.
pub record FailsToWrite (words : List (List ℕ)) (told : Option Files) (reads reads_now sink_before sink_now : ℕ) (written_before written_now : Option (List ℕ)) : Type 0 where
  pub rose : Rose sink_before sink_now
  pub output : List ℕ
  pub means : MeansToWrite words told reads reads_now output
  pub written_so : IsPrefixAppended written_before written_now output

-- Memory ran out: nothing was written, or exactly what some first lines of the script give.
pub data StopsShort (words : List (List ℕ)) (told : Option Files) (written_before written_now : Option (List ℕ)) : Type 0 where
  at_once : written_now ≡ written_before → StopsShort words told written_before written_now
  at_line : (first rest : List Request) (output : List ℕ) → CarriesFirst words told first rest output → written_now ≡ appended written_before output
      → StopsShort words told written_before written_now
