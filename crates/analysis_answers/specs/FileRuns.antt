-- What a run answers, of a program whose words are the names of files: by the words, by what is held, and by what is written of the
-- sources that the files hold. `usage_line` is written where the words are no command, and `Gives` says what is written of sources.
use Rattle.std.specs.Prelude.{◌≡◌, ◌↔◌, ℕ, ◌<◌, List, length, map, slice_get, Option, Some, IfSome}
use Rattle.core_scope.specs.Sets.{FirstDuplicate}
use Rattle.da_shelf.specs.Counts.{Rose}
use Rattle.da_shelf.specs.Told.{Files, appended, IsPrefixAppended}
use Rattle.table_keep.specs.Model.{Source, trees, sources_so}
use Rattle.analysis_sources.specs.declared.refusals.SourceFault.{SourceFault}
use Rattle.analysis_sources.specs.declared.refusals.Device.TheVariants.{Read, Replace, Write}
use Rattle.analysis_sources.specs.Reading.{IsReached, RefusedAt}
use Rattle.analysis_sources.specs.Refusals.{refusal_at, refusal_line}
use Rattle.analysis_answers.specs.declared.files.FilesRead.{FilesRead}
use Rattle.analysis_answers.specs.declared.files.FilesRead.TheVariants.{Reads, Says}
use Rattle.analysis_answers.specs.declared.run_status.RunStatus.{RunStatus}
use Rattle.analysis_answers.specs.declared.run_status.RunStatus.TheVariants.{Done, Refused, TableFault, DeviceFault, Memory, Usage}
use Rattle.analysis_answers.specs.Lines.{too_many_refusal, too_many_line, duplicate_refusal, duplicate_line, read_fault_line}
use Rattle.analysis_answers.specs.ReadFiles.{ReadsAll, HaveOwnNames, IsDuplicate}
use Rattle.analysis_answers.specs.Words.{IsNoCommand, NamesFiles, NamesTooMany}

-- ---- the statuses of refusals

-- the file at this position among the words is refused
abbrev pub refused : (word : ℕ) → SourceFault → RunStatus
refused word fault = Refused (refusal_at word fault)

-- too many files are named
abbrev pub too_many : RunStatus
too_many = Refused too_many_refusal

-- the file at this position among the words has a module of the name that the module of the other has
abbrev pub duplicate : (word other : ℕ) → RunStatus
duplicate word other = Refused (duplicate_refusal word other)

-- ---- the run

-- The status and the output of a run that ends before anything is written of the sources. The first step that answers does: the words,
-- the files one after another, and their modules' names.
pub data Declines (usage_line : List ℕ) (words : List (List ℕ)) (told : Option Files) (status : RunStatus) (output : List ℕ) : Type 0 where
  no_command : status ≡ Usage → output ≡ usage_line → IsNoCommand words → Declines usage_line words told status output
  many_files : status ≡ too_many → output ≡ too_many_line → NamesTooMany words → Declines usage_line words told status output
  file_refused : (at : ℕ) (file : List ℕ) (fault : SourceFault) → status ≡ refused at fault → output ≡ refusal_line file fault → NamesFiles words
      → slice_get words at ≡ Some file → RefusedAt told words at fault → Declines usage_line words told status output
  same_name : (first second : ℕ) (file other : List ℕ) → status ≡ duplicate second first → output ≡ duplicate_line file other → NamesFiles words
      → slice_get words second ≡ Some file → slice_get words first ≡ Some other → IsDuplicate told words first second
      → Declines usage_line words told status output

-- All files are read, as sources whose modules have names of their own, and this is what is written of them.
pub record Passes (Gives : List Source → List ℕ → Type 0) (words : List (List ℕ)) (told : Option Files) (output : List ℕ) : Type 0 where
  pub named : NamesFiles words
  pub sources : List Source
  pub read : ReadsAll told words sources
  pub names : HaveOwnNames (trees sources)
  pub gives : Gives sources output

-- The status and the output where all files are read, as these sources: what is written of them where their modules have names of their
-- own, and else the line of the first two that have one name.
pub data AnswersSources (Gives : List Source → List ℕ → Type 0) (words : List (List ℕ)) (sources : List Source) (status : RunStatus) (output : List ℕ) : Type 0 where
  gives_output : status ≡ Done → HaveOwnNames (trees sources) → Gives sources output → AnswersSources Gives words sources status output
  names_one : (first second : ℕ) (file other : List ℕ) → status ≡ duplicate second first → output ≡ duplicate_line file other
      → slice_get words second ≡ Some file → slice_get words first ≡ Some other → FirstDuplicate (map (λ x. x.name) (trees sources)) first second
      → AnswersSources Gives words sources status output

-- The status and the output of a run.
pub data Outcome (usage_line : List ℕ) (Gives : List Source → List ℕ → Type 0) (words : List (List ℕ)) (told : Option Files) (status : RunStatus) (output : List ℕ) : Type 0 where
  declined : Declines usage_line words told status output → Outcome usage_line Gives words told status output
  passed : status ≡ Done → Passes Gives words told output → Outcome usage_line Gives words told status output

-- An answer by the words and the files: not a failed allocation, and not the fault of a device.
abbrev pub IsAnswer : RunStatus → Type 0
IsAnswer (DeviceFault device) = ⊥
IsAnswer Memory = ⊥
IsAnswer status = Unit {0}

-- ---- faults of devices

-- The file at this position is reached, and has this name.
pub record IsUnread (words : List (List ℕ)) (told : Option Files) (word : ℕ) (name : List ℕ) : Type 0 where
  pub named : NamesFiles words
  pub before : ℕ
  pub reached : IsReached told words word name before

-- The run ends before anything is written of the sources: as above, or by a fault of the shelf, which has counted it.
pub data Stops (usage_line : List ℕ) (words : List (List ℕ)) (told : Option Files) (reads reads_now : ℕ) (status : RunStatus) (output : List ℕ) : Type 0 where
  declining : Declines usage_line words told status output → Stops usage_line words told reads reads_now status output
  failing : (word : ℕ) (name : List ℕ) → status ≡ DeviceFault (Read word) → output ≡ read_fault_line name → IsUnread words told word name
      → Rose reads reads_now → Stops usage_line words told reads reads_now status output

-- The status and the output that a run means to give, before it writes.
pub data Intended (usage_line : List ℕ) (Gives : List Source → List ℕ → Type 0) (words : List (List ℕ)) (told : Option Files) (reads reads_now : ℕ) (status : RunStatus) (output : List ℕ) : Type 0 where
  stopped : Stops usage_line words told reads reads_now status output → Intended usage_line Gives words told reads reads_now status output
  written : status ≡ Done → Passes Gives words told output → Intended usage_line Gives words told reads reads_now status output

-- The run wrote its output, and status and output are those of the words and of what was held.
pub record Answers (usage_line : List ℕ) (Gives : List Source → List ℕ → Type 0) (words : List (List ℕ)) (held : Files) (status : RunStatus) (written_before written_now : Option (List ℕ)) : Type 0 where
  pub output : List ℕ
  pub outcome : Outcome usage_line Gives words (Some held) status output
  pub written_so : written_now ≡ appended written_before output

-- The run wrote what is written of the sources that the files hold.
pub record Writes (Gives : List Source → List ℕ → Type 0) (words : List (List ℕ)) (held : Files) (written_before written_now : Option (List ℕ)) : Type 0 where
  pub output : List ℕ
  pub passes : Passes Gives words (Some held) output
  pub written_so : written_now ≡ appended written_before output

-- The shelf failed to read the file of this position among the words, and counted it, and the line that says so was written.
pub record FailsToRead (words : List (List ℕ)) (told : Option Files) (word : ℕ) (reads reads_now : ℕ) (written_before written_now : Option (List ℕ)) : Type 0 where
  pub name : List ℕ
  pub unread_so : IsUnread words told word name
  pub rose : Rose reads reads_now
  pub written_so : written_now ≡ appended written_before (read_fault_line name)

-- The sink failed and counted it, and a prefix of the output was written that the run meant to give.
pub record FailsToWrite (usage_line : List ℕ) (Gives : List Source → List ℕ → Type 0) (words : List (List ℕ)) (told : Option Files) (reads reads_now sink_before sink_now : ℕ)
    (written_before written_now : Option (List ℕ)) : Type 0 where
  pub rose : Rose sink_before sink_now
  pub status : RunStatus
  pub output : List ℕ
  pub intended : Intended usage_line Gives words told reads reads_now status output
  pub written_so : IsPrefixAppended written_before written_now output

-- All files are read, as these sources, or the run ends with this answer.
abbrev pub AreFilesRead : (usage_line : List ℕ) (words : List (List ℕ)) (told : Option Files) (reads reads_now : ℕ) → FilesRead → Type 0
AreFilesRead usage_line words told reads reads_now (Reads sources) = NamesFiles words × ReadsAll told words (sources_so sources)
AreFilesRead usage_line words told reads reads_now (Says answer) = Stops usage_line words told reads reads_now answer.status answer.output

-- ---- the statuses that there are

-- The status of a refusal, by positions among the words.
pub data IsRefusal (words : List (List ℕ)) (status : RunStatus) : Type 0 where
  of_many : status ≡ too_many → IsRefusal words status
  of_file : (word : ℕ) (fault : SourceFault) → word < length words → status ≡ refused word fault → IsRefusal words status
  of_two : (word other : ℕ) → other < word → word < length words → status ≡ duplicate word other → IsRefusal words status

-- The statuses that a run on these words may have. No table is read, and nothing is put onto the shelf.
abbrev pub IsPossible : (words : List (List ℕ)) → RunStatus → Type 0
IsPossible words (Refused refusal) = IsRefusal words (Refused refusal)
IsPossible words (TableFault number) = ⊥
IsPossible words (DeviceFault (Read word)) = word < length words
IsPossible words (DeviceFault (Replace word)) = ⊥
IsPossible words status = Unit {0}

-- ---- a run, by its status

-- The run on these words ended with this status: what is promised of the status and of what was written. When each refusal comes follows
-- from `outcome`.
pub record IsRunOverFiles (usage_line : List ℕ) (Gives : List Source → List ℕ → Type 0) (words : List (List ℕ)) (held after : Option Files) (reads reads_now sink_before sink_now : ℕ)
    (status : RunStatus) (written_before written_now : Option (List ℕ)) : Type 0 where
  pub outcome : IsAnswer status → IfSome held (λ h. Answers usage_line Gives words h status written_before written_now)
  pub usage : IsAnswer status → (status ≡ Usage) ↔ IsNoCommand words
  pub read : (word : ℕ) → status ≡ DeviceFault (Read word) → FailsToRead words held word reads reads_now written_before written_now
  pub write : status ≡ DeviceFault Write → FailsToWrite usage_line Gives words held reads reads_now sink_before sink_now written_before written_now
  pub memory : status ≡ Memory → written_now ≡ written_before
  pub possible : IsPossible words status
  pub held_so : after ≡ held
