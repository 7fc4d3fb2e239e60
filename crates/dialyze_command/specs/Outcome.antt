-- What a run answers: its status, its output, and what is held after it, by the words and by what is held before.
use Rattle.std.specs.Prelude.{◌≡◌, ◌≢◌, ◌⊎◌, ℕ, ◌+◌, ◌<◌, ◌≤◌, List, [], length, slice_get, Option, Some, None, false, true}
use Rattle.std.specs.List.{concat}
use Rattle.core_make.specs.Modules.{module_text}
use Rattle.da_shelf.specs.Counts.{Rose}
use Rattle.da_shelf.specs.Told.{Files, Holds, Lacks, replaced, IsOldOrNew, appended, IsPrefixAppended}
use Rattle.table_file.specs.declared.tables.Table.{Table}
use Rattle.table_file.specs.declared.faults.TableFault.{TableFault as FaultOfTable}
use Rattle.table_file.specs.Lengths.{is_short_table}
use Rattle.table_file.specs.Spelling.{table_bytes}
use Rattle.table_keep.specs.Model.{Source, trees, entries_so}
use Rattle.sound_laws.specs.Accepted.{AreAccepted}
use Rattle.sound_laws_kept.specs.Solving.{IsWritten}
use Rattle.analysis_sources.specs.declared.refusals.SourceFault.{SourceFault}
use Rattle.analysis_sources.specs.declared.refusals.Device.TheVariants.{Read, Replace, Write}
use Rattle.analysis_sources.specs.Reading.{IsReached, RefusedAt}
use Rattle.analysis_sources.specs.Refusals.{refusal_line, missing}
use Rattle.analysis_answers.specs.ReadFiles.{HaveOwnNames, IsDuplicate, ReadsAll}
use Rattle.analysis_answers.specs.Tables.{IsFaultOf, IsTableRead}
use Rattle.dialyze_command.specs.declared.status.Status.{Status}
use Rattle.dialyze_command.specs.declared.status.Status.TheVariants.{Clean, Refused, Warnings, TableFault, DeviceFault, Memory, Usage}
use Rattle.dialyze_command.specs.declared.words.Command.{Command}
use Rattle.dialyze_command.specs.Lines.{usage_line, refused, too_long, too_many, too_many_line, duplicate, duplicate_line, read_fault_line, replace_fault_line, faulty_table, table_fault_line}
use Rattle.dialyze_command.specs.Making.{file_name, with_first, IsSummary}
use Rattle.dialyze_command.specs.Words.{IsCheck, IsMake, IsNoCommand, most_files}

-- ---- the words

-- The words ask for a check of these files, and there aren't too many.
pub record Checks (words : List (List ℕ)) (command : Command) (files : List (List ℕ)) : Type 0 where
  pub check : IsCheck words command files
  pub few : length files ≤ most_files

-- The words ask for a check of too many files.
pub record ChecksTooMany (words : List (List ℕ)) : Type 0 where
  pub command : Command
  pub files : List (List ℕ)
  pub check : IsCheck words command files
  pub many : most_files < length files

-- The option is given, and this name stands behind it, the word at this position.
pub record Names (words : List (List ℕ)) (option : Option ℕ) (word : ℕ) (name : List ℕ) : Type 0 where
  pub given : option ≡ Some word
  pub there : slice_get words word ≡ Some name

-- The words ask for a check that begins with the table of this name, the word at this position.
pub record NamesTable (words : List (List ℕ)) (word : ℕ) (name : List ℕ) : Type 0 where
  pub command : Command
  pub files : List (List ℕ)
  pub checks : Checks words command files
  pub plt : Names words command.plt word name

-- ---- the table that a check begins with

-- The table that a check begins with: the one whose bytes are held under the name of `--plt`, and without that option the empty one.
pub data IsBegun (words : List (List ℕ)) (told : Option Files) (plt : Option ℕ) (table : Table) : Type 0 where
  empty : plt ≡ None → table.entries ≡ [] → IsBegun words told plt table
  named : (word : ℕ) (name : List ℕ) → Names words plt word name → IsTableRead told name table → IsBegun words told plt table

-- The words ask for a check of these files, and the table that they name, if they name one, is read.
pub record Begins (words : List (List ℕ)) (told : Option Files) (command : Command) (files : List (List ℕ)) : Type 0 where
  pub checks : Checks words command files
  pub table : Table
  pub begun : IsBegun words told command.plt table

-- ---- the analysis

-- The table and all files are read, the modules are accepted and have names of their own, and this is their written analysis with the
-- table: the reports on them, and the new table.
pub record Analyses (words : List (List ℕ)) (told : Option Files) (command : Command) (reports : List (List ℕ)) (new : Table) : Type 0 where
  pub files : List (List ℕ)
  pub begins : Begins words told command files
  pub sources : List Source
  pub read : ReadsAll told files sources
  pub names : HaveOwnNames (trees sources)
  pub accepted : AreAccepted (trees sources)
  pub written : IsWritten (entries_so begins.table) sources reports (entries_so new)

-- What is held after a check that passed: with `--out` the new table, whose counts and lengths fit, under the name behind it, and
-- everything else as it was.
pub data Stores (words : List (List ℕ)) (command : Command) (new : Table) (told after : Option Files) : Type 0 where
  nowhere : command.out ≡ None → after ≡ told → Stores words command new told after
  under : (word : ℕ) (name : List ℕ) → Names words command.out word name → is_short_table new ≡ true → after ≡ replaced told name (table_bytes new)
      → Stores words command new told after

-- The status says whether the output has a line.
pub data SaysWhether (status : Status) (output : List ℕ) : Type 0 where
  says_no : status ≡ Clean → output ≡ [] → SaysWhether status output
  says_yes : status ≡ Warnings → output ≢ [] → SaysWhether status output

-- ---- the run

-- The status and the output of a run, and what is held after it, by the words and by what is held, where contracts see it. Of a check
-- the file of number i is the word of number start + i, and the first step that answers does: the words, the table to begin with, the
-- files one after another, their modules' names, and the new table. A make puts its files, and then answers.
pub data Outcome (words : List (List ℕ)) (told : Option Files) (status : Status) (output : List ℕ) (after : Option Files) : Type 0 where
  usage : status ≡ Usage → output ≡ usage_line → after ≡ told → IsNoCommand words → Outcome words told status output after
  many : status ≡ too_many → output ≡ too_many_line → after ≡ told → ChecksTooMany words → Outcome words told status output after
  no_table : (word : ℕ) (name : List ℕ) → status ≡ refused word missing → output ≡ refusal_line name missing → after ≡ told
      → NamesTable words word name → Lacks told name → Outcome words told status output after
  bad_table : (word : ℕ) (name bytes : List ℕ) (fault : FaultOfTable) → status ≡ faulty_table fault → output ≡ table_fault_line name fault
      → after ≡ told → NamesTable words word name → Holds told name bytes → IsFaultOf bytes fault → Outcome words told status output after
  faulty : (command : Command) (files : List (List ℕ)) (at : ℕ) (file : List ℕ) (fault : SourceFault)
      → status ≡ refused (command.start + at) fault → output ≡ refusal_line file fault → after ≡ told → Begins words told command files
      → slice_get files at ≡ Some file → RefusedAt told files at fault → Outcome words told status output after
  duplicate_module : (command : Command) (files : List (List ℕ)) (first second : ℕ) (file other : List ℕ)
      → status ≡ duplicate (command.start + second) (command.start + first) → output ≡ duplicate_line file other → after ≡ told
      → Begins words told command files → slice_get files second ≡ Some file → slice_get files first ≡ Some other
      → IsDuplicate told files first second → Outcome words told status output after
  long_table : (command : Command) (reports : List (List ℕ)) (new : Table) (word : ℕ) (name : List ℕ) → status ≡ refused word too_long
      → output ≡ refusal_line name too_long → after ≡ told → Analyses words told command reports new → Names words command.out word name
      → is_short_table new ≡ false → Outcome words told status output after
  passed : (command : Command) (reports : List (List ℕ)) (new : Table) → SaysWhether status output → output ≡ concat reports
      → Analyses words told command reports new → Stores words command new told after → Outcome words told status output after
  made : (count : ℕ) → IsMake words count → IsSummary count status output → after ≡ with_first count count told → Outcome words told status output after

-- An answer of the analysis: not a failed allocation, and not the fault of a device.
abbrev pub IsAnswer : Status → Type 0
IsAnswer (DeviceFault device) = ⊥
IsAnswer Memory = ⊥
IsAnswer status = Unit {0}

-- The command passed.
abbrev pub IsPassed : Status → Type 0
IsPassed Clean = Unit {0}
IsPassed Warnings = Unit {0}
IsPassed status = ⊥

-- A check put nothing onto the shelf.
abbrev pub StoresNothing : Status → Type 0
StoresNothing Clean = ⊥
StoresNothing Warnings = ⊥
StoresNothing (DeviceFault (Replace word)) = ⊥
StoresNothing (DeviceFault Write) = ⊥
StoresNothing status = Unit {0}

-- ---- faults of devices

-- A file, or the table to begin with, was reached: its name is the word at this position.
pub data IsUnread (words : List (List ℕ)) (told : Option Files) (word : ℕ) (name : List ℕ) : Type 0 where
  of_table : NamesTable words word name → IsUnread words told word name
  of_file : (command : Command) (files : List (List ℕ)) (at before : ℕ) → word ≡ command.start + at → Begins words told command files
      → IsReached told files at name before → IsUnread words told word name

-- All steps of a check passed but the last, and the table of this name, the word at this position, was to be put onto the shelf: it
-- holds what it held under the name, or the new table's bytes, whole, and nothing else has changed.
pub record IsTableUnreplaced (words : List (List ℕ)) (told : Option Files) (word : ℕ) (name : List ℕ) (after : Option Files) : Type 0 where
  pub command : Command
  pub reports : List (List ℕ)
  pub new : Table
  pub analyses : Analyses words told command reports new
  pub out : Names words command.out word name
  pub short : is_short_table new ≡ true
  pub whole : IsOldOrNew told after name (table_bytes new)

-- The generated file of this number and name was to be put onto the shelf, and those of lower numbers were: it holds what it held under
-- the name, or the module's text, whole, and nothing else has changed.
pub record IsFileUnreplaced (words : List (List ℕ)) (told : Option Files) (number : ℕ) (name : List ℕ) (after : Option Files) : Type 0 where
  pub count : ℕ
  pub make : IsMake words count
  pub within : number < count
  pub called : name ≡ file_name number
  pub whole : IsOldOrNew (with_first count number told) after name (module_text count number)

-- What the shelf didn't take: the table of a check, or a generated file, which stands for its number.
pub data IsUnreplaced (words : List (List ℕ)) (told : Option Files) (word : ℕ) (name : List ℕ) (after : Option Files) : Type 0 where
  of_new_table : IsTableUnreplaced words told word name after → IsUnreplaced words told word name after
  of_generated : IsFileUnreplaced words told word name after → IsUnreplaced words told word name after

-- The status and the output that a run means to give, before it writes, and what is held then: as above, or the fault of the shelf,
-- which has counted it.
pub data Intended (words : List (List ℕ)) (told : Option Files) (reads reads_now replaces replaces_now : ℕ) (status : Status) (output : List ℕ) (after : Option Files) : Type 0 where
  answered : Outcome words told status output after → Intended words told reads reads_now replaces replaces_now status output after
  unread : (word : ℕ) (name : List ℕ) → status ≡ DeviceFault (Read word) → output ≡ read_fault_line name → after ≡ told
      → IsUnread words told word name → Rose reads reads_now → Intended words told reads reads_now replaces replaces_now status output after
  unreplaced : (word : ℕ) (name : List ℕ) → status ≡ DeviceFault (Replace word) → output ≡ replace_fault_line name
      → IsUnreplaced words told word name after → Rose replaces replaces_now
      → Intended words told reads reads_now replaces replaces_now status output after

-- The shelf failed to read the file or the table of this position among the words, and counted it, and the line that says so was
-- written.
pub record FailsToRead (words : List (List ℕ)) (told : Option Files) (word : ℕ) (reads reads_now : ℕ) (written_before written_now : Option (List ℕ)) : Type 0 where
  pub name : List ℕ
  pub unread_so : IsUnread words told word name
  pub rose : Rose reads reads_now
  pub written : written_now ≡ appended written_before (read_fault_line name)

-- The shelf failed to put the new table under the name at this position among the words, or the generated file of this number, and
-- counted it, and the line that says so was written.
pub record FailsToReplace (words : List (List ℕ)) (told after : Option Files) (word : ℕ) (replaces replaces_now : ℕ) (written_before written_now : Option (List ℕ)) : Type 0 where
  pub name : List ℕ
  pub unreplaced_so : IsUnreplaced words told word name after
  pub rose : Rose replaces replaces_now
  pub written : written_now ≡ appended written_before (replace_fault_line name)

-- The sink failed and counted it, and a prefix of the output was written that the run meant to give. What is held is what would be
-- held without this fault.
pub record FailsToWrite (words : List (List ℕ)) (told after : Option Files) (reads reads_now replaces replaces_now : ℕ) (sink_before sink_now : ℕ) (written_before written_now : Option (List ℕ)) : Type 0 where
  pub rose : Rose sink_before sink_now
  pub status : Status
  pub output : List ℕ
  pub intended : Intended words told reads reads_now replaces replaces_now status output after
  pub written : IsPrefixAppended written_before written_now output

-- ---- the answer

-- The run wrote its output, and its status, its output and what is held are those of the words and of what was held.
pub record Answers (words : List (List ℕ)) (held : Files) (after : Option Files) (status : Status) (written_before written_now : Option (List ℕ)) : Type 0 where
  pub output : List ℕ
  pub outcome : Outcome words (Some held) status output after
  pub written : written_now ≡ appended written_before output

-- The status of a refusal, by positions among the words.
pub data IsRefusal (words : List (List ℕ)) (status : Status) : Type 0 where
  of_word : (word : ℕ) (fault : SourceFault) → 1 ≤ word → status ≡ refused word fault → IsRefusal words status
  of_many : status ≡ too_many → IsRefusal words status
  of_two : (word other : ℕ) → 1 ≤ other → other < word → status ≡ duplicate word other → IsRefusal words status

-- The statuses that a run on these words may have.
abbrev pub IsPossible : (words : List (List ℕ)) → Status → Type 0
IsPossible words (Refused refusal) = IsRefusal words (Refused refusal)
IsPossible words (TableFault number) = (18 ≤ number) × (number ≤ 23)
IsPossible words (DeviceFault (Read position)) = 1 ≤ position
IsPossible words (DeviceFault (Replace position)) = (1 ≤ position) ⊎ ((count : ℕ) × IsMake words count × (position < count))
IsPossible words status = Unit {0}
