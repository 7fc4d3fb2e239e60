-- What a run answers: its status, its output, and what is held after it, by the words and by what is held before.
use Rattle.std.specs.Prelude.{◌≡◌, ℕ, ◌+◌, ◌<◌, ◌≤◌, List, [], length, slice_get, Option, Some, false, true}
use Rattle.type_kinds.specs.declared.atom.Atom.{Atom}
use Rattle.da_shelf.specs.Counts.{Rose}
use Rattle.da_shelf.specs.Told.{Files, Holds, Lacks, replaced, IsOldOrNew, appended, IsPrefixAppended}
use Rattle.table_file.specs.declared.tables.Table.{Table}
use Rattle.table_file.specs.declared.faults.TableFault.{TableFault as FaultOfTable}
use Rattle.table_file.specs.Lengths.{is_short_table}
use Rattle.table_file.specs.Spelling.{table_bytes}
use Rattle.table_keep.specs.Model.{Source, trees, entries_so}
use Rattle.sound_laws.specs.Accepted.{AreAccepted}
use Rattle.analysis_sources.specs.declared.refusals.Device.TheVariants.{Read, Replace, Write}
use Rattle.analysis_sources.specs.declared.refusals.SourceFault.{SourceFault}
use Rattle.analysis_sources.specs.Reading.{IsReached, RefusedAt}
use Rattle.analysis_sources.specs.Refusals.{refusal_line, missing}
use Rattle.analysis_answers.specs.declared.run_status.RunStatus.{RunStatus}
use Rattle.analysis_answers.specs.declared.run_status.RunStatus.TheVariants.{Done, Refused, TableFault, DeviceFault, Usage}
use Rattle.analysis_answers.specs.FileRuns.{refused, too_many, duplicate}
use Rattle.analysis_answers.specs.Lines.{too_many_line, duplicate_line, read_fault_line, replace_fault_line, table_fault_line}
use Rattle.analysis_answers.specs.ReadFiles.{ReadsAll, HaveOwnNames, IsDuplicate}
use Rattle.analysis_answers.specs.Tables.{IsFaultOf, IsTableRead, faulty_table}
use Rattle.table_verify_laws.specs.Certificates.{IsCertificate}
use Rattle.table_verify_laws.specs.Rules.{IsFirstBroken, KeepsRules, TableRule}
use Rattle.table_verify_command.specs.Lines.{usage_line, accepted_line, rejected_line, rejected, too_long}
use Rattle.table_verify_command.specs.Words.{Makes, Checks, IsNoCommand, NamesTooMany}

-- ---- what is reached

-- A check comes to the table of this name, the word at this position: to the table that is checked first, and once that is read to the
-- certificate.
pub data ReachesTable (words : List (List ℕ)) (told : Option Files) (word : ℕ) (name : List ℕ) : Type 0 where
  to_table : (cert : List ℕ) (files : List (List ℕ)) → word ≡ 1 → Checks words name cert files → ReachesTable words told word name
  to_certificate : (table_name : List ℕ) (files : List (List ℕ)) (table : Table) → word ≡ 2 → Checks words table_name name files
      → IsTableRead told table_name table → ReachesTable words told word name

-- A command comes to its files, of which the first is the word at the position `start`: a check once both tables are read.
pub data Begins (words : List (List ℕ)) (told : Option Files) (start : ℕ) (files : List (List ℕ)) : Type 0 where
  by_make : (cert : List ℕ) → start ≡ 2 → Makes words cert files → Begins words told start files
  by_check : (table_name cert_name : List ℕ) (table cert : Table) → start ≡ 3 → Checks words table_name cert_name files
      → IsTableRead told table_name table → IsTableRead told cert_name cert → Begins words told start files

-- All files are read, as the sources of accepted modules with names of their own.
pub record ReadsModules (told : Option Files) (files : List (List ℕ)) (sources : List Source) : Type 0 where
  pub read : ReadsAll told files sources
  pub names : HaveOwnNames (trees sources)
  pub accepted : AreAccepted (trees sources)

-- The words ask for a certificate, and this is the one of the files' modules, to be put under this name.
pub record Certifies (words : List (List ℕ)) (told : Option Files) (cert_name : List ℕ) (cert : Table) : Type 0 where
  pub files : List (List ℕ)
  pub makes : Makes words cert_name files
  pub sources : List Source
  pub read : ReadsModules told files sources
  pub is : IsCertificate sources (entries_so cert)

-- The words ask for a check, and these are the table, the certificate and the sources that what is held spells.
pub record Judges (words : List (List ℕ)) (told : Option Files) (table cert : Table) (sources : List Source) : Type 0 where
  pub table_name : List ℕ
  pub cert_name : List ℕ
  pub files : List (List ℕ)
  pub checks : Checks words table_name cert_name files
  pub table_read : IsTableRead told table_name table
  pub cert_read : IsTableRead told cert_name cert
  pub read : ReadsModules told files sources

-- ---- the run

-- The status and the output of a run, and what is held after it. The first step that answers does: the words, the two tables of a check,
-- the files one after another, their modules' names; and then the certificate, or the rules.
pub data Outcome (words : List (List ℕ)) (told : Option Files) (status : RunStatus) (output : List ℕ) (after : Option Files) : Type 0 where
  usage : status ≡ Usage → output ≡ usage_line → after ≡ told → IsNoCommand words → Outcome words told status output after
  many : status ≡ too_many → output ≡ too_many_line → after ≡ told → NamesTooMany words → Outcome words told status output after
  no_table : (word : ℕ) (name : List ℕ) → status ≡ refused word missing → output ≡ refusal_line name missing → after ≡ told
      → ReachesTable words told word name → Lacks told name → Outcome words told status output after
  bad_table : (word : ℕ) (name bytes : List ℕ) (fault : FaultOfTable) → status ≡ faulty_table fault → output ≡ table_fault_line name fault
      → after ≡ told → ReachesTable words told word name → Holds told name bytes → IsFaultOf bytes fault → Outcome words told status output after
  faulty : (start : ℕ) (files : List (List ℕ)) (at : ℕ) (file : List ℕ) (fault : SourceFault) → status ≡ refused (start + at) fault
      → output ≡ refusal_line file fault → after ≡ told → Begins words told start files → slice_get files at ≡ Some file
      → RefusedAt told files at fault → Outcome words told status output after
  duplicate_module : (start : ℕ) (files : List (List ℕ)) (first second : ℕ) (file other : List ℕ)
      → status ≡ duplicate (start + second) (start + first) → output ≡ duplicate_line file other → after ≡ told
      → Begins words told start files → slice_get files second ≡ Some file → slice_get files first ≡ Some other
      → IsDuplicate told files first second → Outcome words told status output after
  long_certificate : (name : List ℕ) (cert : Table) → status ≡ refused 1 too_long → output ≡ refusal_line name too_long → after ≡ told
      → Certifies words told name cert → is_short_table cert ≡ false → Outcome words told status output after
  made : (name : List ℕ) (cert : Table) → status ≡ Done → output ≡ [] → after ≡ replaced told name (table_bytes cert)
      → Certifies words told name cert → is_short_table cert ≡ true → Outcome words told status output after
  accepts : (table cert : Table) (sources : List Source) → status ≡ Done → output ≡ accepted_line → after ≡ told
      → Judges words told table cert sources → KeepsRules (entries_so table) (entries_so cert) sources → Outcome words told status output after
  rejects : (table cert : Table) (sources : List Source) (r : TableRule) (home : Atom) → status ≡ rejected r → output ≡ rejected_line r home
      → after ≡ told → Judges words told table cert sources → IsFirstBroken (entries_so table) (entries_so cert) sources r home
      → Outcome words told status output after

-- ---- faults of devices

-- A table or a file was reached: its name is the word at this position.
pub data IsUnread (words : List (List ℕ)) (told : Option Files) (word : ℕ) (name : List ℕ) : Type 0 where
  of_table : ReachesTable words told word name → IsUnread words told word name
  of_file : (start : ℕ) (files : List (List ℕ)) (at before : ℕ) → word ≡ start + at → Begins words told start files
      → IsReached told files at name before → IsUnread words told word name

-- The certificate was to be put onto the shelf under this name, the word at position 1: it holds what it held under the name, or the
-- certificate's bytes, whole, and nothing else has changed.
pub record IsUnreplaced (words : List (List ℕ)) (told : Option Files) (word : ℕ) (name : List ℕ) (after : Option Files) : Type 0 where
  pub place : word ≡ 1
  pub cert : Table
  pub certifies : Certifies words told name cert
  pub short : is_short_table cert ≡ true
  pub whole : IsOldOrNew told after name (table_bytes cert)

-- The status and the output that a run means to give, before it writes, and what is held then: as above, or the fault of the shelf,
-- which has counted it.
pub data Intended (words : List (List ℕ)) (told : Option Files) (reads reads_now replaces replaces_now : ℕ) (status : RunStatus) (output : List ℕ) (after : Option Files) : Type 0 where
  answered : Outcome words told status output after → Intended words told reads reads_now replaces replaces_now status output after
  unread : (word : ℕ) (name : List ℕ) → status ≡ DeviceFault (Read word) → output ≡ read_fault_line name → after ≡ told
      → IsUnread words told word name → Rose reads reads_now → Intended words told reads reads_now replaces replaces_now status output after
  unreplaced : (word : ℕ) (name : List ℕ) → status ≡ DeviceFault (Replace word) → output ≡ replace_fault_line name
      → IsUnreplaced words told word name after → Rose replaces replaces_now
      → Intended words told reads reads_now replaces replaces_now status output after

-- The shelf failed to read the table or the file of this position among the words, and counted it, and the line that says so was
-- written.
pub record FailsToRead (words : List (List ℕ)) (told : Option Files) (word : ℕ) (reads reads_now : ℕ) (written_before written_now : Option (List ℕ)) : Type 0 where
  pub name : List ℕ
  pub unread_so : IsUnread words told word name
  pub rose : Rose reads reads_now
  pub written : written_now ≡ appended written_before (read_fault_line name)

-- The shelf failed to put the certificate under the name at this position among the words, and counted it, and the line that says so was
-- written.
pub record FailsToReplace (words : List (List ℕ)) (told after : Option Files) (word : ℕ) (replaces replaces_now : ℕ) (written_before written_now : Option (List ℕ)) : Type 0 where
  pub name : List ℕ
  pub unreplaced_so : IsUnreplaced words told word name after
  pub rose : Rose replaces replaces_now
  pub written : written_now ≡ appended written_before (replace_fault_line name)

-- The sink failed and counted it, and a prefix of the output was written that the run meant to give. What is held is what would be held
-- without this fault.
pub record FailsToWrite (words : List (List ℕ)) (told after : Option Files) (reads reads_now replaces replaces_now : ℕ) (sink_before sink_now : ℕ) (written_before written_now : Option (List ℕ)) : Type 0 where
  pub rose : Rose sink_before sink_now
  pub status : RunStatus
  pub output : List ℕ
  pub intended : Intended words told reads reads_now replaces replaces_now status output after
  pub written : IsPrefixAppended written_before written_now output

-- ---- the answer

-- The run wrote its output, and its status, its output and what is held are those of the words and of what was held.
pub record Answers (words : List (List ℕ)) (held : Files) (after : Option Files) (status : RunStatus) (written_before written_now : Option (List ℕ)) : Type 0 where
  pub output : List ℕ
  pub outcome : Outcome words (Some held) status output after
  pub written : written_now ≡ appended written_before output

-- The status of a refusal, by positions among the words.
pub data IsRefusal (words : List (List ℕ)) (status : RunStatus) : Type 0 where
  of_many : status ≡ too_many → IsRefusal words status
  of_word : (word : ℕ) (fault : SourceFault) → 1 ≤ word → word < length words → status ≡ refused word fault → IsRefusal words status
  of_two : (word other : ℕ) → 2 ≤ other → other < word → word < length words → status ≡ duplicate word other → IsRefusal words status
  of_rule : (r : TableRule) → status ≡ rejected r → IsRefusal words status

-- The statuses that a run on these words may have.
abbrev pub IsPossible : (words : List (List ℕ)) → RunStatus → Type 0
IsPossible words (Refused refusal) = IsRefusal words (Refused refusal)
IsPossible words (TableFault number) = (18 ≤ number) × (number ≤ 23)
IsPossible words (DeviceFault (Read position)) = (1 ≤ position) × (position < length words)
IsPossible words (DeviceFault (Replace position)) = position ≡ 1
IsPossible words status = Unit {0}

-- Nothing was put onto the shelf: the run ended otherwise than with a certificate that was made.
abbrev pub StoresNothing : RunStatus → Type 0
StoresNothing Done = ⊥
StoresNothing (DeviceFault (Replace position)) = ⊥
StoresNothing (DeviceFault Write) = ⊥
StoresNothing status = Unit {0}
