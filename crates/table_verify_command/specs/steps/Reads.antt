-- What the steps of reading give: a table, the sources of files, or what is answered.
use Rattle.std.specs.Prelude.{◌≡◌, ℕ, ◌+◌, List, slice_get, Option, Some}
use Rattle.da_shelf.specs.Counts.{Rose}
use Rattle.da_shelf.specs.Told.{Files, Holds, Lacks}
use Rattle.table_file.specs.declared.faults.TableFault.{TableFault as FaultOfTable}
use Rattle.table_keep.specs.Model.{sources_so}
use Rattle.analysis_sources.specs.declared.refusals.Device.TheVariants.{Read}
use Rattle.analysis_sources.specs.declared.refusals.SourceFault.{SourceFault}
use Rattle.analysis_sources.specs.Reading.{IsReached, RefusedAt}
use Rattle.analysis_sources.specs.Refusals.{refusal_line, missing}
use Rattle.analysis_answers.specs.declared.files.FilesRead.{FilesRead}
use Rattle.analysis_answers.specs.declared.files.FilesRead.TheVariants as f
use Rattle.analysis_answers.specs.declared.run_status.RunStatus.{RunStatus}
use Rattle.analysis_answers.specs.declared.run_status.RunStatus.TheVariants.{DeviceFault}
use Rattle.analysis_answers.specs.FileRuns.{refused}
use Rattle.analysis_answers.specs.Lines.{read_fault_line, table_fault_line}
use Rattle.analysis_answers.specs.ReadFiles.{ReadsAll}
use Rattle.analysis_answers.specs.Tables.{Spells, IsFaultOf, IsTableRead, faulty_table}
use Rattle.table_verify_command.specs.declared.reading.TableRead.{TableRead}
use Rattle.table_verify_command.specs.declared.reading.TableRead.TheVariants.{Reads, Says}

-- What is answered where the table of this name isn't held, has a fault, or isn't read since the shelf failed.
pub data IsTableFault (told : Option Files) (word : ℕ) (name : List ℕ) (reads reads_now : ℕ) (status : RunStatus) (output : List ℕ) : Type 0 where
  lacking : status ≡ refused word missing → output ≡ refusal_line name missing → Lacks told name
      → IsTableFault told word name reads reads_now status output
  faulty : (bytes : List ℕ) (fault : FaultOfTable) → status ≡ faulty_table fault → output ≡ table_fault_line name fault → Holds told name bytes
      → IsFaultOf bytes fault → IsTableFault told word name reads reads_now status output
  failing : status ≡ DeviceFault (Read word) → output ≡ read_fault_line name → Rose reads reads_now
      → IsTableFault told word name reads reads_now status output

-- The bytes spell the table, or the answer names their first fault.
abbrev pub IsOfBytes : (name bytes : List ℕ) → TableRead → Type 0
IsOfBytes name bytes (Reads table) = Spells table bytes
IsOfBytes name bytes (Says answer) =
    (fault : FaultOfTable) × (answer.status ≡ faulty_table fault) × (answer.output ≡ table_fault_line name fault) × IsFaultOf bytes fault

-- The table that is held under the name is read, or this is answered.
abbrev pub IsReadAs : (told : Option Files) (word : ℕ) (name : List ℕ) (reads reads_now : ℕ) → TableRead → Type 0
IsReadAs told word name reads reads_now (Reads table) = IsTableRead told name table
IsReadAs told word name reads reads_now (Says answer) = IsTableFault told word name reads reads_now answer.status answer.output

-- What is answered where a file can't be read, by the first that can't, or where the shelf failed at one that was reached. The first file
-- is the word at the position `start`.
pub data IsFileFault (told : Option Files) (files : List (List ℕ)) (start reads reads_now : ℕ) (status : RunStatus) (output : List ℕ) : Type 0 where
  refusing : (at : ℕ) (file : List ℕ) (fault : SourceFault) → status ≡ refused (start + at) fault → output ≡ refusal_line file fault
      → slice_get files at ≡ Some file → RefusedAt told files at fault → IsFileFault told files start reads reads_now status output
  failing_at : (at before : ℕ) (file : List ℕ) → status ≡ DeviceFault (Read (start + at)) → output ≡ read_fault_line file
      → IsReached told files at file before → Rose reads reads_now → IsFileFault told files start reads reads_now status output

-- All files are read, as these sources, or this is answered.
abbrev pub AreReadFrom : (told : Option Files) (files : List (List ℕ)) (start reads reads_now : ℕ) → FilesRead → Type 0
AreReadFrom told files start reads reads_now (f.Reads sources) = ReadsAll told files (sources_so sources)
AreReadFrom told files start reads reads_now (f.Says answer) = IsFileFault told files start reads reads_now answer.status answer.output
