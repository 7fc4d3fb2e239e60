-- What the steps of a check give, one after another: the table to begin with, the plan of what is answered and put onto the shelf, and
-- what became of it.
use Rattle.std.specs.Prelude.{◌≡◌, ℕ, ◌+◌, List, drop, slice_get, Option, Some, None, false, true}
use Rattle.std.specs.List.{concat}
use Rattle.core_scope.specs.Sets.{FirstDuplicate}
use Rattle.core_scope.specs.declared.fault.SetFault.{SetFault}
use Rattle.core_scope.specs.declared.fault.SetFault.TheVariants.{DuplicateModule}
use Rattle.da_shelf.specs.Counts.{Rose}
use Rattle.da_shelf.specs.Told.{Files, Holds, Lacks, replaced, IsOldOrNew}
use Rattle.table_file.specs.declared.tables.Table.{Table}
use Rattle.table_file.specs.declared.faults.TableFault.{TableFault as FaultOfTable}
use Rattle.table_file.specs.Lengths.{is_short_table}
use Rattle.table_file.specs.Spelling.{table_bytes}
use Rattle.table_keep.specs.Model.{Source, Entry, trees, entries_so}
use Rattle.sound_laws_kept.specs.Solving.{IsWritten}
use Rattle.analysis_sources.specs.declared.refusals.Device.TheVariants.{Read, Replace}
use Rattle.analysis_sources.specs.Refusals.{refusal_line, missing}
use Rattle.analysis_summaries.specs.Known.{module_names}
use Rattle.analysis_answers.specs.ReadFiles.{HaveOwnNames}
use Rattle.analysis_answers.specs.Tables.{IsFaultOf, IsTableRead, Spells}
use Rattle.dialyze_command.specs.declared.answer.Answer.{Answer}
use Rattle.dialyze_command.specs.declared.begin.Begun.{Begun}
use Rattle.dialyze_command.specs.declared.begin.Begun.TheVariants.{Reads, Says}
use Rattle.dialyze_command.specs.declared.plan.NewTable.{NewTable}
use Rattle.dialyze_command.specs.declared.status.Status.{Status}
use Rattle.dialyze_command.specs.declared.status.Status.TheVariants.{DeviceFault}
use Rattle.dialyze_command.specs.declared.words.Command.{Command}
use Rattle.dialyze_command.specs.Lines.{duplicate, duplicate_line, refused, too_long, read_fault_line, replace_fault_line, faulty_table, table_fault_line}
use Rattle.dialyze_command.specs.Outcome.{Names, IsBegun, SaysWhether, Analyses, Intended}

-- ---- the table to begin with

-- What is answered where the table of this name isn't held, has a fault, or isn't read since the shelf failed.
pub data IsTableFault (told : Option Files) (word : ℕ) (name : List ℕ) (reads reads_now : ℕ) (status : Status) (output : List ℕ) : Type 0 where
  lacking : status ≡ refused word missing → output ≡ refusal_line name missing → Lacks told name
      → IsTableFault told word name reads reads_now status output
  faulty : (bytes : List ℕ) (fault : FaultOfTable) → status ≡ faulty_table fault → output ≡ table_fault_line name fault → Holds told name bytes
      → IsFaultOf bytes fault → IsTableFault told word name reads reads_now status output
  failing : status ≡ DeviceFault (Read word) → output ≡ read_fault_line name → Rose reads reads_now
      → IsTableFault told word name reads reads_now status output

-- The bytes spell the table, or the answer names their first fault.
abbrev pub IsOfBytes : (name bytes : List ℕ) → Begun → Type 0
IsOfBytes name bytes (Reads table) = Spells table bytes
IsOfBytes name bytes (Says answer) =
    (fault : FaultOfTable) × (answer.status ≡ faulty_table fault) × (answer.output ≡ table_fault_line name fault) × IsFaultOf bytes fault

-- The bytes that are held under the name spell the table, or this is answered.
abbrev pub IsReadAs : (told : Option Files) (word : ℕ) (name : List ℕ) (reads reads_now : ℕ) → Begun → Type 0
IsReadAs told word name reads reads_now (Reads table) = IsTableRead told name table
IsReadAs told word name reads reads_now (Says answer) = IsTableFault told word name reads reads_now answer.status answer.output

-- A check with this option begins with the table, or this is answered.
abbrev pub IsBegunAs : (words : List (List ℕ)) (told : Option Files) (plt : Option ℕ) (reads reads_now : ℕ) → Begun → Type 0
IsBegunAs words told plt reads reads_now (Reads table) = IsBegun words told plt table
IsBegunAs words told plt reads reads_now (Says answer) =
    (word : ℕ) × (name : List ℕ) × Names words plt word name × IsTableFault told word name reads reads_now answer.status answer.output

-- ---- what is made of the analysis

-- The bytes of the new table, whose counts and lengths fit, for the name behind the option, and the line for a shelf that fails.
pub record IsNewTable (words : List (List ℕ)) (out : Option ℕ) (new : Table) (made : NewTable) : Type 0 where
  pub name : List ℕ
  pub names : Names words out made.word name
  pub short : is_short_table new ≡ true
  pub bytes_so : made.bytes ≡ table_bytes new
  pub line_so : made.line ≡ replace_fault_line name

-- What is answered, and put onto the shelf, where these are the reports and the new table.
pub data IsMade (words : List (List ℕ)) (out : Option ℕ) (reports : List (List ℕ)) (new : Table) (status : Status) (output : List ℕ) (made : Option NewTable) : Type 0 where
  long : (word : ℕ) (name : List ℕ) → status ≡ refused word too_long → output ≡ refusal_line name too_long → made ≡ None
      → Names words out word name → is_short_table new ≡ false → IsMade words out reports new status output made
  alone : SaysWhether status output → output ≡ concat reports → made ≡ None → out ≡ None → IsMade words out reports new status output made
  stored : (table : NewTable) → SaysWhether status output → output ≡ concat reports → made ≡ Some table → IsNewTable words out new table
      → IsMade words out reports new status output made

-- The same with a name for the table, the word at this position, where this is the answer to the reports.
pub data IsNewAs (name : List ℕ) (word : ℕ) (answer : Answer) (new : Table) (status : Status) (output : List ℕ) (made : Option NewTable) : Type 0 where
  too_big : status ≡ refused word too_long → output ≡ refusal_line name too_long → made ≡ None → is_short_table new ≡ false
      → IsNewAs name word answer new status output made
  new_table : (table : NewTable) → status ≡ answer.status → output ≡ answer.output → made ≡ Some table → table.word ≡ word
      → is_short_table new ≡ true → table.bytes ≡ table_bytes new → table.line ≡ replace_fault_line name
      → IsNewAs name word answer new status output made

-- What is answered, and put onto the shelf, where the check begins with these entries, and its files are read as these sources.
pub data IsJudged (words : List (List ℕ)) (command : Command) (T : List Entry) (M : List Source) (status : Status) (output : List ℕ) (made : Option NewTable) : Type 0 where
  names_one : (first second : ℕ) (file other : List ℕ) → status ≡ duplicate (command.start + second) (command.start + first)
      → output ≡ duplicate_line file other → made ≡ None → slice_get (drop command.start words) second ≡ Some file
      → slice_get (drop command.start words) first ≡ Some other → FirstDuplicate (module_names (trees M)) first second
      → IsJudged words command T M status output made
  analysed : (reports : List (List ℕ)) (new : Table) → HaveOwnNames (trees M) → IsWritten T M reports (entries_so new)
      → IsMade words command.out reports new status output made → IsJudged words command T M status output made

-- the positions that a fault of a set names
abbrev pub first_of : SetFault → ℕ
first_of (DuplicateModule first second) = first

abbrev pub second_of : SetFault → ℕ
second_of (DuplicateModule first second) = second

-- ---- plans

-- What a run means to answer: with nothing to put onto the shelf, or else the reports of an analysis, with its new table.
pub data IsPlan (words : List (List ℕ)) (told : Option Files) (reads reads_now : ℕ) (status : Status) (output : List ℕ) (made : Option NewTable) : Type 0 where
  answers : made ≡ None → ((replaces replaces_now : ℕ) → Intended words told reads reads_now replaces replaces_now status output told)
      → IsPlan words told reads reads_now status output made
  stores : (command : Command) (reports : List (List ℕ)) (new : Table) (table : NewTable) → made ≡ Some table
      → Analyses words told command reports new → SaysWhether status output → output ≡ concat reports → IsNewTable words command.out new table
      → IsPlan words told reads reads_now status output made

-- What became of a plan: what is answered and held, where this was to be answered and put onto the shelf.
pub data IsStored (words : List (List ℕ)) (told after : Option Files) (replaces replaces_now : ℕ) (plan : Answer) (made : Option NewTable) (answer : Answer) : Type 0 where
  as_planned : made ≡ None → answer ≡ plan → after ≡ told → IsStored words told after replaces replaces_now plan made answer
  put : (table : NewTable) (name : List ℕ) → made ≡ Some table → slice_get words table.word ≡ Some name → answer ≡ plan
      → after ≡ replaced told name table.bytes → IsStored words told after replaces replaces_now plan made answer
  failed : (table : NewTable) (name : List ℕ) → made ≡ Some table → slice_get words table.word ≡ Some name
      → answer.status ≡ DeviceFault (Replace table.word) → answer.output ≡ table.line → Rose replaces replaces_now
      → IsOldOrNew told after name table.bytes → IsStored words told after replaces replaces_now plan made answer

-- The same of a table that is put under this name.
pub data IsPutAs (name : List ℕ) (told after : Option Files) (replaces replaces_now : ℕ) (plan : Answer) (table : NewTable) (answer : Answer) : Type 0 where
  taken : answer ≡ plan → after ≡ replaced told name table.bytes → IsPutAs name told after replaces replaces_now plan table answer
  refused_so : answer.status ≡ DeviceFault (Replace table.word) → answer.output ≡ table.line → Rose replaces replaces_now
      → IsOldOrNew told after name table.bytes → IsPutAs name told after replaces replaces_now plan table answer
