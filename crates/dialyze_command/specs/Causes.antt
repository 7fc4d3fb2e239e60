-- When each answer comes.
use Rattle.std.specs.Prelude.{◌≡◌, ℕ, ◌+◌, List, Some, false}
use Rattle.da_shelf.specs.Told.{Files, Holds, Lacks}
use Rattle.table_file.specs.declared.tables.Table.{Table}
use Rattle.table_file.specs.declared.faults.TableFault.{TableFault as FaultOfTable}
use Rattle.table_file.specs.Lengths.{is_short_table}
use Rattle.table_keep.specs.Model.{Source, trees}
use Rattle.analysis_sources.specs.declared.refusals.RefusalName.{RefusalName}
use Rattle.analysis_sources.specs.declared.refusals.RefusalName.TheVariants as r
use Rattle.analysis_sources.specs.Reading.{HoldsAt, IsMissingAt}
use Rattle.analysis_answers.specs.ReadFiles.{HaveOwnNames, IsDuplicate, ReadsAll}
use Rattle.analysis_answers.specs.Tables.{IsFaultOf}
use Rattle.dialyze_command.specs.declared.status.Status.{Status}
use Rattle.dialyze_command.specs.declared.status.Status.TheVariants.{Clean, Warnings}
use Rattle.dialyze_command.specs.declared.words.Command.{Command}
use Rattle.dialyze_command.specs.Lines.{refused, too_long}
use Rattle.dialyze_command.specs.Making.{file_names, generated_files}
use Rattle.dialyze_command.specs.Outcome.{Names, NamesTable, Begins, Analyses}
use Rattle.dialyze_command.specs.Words.{IsMake}

-- What a run reads: a check the files that it names, of what is held, once the table is read, and the first of them is the word at the
-- position `start`; a make its generated files, of which each stands for its number.
pub data Reads (words : List (List ℕ)) (held from : Files) (start : ℕ) (files : List (List ℕ)) : Type 0 where
  by_check : (command : Command) → from ≡ held → start ≡ command.start → Begins words (Some held) command files → Reads words held from start files
  by_make : (count : ℕ) → IsMake words count → from ≡ generated_files count → start ≡ 0 → files ≡ file_names count → Reads words held from start files

-- The word at this position names the table to begin with, or a file, what stands before it is read, and it isn't held.
pub data NamesMissing (words : List (List ℕ)) (held : Files) (word : ℕ) : Type 0 where
  as_table : (name : List ℕ) → NamesTable words word name → Lacks (Some held) name → NamesMissing words held word
  as_file : (command : Command) (files : List (List ℕ)) (at : ℕ) → word ≡ command.start + at → Begins words (Some held) command files
      → IsMissingAt (Some held) files at → NamesMissing words held word

-- The words name a table to begin with, it is held, and its bytes have this first fault.
pub record NamesBadTable (words : List (List ℕ)) (held : Files) (fault : FaultOfTable) : Type 0 where
  pub word : ℕ
  pub name : List ℕ
  pub bytes : List ℕ
  pub names : NamesTable words word name
  pub held_so : Holds (Some held) name bytes
  pub is : IsFaultOf bytes fault

-- The word at this position names a file, what stands before it is read, it is held, and of its bytes, with the number that it may have,
-- this holds.
pub record NamesSource (words : List (List ℕ)) (held : Files) (word : ℕ) (Is : (most : ℕ) → List ℕ → Type 0) : Type 0 where
  pub command : Command
  pub files : List (List ℕ)
  pub begins : Begins words (Some held) command files
  pub at : ℕ
  pub place : word ≡ command.start + at
  pub source : HoldsAt (Some held) files at Is

-- All files are read, and the module of that at the position `word` is the first that has the name of one before it, of which that
-- at the position `other` is the earliest.
pub record NamesTwice (words : List (List ℕ)) (held : Files) (word other : ℕ) : Type 0 where
  pub command : Command
  pub files : List (List ℕ)
  pub begins : Begins words (Some held) command files
  pub first : ℕ
  pub second : ℕ
  pub place : word ≡ command.start + second
  pub other_place : other ≡ command.start + first
  pub duplicate_module : IsDuplicate (Some held) files first second

-- All files are read, as these sources, whose modules have names of their own.
pub record NamesModules (words : List (List ℕ)) (held : Files) : Type 0 where
  pub from : Files
  pub start : ℕ
  pub files : List (List ℕ)
  pub reads : Reads words held from start files
  pub sources : List Source
  pub read : ReadsAll (Some from) files sources
  pub names : HaveOwnNames (trees sources)

-- The word at this position names the table to write, all steps before are passed, and of the new table a count or a length doesn't
-- fit.
pub record NamesLongTable (words : List (List ℕ)) (held : Files) (word : ℕ) : Type 0 where
  pub command : Command
  pub reports : List (List ℕ)
  pub new : Table
  pub analyses : Analyses words (Some held) command reports new
  pub name : List ℕ
  pub out : Names words command.out word name
  pub long : is_short_table new ≡ false

-- The status of a run of which all sources are accepted and no names are equal: it is clean, or has warnings, or the table to write
-- has a count or a length that doesn't fit.
pub data IsAnalysed (words : List (List ℕ)) (held : Files) (status : Status) : Type 0 where
  is_clean : status ≡ Clean → IsAnalysed words held status
  is_warned : status ≡ Warnings → IsAnalysed words held status
  is_long : (word : ℕ) → status ≡ refused word too_long → NamesLongTable words held word → IsAnalysed words held status

-- The steps of reading a file, each of which may refuse it.
pub data Step : Type 0 where
  holding : Step
  length : Step
  tokens : Step
  grammar : Step
  scopes : Step

-- the step that refuses by this name
abbrev pub step_of : RefusalName → Step
step_of r.Missing = holding
step_of r.TooLong = length
step_of r.BadByte = tokens
step_of r.OpenQuote = tokens
step_of r.BadEscape = tokens
step_of r.WideInteger = tokens
step_of r.Syntax = grammar
step_of r.TooDeep = grammar
step_of r.Unbound = scopes
step_of r.RepeatedVariable = scopes
step_of r.UndefinedFunction = scopes
step_of r.RepeatedFunction = scopes
step_of r.BadExport = scopes
step_of r.Degree = scopes
