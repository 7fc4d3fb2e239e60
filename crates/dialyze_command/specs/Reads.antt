-- What a run reads, and that its answer is that of what these reads told.
use Rattle.std.specs.Prelude.{◌≡◌, ℕ, ◌+◌, List, [], ◌++◌, take, drop, Option, Some, None}
use Rattle.da_shelf.specs.Reads.{ToldRead, IsToldFirst}
use Rattle.da_shelf.specs.Told.{Files, appended}
use Rattle.table_file.specs.declared.faults.TableFault.{TableFault as FaultOfTable}
use Rattle.analysis_sources.specs.declared.refusals.SourceFault.{SourceFault}
use Rattle.analysis_sources.specs.declared.refusals.Device.TheVariants.{Read, Replace}
use Rattle.dialyze_command.specs.declared.status.Status.{Status}
use Rattle.dialyze_command.specs.declared.status.Status.TheVariants.{DeviceFault, Usage}
use Rattle.dialyze_command.specs.declared.words.Command.{Command}
use Rattle.dialyze_command.specs.Lines.{refused, too_long, too_many, duplicate, faulty_table}
use Rattle.dialyze_command.specs.Outcome.{Checks, Names, IsPassed, Outcome}
use Rattle.dialyze_command.specs.Words.{IsMake}

-- the name of the table that a check begins with, if it names one
abbrev pub table_named : (words : List (List ℕ)) → (plt : Option ℕ) → List (List ℕ)
table_named words None = []
table_named words (Some word) = take 1 (drop word words)

-- Reading ended at the word of this position: its file or table is refused, or the shelf failed there.
pub data EndsAt (status : Status) (word : ℕ) : Type 0 where
  is_refused : (fault : SourceFault) → status ≡ refused word fault → EndsAt status word
  is_unread : status ≡ DeviceFault (Read word) → EndsAt status word

-- All was read: the check passed, two modules have one name, or the new table doesn't fit or wasn't taken.
pub data GoesThrough (words : List (List ℕ)) (command : Command) (status : Status) : Type 0 where
  passing : IsPassed status → GoesThrough words command status
  twins : (word other : ℕ) → status ≡ duplicate word other → GoesThrough words command status
  long : (word : ℕ) (name : List ℕ) → Names words command.out word name → status ≡ refused word too_long → GoesThrough words command status
  untaken : (word : ℕ) → status ≡ DeviceFault (Replace word) → GoesThrough words command status

-- Of these files those with these names were read, in their order: up to the one at which reading ended, or all.
pub data AreFilesRead (words : List (List ℕ)) (command : Command) (files : List (List ℕ)) (status : Status) (names : List (List ℕ)) : Type 0 where
  up_to : (at : ℕ) → EndsAt status (command.start + at) → names ≡ take (at + 1) files → AreFilesRead words command files status names
  all : GoesThrough words command status → names ≡ files → AreFilesRead words command files status names

-- The names that a check reads, in their order, by its words and its status. Words that are no command, or name too many files, read
-- nothing; else the table to begin with comes first, if one is named, and where it is read the files come.
pub data AreCheckReads (words : List (List ℕ)) (status : Status) (names : List (List ℕ)) : Type 0 where
  of_no_command : status ≡ Usage → names ≡ [] → AreCheckReads words status names
  of_too_many : status ≡ too_many → names ≡ [] → AreCheckReads words status names
  of_unread_table : (command : Command) (files : List (List ℕ)) (word : ℕ) → Checks words command files → command.plt ≡ Some word
      → EndsAt status word → names ≡ table_named words command.plt → AreCheckReads words status names
  of_faulty_table : (command : Command) (files : List (List ℕ)) (fault : FaultOfTable) → Checks words command files
      → status ≡ faulty_table fault → names ≡ table_named words command.plt → AreCheckReads words status names
  of_files : (command : Command) (files more : List (List ℕ)) → Checks words command files → AreFilesRead words command files status more
      → names ≡ table_named words command.plt ++ more → AreCheckReads words status names

-- The names that a run reads, in their order. A make reads nothing.
pub data AreReads (words : List (List ℕ)) (status : Status) (names : List (List ℕ)) : Type 0 where
  of_check : AreCheckReads words status names → AreReads words status names
  of_make : (count : ℕ) → IsMake words count → names ≡ [] → AreReads words status names

-- The run read these names and no more, and wrote its output; and whatever is held as the reads told, status and output are those of the
-- words and of that.
pub record AnswersAsTold {S : Type 0} (told : S → S → ToldRead → Type 0) (count : S → ℕ) (before now : S) (words : List (List ℕ)) (status : Status) (written_before written_now : Option (List ℕ)) : Type 0 where
  pub names : List (List ℕ)
  pub reads : AreReads words status names
  pub output : List ℕ
  pub outcome : IsToldFirst told count before now names (λ held. (after : Option Files) × Outcome words held status output after)
  pub written : written_now ≡ appended written_before output
