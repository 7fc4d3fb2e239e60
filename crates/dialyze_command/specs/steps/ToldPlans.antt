-- What the steps of a check give by what their reads told.
use Rattle.std.specs.Prelude.{ℕ, List, Option}
use Rattle.da_shelf.specs.Reads.{ToldRead, IsTold, IsToldFirst}
use Rattle.da_shelf.specs.Told.{Files}
use Rattle.table_file.specs.declared.tables.Table.{Table}
use Rattle.dialyze_command.specs.declared.plan.NewTable.{NewTable}
use Rattle.dialyze_command.specs.declared.status.Status.{Status}
use Rattle.dialyze_command.specs.declared.words.Command.{Command}
use Rattle.dialyze_command.specs.Outcome.{Intended, IsBegun}
use Rattle.dialyze_command.specs.Reads.{AreCheckReads, AreFilesRead, AreReads}
use Rattle.dialyze_command.specs.steps.Plans.{IsPlan}

-- The check reads these of its files, and whatever is held as the reads told, it means to answer this where it begins with the table.
pub record FilesPlanned {S : Type 0} (told : S → S → ToldRead → Type 0) (before now : S) (words : List (List ℕ)) (command : Command) (files : List (List ℕ)) (table : Table)
    (reads reads_now : ℕ) (status : Status) (output : List ℕ) (made : Option NewTable) : Type 0 where
  pub names : List (List ℕ)
  pub files_read : AreFilesRead words command files status names
  pub plan : IsTold told before now names (λ held. IsBegun words held command.plt table → IsPlan words held reads reads_now status output made)

-- The check reads these names, and whatever is held as the reads told, it means to answer this.
pub record CheckPlanned {S : Type 0} (told : S → S → ToldRead → Type 0) (before now : S) (words : List (List ℕ)) (reads reads_now : ℕ) (status : Status) (output : List ℕ) (made : Option NewTable) : Type 0 where
  pub names : List (List ℕ)
  pub names_read : AreCheckReads words status names
  pub plan : IsTold told before now names (λ held. IsPlan words held reads reads_now status output made)

-- The run reads these names and no more, and whatever is held as the reads told, it means to answer this.
pub record RunIntended {S : Type 0} (told : S → S → ToldRead → Type 0) (count : S → ℕ) (before now : S) (words : List (List ℕ)) (reads reads_now replaces replaces_now : ℕ) (status : Status) (output : List ℕ) : Type 0 where
  pub names : List (List ℕ)
  pub names_read : AreReads words status names
  pub intended : IsToldFirst told count before now names (λ held. (after : Option Files) × Intended words held reads reads_now replaces replaces_now status output after)
