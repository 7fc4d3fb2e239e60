-- What a run answers is decided up to its analysis: by the words and by what is held it has a refusal, or it comes to an analysis.
use Rattle.std.specs.Prelude.{◌≡◌, ℕ, ◌<◌, List, All, Option, Some}
use Rattle.std.specs.FinMap.{get}
use Rattle.da_shelf.specs.Told.{Files}
use Rattle.table_keep.specs.Model.{Source, trees}
use Rattle.analysis_answers.specs.ReadFiles.{HaveOwnNames, ReadsAll}
use Rattle.dialyze_command.specs.declared.status.Status.{Status}
use Rattle.dialyze_command.specs.declared.words.Command.{Command}
use Rattle.dialyze_command.specs.Making.{file_names, generated_files}
use Rattle.dialyze_command.specs.Outcome.{Begins, Outcome}
use Rattle.dialyze_command.specs.Words.{IsMake}

-- What is held are bytes.
abbrev pub HoldsBytes : Files → Type 0
HoldsBytes held = (name bytes : List ℕ) → get held name ≡ Some bytes → All (λ b. b < 256) bytes

-- The words ask for a check, the table to begin with and all files are read, and the modules have names of their own.
pub record ComesToAnalysis (words : List (List ℕ)) (told : Option Files) : Type 0 where
  pub command : Command
  pub files : List (List ℕ)
  pub begins : Begins words told command files
  pub sources : List Source
  pub read : ReadsAll told files sources
  pub names : HaveOwnNames (trees sources)

-- The words ask for generated modules, whose files are all read, and they have names of their own.
pub record ComesToModules (words : List (List ℕ)) : Type 0 where
  pub count : ℕ
  pub make : IsMake words count
  pub sources : List Source
  pub read : ReadsAll (Some (generated_files count)) (file_names count) sources
  pub names : HaveOwnNames (trees sources)

-- The words and what is held have a status and an output, and nothing else is held then; or they come to an analysis: of files, or of
-- generated modules.
pub data IsAnswered (words : List (List ℕ)) (held : Files) : Type 0 where
  at_once : (status : Status) (output : List ℕ) → Outcome words (Some held) status output (Some held) → IsAnswered words held
  of_files : ComesToAnalysis words (Some held) → IsAnswered words held
  of_generated_modules : ComesToModules words → IsAnswered words held

abbrev pub SomeAnswerLaw : Type 0
SomeAnswerLaw = (words : List (List ℕ)) (held : Files) → HoldsBytes held → IsAnswered words held
