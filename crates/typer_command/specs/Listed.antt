-- What a run of the program writes of the files that it reads, and what is promised of that.
use Rattle.std.specs.Prelude.{◌≡◌, ℕ, List, codes, Contains, Option}
use Rattle.da_shelf.specs.Told.{Files}
use Rattle.table_keep.specs.Model.{Source, trees}
use Rattle.sound_laws.specs.Accepted.{AreAccepted}
use Rattle.analysis_sources.specs.Refusals.{line}
use Rattle.analysis_answers.specs.FileRuns.{Writes}
use Rattle.typer_lines.specs.declared.typing.Typing.{Typing}
use Rattle.typer_command.specs.Typed.{AreTypingsOf, lines_of, ReadsBack, HoldsInRuns}

abbrev pub usage_line : List ℕ
usage_line = line (codes "usage: typer FILE..")

-- The modules of the sources are accepted, and these are the lines of the typings of all their functions.
pub record Lists (sources : List Source) (output : List ℕ) : Type 0 where
  pub accepted : AreAccepted (trees sources)
  pub typings : List Typing
  pub typed : AreTypingsOf (trees sources) typings
  pub lines : output ≡ lines_of typings

-- The run wrote the lines of typings of the files' modules, each of which reads back and is true of every run of them.
pub record WritesTruth (words : List (List ℕ)) (held : Files) (written_before written_now : Option (List ℕ)) : Type 0 where
  pub writes : Writes Lists words held written_before written_now
  pub reads_back : (t : Typing) → Contains writes.passes.gives.typings t → ReadsBack t
  pub holds : (t : Typing) → Contains writes.passes.gives.typings t → HoldsInRuns (trees writes.passes.sources) t
