-- What the steps of a make give, one after another: the files that are put, and what is answered of their modules.
use Rattle.std.specs.Prelude.{◌≡◌, ℕ, ◌<◌, List, [], length, Option, Some, None}
use Rattle.std.specs.List.{concat}
use Rattle.call_graph.specs.Calls.{functions_of}
use Rattle.core_make.specs.Modules.{module_text}
use Rattle.da_shelf.specs.Counts.{Rose}
use Rattle.da_shelf.specs.Told.{Files, replaced, IsOldOrNew}
use Rattle.table_keep.specs.Model.{Source, Entry, trees}
use Rattle.sound_laws_kept.specs.Solving.{IsWritten}
use Rattle.analysis_sources.specs.declared.refusals.Device.TheVariants.{Replace}
use Rattle.analysis_answers.specs.ReadFiles.{HaveOwnNames}
use Rattle.dialyze_command.specs.declared.answer.Answer.{Answer}
use Rattle.dialyze_command.specs.declared.status.Status.{Status}
use Rattle.dialyze_command.specs.declared.status.Status.TheVariants.{DeviceFault, Warnings}
use Rattle.dialyze_command.specs.Lines.{replace_fault_line}
use Rattle.dialyze_command.specs.Making.{file_name, with_first, line_count, summary_line, IsSummary}

-- What is answered where the shelf doesn't take the file of this number, and has counted it: it holds what it held under the name, or
-- the text, whole.
pub record IsUnput (number : ℕ) (text : List ℕ) (told after : Option Files) (replaces replaces_now : ℕ) (answer : Answer) : Type 0 where
  pub status_so : answer.status ≡ DeviceFault (Replace number)
  pub output_so : answer.output ≡ replace_fault_line (file_name number)
  pub rose : Rose replaces replaces_now
  pub whole : IsOldOrNew told after (file_name number) text

-- The text is held as the file of this number, or this is answered.
abbrev pub IsPutOne : (number : ℕ) (text : List ℕ) (told after : Option Files) (replaces replaces_now : ℕ) → Option Answer → Type 0
IsPutOne number text told after replaces replaces_now None = after ≡ replaced told (file_name number) text
IsPutOne number text told after replaces replaces_now (Some answer) = IsUnput number text told after replaces replaces_now answer

-- The files of n modules are held, or this is answered, where those of lower numbers are.
abbrev pub IsPut : (n : ℕ) (told after : Option Files) (replaces replaces_now : ℕ) → Option Answer → Type 0
IsPut n told after replaces replaces_now None = after ≡ with_first n n told
IsPut n told after replaces replaces_now (Some answer) =
    (number : ℕ) × (number < n) × IsUnput number (module_text n number) (with_first n number told) after replaces replaces_now answer

-- What became of a make.
pub data IsMadeAs (n : ℕ) (told after : Option Files) (replaces replaces_now : ℕ) (answer : Answer) : Type 0 where
  all_put : after ≡ with_first n n told → IsSummary n answer.status answer.output → IsMadeAs n told after replaces replaces_now answer
  one_failed : (number : ℕ) → number < n → IsUnput number (module_text n number) (with_first n number told) after replaces replaces_now answer
      → IsMadeAs n told after replaces replaces_now answer

-- What is answered of the sources that generated texts are.
pub record IsCounted (M : List Source) (status : Status) (output : List ℕ) : Type 0 where
  pub reports : List (List ℕ)
  pub new : List Entry
  pub status_so : status ≡ Warnings
  pub output_so : output ≡ summary_line (length M) (length (functions_of (trees M))) (line_count (concat reports))
  pub names : HaveOwnNames (trees M)
  pub written : IsWritten [] M reports new
