-- What `make` does: the files of generated modules that it puts onto the shelf, and what it answers of their modules.
use Rattle.std.specs.Prelude.{◌≡◌, ℕ, zero, suc, ◌==◌, ◌≤◌, List, [], ◌++◌, codes, length, map, option_map, Option, Some}
use Rattle.std.specs.Fmt.{decimal}
use Rattle.std.specs.FinMap.{empty, insert}
use Rattle.std.specs.List.{concat, count_by, range_with_len}
use Rattle.call_graph.specs.Calls.{functions_of}
use Rattle.core_make.specs.Modules.{module_text}
use Rattle.da_shelf.specs.Told.{Files}
use Rattle.table_keep.specs.Model.{Source, Entry, trees}
use Rattle.sound_laws.specs.Accepted.{AreAccepted}
use Rattle.sound_laws_kept.specs.Solving.{IsWritten}
use Rattle.analysis_sources.specs.Refusals.{line}
use Rattle.analysis_answers.specs.ReadFiles.{HaveOwnNames, ReadsAll}
use Rattle.dialyze_command.specs.declared.status.Status.{Status}
use Rattle.dialyze_command.specs.declared.status.Status.TheVariants.{Warnings}

-- ---- the files

-- the name of the file of the module of this number
abbrev pub file_name : ℕ → List ℕ
file_name i = codes "g" ++ decimal i ++ codes ".core"

-- the names of the files of n modules, in the order of their numbers from 0 on
abbrev pub file_names : (n : ℕ) → List (List ℕ)
file_names n = map file_name (range_with_len 0 n)

-- what is held with the first k files of n modules, each in place of what was under its name
abbrev pub files_with : (n k : ℕ) → Files → Files
files_with n zero held = held
files_with n (suc k) held = insert (files_with n k held) (file_name k) (module_text n k)

-- the same, where contracts see what is held
abbrev pub with_first : (n k : ℕ) → Option Files → Option Files
with_first n k told = option_map (files_with n k) told

-- the files of n modules, and nothing else
abbrev pub generated_files : (n : ℕ) → Files
generated_files n = files_with n n empty

-- Some of the first files of n modules were put onto the shelf, in their order, and nothing else has changed.
abbrev pub PutsFirst : (n : ℕ) → (told after : Option Files) → Type 0
PutsFirst n told after = (k : ℕ) × (k ≤ n) × (after ≡ with_first n k told)

-- ---- the answer

-- how many lines a report has: how many line feeds
abbrev pub line_count : List ℕ → ℕ
line_count report = count_by (λ byte. byte == 10) report

-- modules N functions F lines L
abbrev pub summary_line : (modules functions lines : ℕ) → List ℕ
summary_line modules functions lines = line (codes "modules " ++ decimal modules ++ codes " functions " ++ decimal functions ++ codes " lines " ++ decimal lines)

-- What is answered of n generated modules: what a check of their files answers, without a table, where they are held and nothing else
-- is; but in place of the report a line says how many modules, functions and lines of the report there are. Each file is the source of an
-- accepted module, with a name of its own.
pub record IsSummary (n : ℕ) (status : Status) (output : List ℕ) : Type 0 where
  pub sources : List Source
  pub reports : List (List ℕ)
  pub new : List Entry
  pub status_so : status ≡ Warnings
  pub output_so : output ≡ summary_line n (length (functions_of (trees sources))) (line_count (concat reports))
  pub read : ReadsAll (Some (generated_files n)) (file_names n) sources
  pub names : HaveOwnNames (trees sources)
  pub accepted : AreAccepted (trees sources)
  pub written : IsWritten [] sources reports new
