-- What an engine holds: files with their sources; the edits of it, and the reports on it.
use Rattle.std.specs.Prelude.{◌≡◌, ℕ, ◌+◌, ◌<◌, Bool, false, cond, List, [], ◌∷◌, length, map}
use Rattle.std.specs.List.{list_any}
use Rattle.std.specs.Str.{bytes_eq}
use Rattle.table_keep.specs.declared.source.Source.{Source as HandedIn}
use Rattle.table_keep.specs.Model.{Source, Entry, source_so, trees}
use Rattle.sound_laws_kept.specs.Solving.{IsWritten}
use Rattle.analysis_sources.specs.declared.source.TheConstants.{MOST_BYTES}
use Rattle.analysis_answers.specs.ReadFiles.{HaveOwnNames}
use Rattle.analysis_answers.specs.Words.{most_files}
use Rattle.dia_session_engine.specs.declared.engine.PutFault.{PutFault}
use Rattle.dia_session_engine.specs.declared.engine.PutFault.TheVariants.{TooMany, TooLong, Memory}

-- A file: its name, its source, and how many bytes its text has.
pub record HeldFile : Type 0 where
  pub file : List ℕ
  pub source : Source
  pub length : ℕ

-- the files that are held, in the order of the reports
abbrev pub Held : Type 0
Held = List HeldFile

-- a file of this name with a source that is passed
abbrev pub held_file : (name : List ℕ) → HandedIn → HeldFile
held_file name source = record { file = name; source = source_so source; length = source.length }

-- what an engine holds, which contracts see as the names of files with the sources that were passed
abbrev pub held_by : List (List ℕ × HandedIn) → Held
held_by files = map (λ (p : List ℕ × HandedIn). held_file p.0 p.1) files

abbrev pub sources_in : Held → List Source
sources_in held = map (λ h. h.source) held

abbrev pub files_in : Held → List (List ℕ)
files_in held = map (λ h. h.file) held

-- how many bytes their texts have together
abbrev pub bytes_in : Held → ℕ
bytes_in [] = 0
bytes_in (h ∷ held) = h.length + bytes_in held

-- whether a file of this name is held
abbrev pub is_held : Held → List ℕ → Bool
is_held held file = list_any (bytes_eq file) (files_in held)

-- ---- edits

-- with a file: in the place of the one that has its name, and else last
abbrev pub with_file : Held → HeldFile → Held
with_file [] new = new ∷ []
with_file (h ∷ held) new = cond (bytes_eq new.file h.file) (new ∷ held) (h ∷ with_file held new)

-- without the file of this name
abbrev pub without : Held → List ℕ → Held
without [] file = []
without (h ∷ held) file = cond (bytes_eq file h.file) held (h ∷ without held file)

-- The file is new, and as many are held as may be.
abbrev pub IsOneTooMany : Held → (file : List ℕ) → Type 0
IsOneTooMany held file = (is_held held file ≡ false) × (length held ≡ most_files)

-- With a text of so many bytes in the file, all texts would have too many together.
abbrev pub IsTooLong : Held → (file : List ℕ) → (bytes : ℕ) → Type 0
IsTooLong held file bytes = MOST_BYTES < bytes_in (without held file) + bytes

-- A text of so many bytes may be held in the file.
pub record MayHold (held : Held) (file : List ℕ) (bytes : ℕ) : Type 0 where
  pub few : IsOneTooMany held file → ⊥
  pub short : IsTooLong held file bytes → ⊥

-- Why it isn't held. That there are too many files is found first.
abbrev pub IsPutFault : Held → (file : List ℕ) → (bytes : ℕ) → PutFault → Type 0
IsPutFault held file bytes TooMany = IsOneTooMany held file
IsPutFault held file bytes TooLong = (IsOneTooMany held file → ⊥) × IsTooLong held file bytes
IsPutFault held file bytes Memory = Unit {0}

-- ---- questions

-- The names of the modules that are held differ.
abbrev pub HoldsOwnNames : Held → Type 0
HoldsOwnNames held = HaveOwnNames (trees (sources_in held))

-- The reports on what is held: those of the written analysis from scratch, which begins with no table. Nothing that was held or asked
-- before is spoken of.
pub record AreReportsOn (held : Held) (reports : List (List ℕ)) : Type 0 where
  pub table : List Entry
  pub written : IsWritten [] (sources_in held) reports table
