-- What is promised of a check that passed: of what it wrote, and of the new table.
use Rattle.std.specs.Prelude.{◌≡◌, ℕ, List, [], Contains, length, map, take, Option, Some, None}
use Rattle.std.specs.List.{concat}
use Rattle.type_kinds.specs.declared.atom.Atom.{Atom}
use Rattle.da_shelf.specs.Told.{Files, appended}
use Rattle.table_file.specs.declared.tables.Table.{Table}
use Rattle.table_keep.specs.Model.{Source, Entry, trees, entries_so}
use Rattle.table_keep.specs.Kept.{kept}
use Rattle.sound_laws_flow.specs.Claims.{NothingFalse}
use Rattle.module_flow_frame.specs.Sites.{AreTiedLines}
use Rattle.sound_laws_kept.specs.Laws.{DigestsTell, AreFound}
use Rattle.sound_laws_kept.specs.Solving.{AreSources, IsWritten}
use Rattle.sound_laws_kept.specs.Written.{with_kept}
use Rattle.dialyze_command.specs.declared.words.Command.{Command}
use Rattle.dialyze_command.specs.Outcome.{Analyses, Stores}

-- A check that passed: its written analysis, whose reports were written, and whose new table is held, if one was asked for.
pub record Passed (words : List (List ℕ)) (held : Files) (after : Option Files) (written_before written_now : Option (List ℕ)) : Type 0 where
  pub command : Command
  pub reports : List (List ℕ)
  pub new : Table
  pub analyses : Analyses words (Some held) command reports new
  pub written : written_now ≡ appended written_before (concat reports)
  pub stored : Stores words command new (Some held) after

-- The table that the check began with is that of these sources, as this program writes it: it is what an analysis of them from the empty
-- table gives. And among them and what is passed, two texts of one module have different digests.
pub record BeganWith (Src M : List Source) (T : List Entry) : Type 0 where
  pub sources : AreSources Src
  pub reports : List (List ℕ)
  pub table : IsWritten [] Src reports T
  pub digests : DigestsTell Src M

-- what is passed, and the sources of kept entries that aren't passed
abbrev pub whole_of : {T : List Entry} {M : List Source} {reports : List (List ℕ)} {new : List Entry} → IsWritten T M reports new → List Source → List Source
whole_of {T} {M} w Src = with_kept (kept w.known T M w.groups) M Src

-- There is an analysis of the program from the empty table, whose new table is this one and whose first reports are these: those of the
-- program's first sources, which are passed. And it is so with every such analysis.
pub record IsFromScratch (program M : List Source) (reports : List (List ℕ)) (new : List Entry) : Type 0 where
  pub all : List (List ℕ)
  pub scratch : IsWritten [] program all new
  pub reports_so : reports ≡ take (length M) all
  pub only : (others : List (List ℕ)) (other : List Entry) → IsWritten [] program others other → (new ≡ other) × (reports ≡ take (length M) others)

-- The reports are the lines of what is found in each module by what is known of the functions of the whole program; nothing that is
-- found is false of a run of it, but for unknown functions, which say nothing of runs; and each line is tied to a place of the module's
-- text, with its number, its kind and its names.
pub record NothingReportedFalse (program M : List Source) (reports : List (List ℕ)) : Type 0 where
  pub lines : Atom → List ℕ
  pub reports_so : reports ≡ map (λ s. lines s.tree.name) M
  pub found : AreFound program M lines
  pub sound : (s : Source) → Contains M s → NothingFalse (trees program) found.known s.tree
  pub tied : (s : Source) → Contains M s → AreTiedLines s.tree (lines s.tree.name)

-- The check wrote what an analysis from scratch gives, of what is passed and of the kept sources: where its table was that of some
-- sources, for these.
pub record WritesFromScratch (words : List (List ℕ)) (held : Files) (after : Option Files) (written_before written_now : Option (List ℕ)) : Type 0 where
  pub passed : Passed words held after written_before written_now
  pub kept_so : (Src : List Source) → BeganWith Src passed.analyses.sources (entries_so passed.analyses.begins.table)
      → IsFromScratch (whole_of passed.analyses.written Src) passed.analyses.sources passed.reports (entries_so passed.new)

-- The check wrote nothing false: without a table to begin with, of a run of what is passed; and with the table of some sources,
-- of a run of that and of the kept sources.
pub record WritesNothingFalse (words : List (List ℕ)) (held : Files) (after : Option Files) (written_before written_now : Option (List ℕ)) : Type 0 where
  pub passed : Passed words held after written_before written_now
  pub alone : passed.command.plt ≡ None → NothingReportedFalse passed.analyses.sources passed.analyses.sources passed.reports
  pub together : (Src : List Source) → BeganWith Src passed.analyses.sources (entries_so passed.analyses.begins.table)
      → NothingReportedFalse (whole_of passed.analyses.written Src) passed.analyses.sources passed.reports
