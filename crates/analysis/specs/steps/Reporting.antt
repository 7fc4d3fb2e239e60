-- Reports that workers made, and those that are kept at their modules' positions.
use Rattle.std.specs.Prelude.{◌≡◌, ℕ, ◌<◌, true, List, Option, Some, length, slice_get}
use Rattle.type_kinds.specs.declared.atom.Atom.{Atom}
use Rattle.comp_rounds.specs.Rounds.{Callees}
use Rattle.module_flow.specs.Flow.{findings}
use Rattle.warn_list.specs.Lines.{AreLines}
use Rattle.table_keep.specs.Groups.{has}
use Rattle.table_keep.specs.Model.{Source}
use Rattle.analysis.specs.Keeping.{IsClosedOn}
use Rattle.analysis.specs.steps.Deciding.{IsReported}
use Rattle.analysis.specs.declared.reporting.ModuleReport.{ModuleReport}

-- these are the lines of the report on a source's module
abbrev pub IsReportOn : Callees → Source → List ℕ → Type 0
IsReportOn known s text = AreLines s.tree.name (findings known s.tree) text

-- a report that a worker made
abbrev pub IsMade : Callees → List Source → ModuleReport → Type 0
IsMade known M made = (made.at < length M) × ((s : Source) → slice_get M made.at ≡ Some s → IsReportOn known s made.lines)

-- each report that is kept is that on the module at its position
abbrev pub AreKept : Callees → List Source → List (Option (List ℕ)) → Type 0
AreKept known M kept = (k : ℕ) (s : Source) (text : List ℕ) → slice_get kept k ≡ Some (Some text) → slice_get M k ≡ Some s → IsReportOn known s text

-- of each module of these names only the functions that it defines are known
abbrev pub AreClosed : Callees → (todo : List Atom) → List Source → Type 0
AreClosed known todo M = (i : ℕ) (s : Source) → slice_get M i ≡ Some s → has todo s.tree.name ≡ true → IsClosedOn known s.tree

-- the lines of the report on each module of these names stand at its position
abbrev pub AreReportsAt : Callees → (todo : List Atom) → List Source → (lines : List (List ℕ)) → Type 0
AreReportsAt known todo M lines = (i : ℕ) (s : Source) → slice_get M i ≡ Some s → has todo s.tree.name ≡ true → IsReported known s.tree (slice_get lines i)
