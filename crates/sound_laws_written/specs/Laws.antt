-- There is a written analysis.
use Rattle.std.specs.Prelude.{◌≡◌, ℕ, List, Contains, length}
use Rattle.table_file.specs.declared.tables.Table.{Table}
use Rattle.table_keep.specs.Model.{Source, Entry, entries_so}
use Rattle.sound_laws_kept.specs.Solving.{AreSources, IsWritten}

-- Of accepted modules with distinct names, with any table, there are reports and a new table that are those of the written analysis.
abbrev pub SomeAnalysisLaw : Type 0
SomeAnalysisLaw = (T : List Entry) (M : List Source) → AreSources M → (reports : List (List ℕ)) × ((new : List Entry) × IsWritten T M reports new)

-- The digests have 32 bytes.
abbrev pub HaveDigests : List Source → Type 0
HaveDigests M = (s : Source) → Contains M s → length s.digest ≡ 32

-- And where the entries to begin with are those of a table that the program can hold, the new ones are too.
abbrev pub SomeTableLaw : Type 0
SomeTableLaw = (table : Table) (M : List Source) → AreSources M → HaveDigests M → (reports : List (List ℕ)) × ((new : Table) × IsWritten (entries_so table) M reports (entries_so new))
