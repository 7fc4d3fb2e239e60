-- The refusals of words and of files together, and the lines that the output has for what isn't a report.
use Rattle.std.specs.Prelude.{ℕ, List, ◌++◌, codes}
use Rattle.std.specs.Fmt.{decimal}
use Rattle.table_file.specs.declared.faults.TableFault.{TableFault as FaultOfTable}
use Rattle.table_file.specs.declared.faults.TableFault.TheVariants as t
use Rattle.analysis_sources.specs.declared.refusals.Refusal.{Refusal}
use Rattle.analysis_sources.specs.Refusals.{line}

-- too many files are named
abbrev pub too_many_refusal : Refusal
too_many_refusal = record { number = 24; word = 0; line = 0; other = 0 }

abbrev pub too_many_line : List ℕ
too_many_line = line (codes "refused 24 TooMany")

-- the file at this position among the words has a module of the name that the module of the other has
abbrev pub duplicate_refusal : (word other : ℕ) → Refusal
duplicate_refusal word other = record { number = 14; word = word; line = 0; other = other }

-- FILE: refused 14 DuplicateModule with FILE1
abbrev pub duplicate_line : (file other : List ℕ) → List ℕ
duplicate_line file other = line (file ++ codes ": refused 14 DuplicateModule with " ++ other)

-- FILE: device fault read
abbrev pub read_fault_line : List ℕ → List ℕ
read_fault_line file = line (file ++ codes ": device fault read")

-- T2: device fault replace
abbrev pub replace_fault_line : List ℕ → List ℕ
replace_fault_line name = line (name ++ codes ": device fault replace")

-- A failed allocation is no fault of the bytes, and has no number.
abbrev pub table_fault_number : FaultOfTable → ℕ
table_fault_number t.NotATable = 18
table_fault_number t.Version = 19
table_fault_number t.Torn = 20
table_fault_number t.Order = 21
table_fault_number t.BadEntry = 22
table_fault_number t.Rest = 23
table_fault_number t.Memory = 0

abbrev pub table_fault_text : FaultOfTable → List ℕ
table_fault_text t.NotATable = codes "NotATable"
table_fault_text t.Version = codes "Version"
table_fault_text t.Torn = codes "Torn"
table_fault_text t.Order = codes "Order"
table_fault_text t.BadEntry = codes "BadEntry"
table_fault_text t.Rest = codes "Rest"
table_fault_text t.Memory = codes ""

-- T: table fault 20 Torn
abbrev pub table_fault_line : List ℕ → FaultOfTable → List ℕ
table_fault_line name fault =
    line (name ++ codes ": table fault " ++ decimal (table_fault_number fault) ++ codes " " ++ table_fault_text fault)
