-- The faults of tables are told by their numbers.
use Rattle.std.proofs.Common.{◌≡◌, ℕ, ◌≤◌, refl, sym, ap, ◌∙◌, arith}
use Rattle.std.specs.Prelude.{if◌then◌else◌, nat_eq}
use Rattle.table_file.specs.declared.faults.TableFault.{TableFault as FaultOfTable}
use Rattle.table_file.specs.declared.faults.TableFault.TheVariants as t
use Rattle.analysis_answers.specs.Lines.{table_fault_number}

abbrev table_fault_by : ℕ → FaultOfTable
table_fault_by n =
    if nat_eq n 18 then t.NotATable
    else if nat_eq n 19 then t.Version
    else if nat_eq n 20 then t.Torn
    else if nat_eq n 21 then t.Order
    else if nat_eq n 22 then t.BadEntry
    else if nat_eq n 23 then t.Rest
    else t.Memory

table_told : (fault : FaultOfTable) → table_fault_by (table_fault_number fault) ≡ fault
table_told t.NotATable = refl
table_told t.Version = refl
table_told t.Torn = refl
table_told t.Order = refl
table_told t.BadEntry = refl
table_told t.Rest = refl
table_told t.Memory = refl

pub one_table_fault : (f g : FaultOfTable) → table_fault_number f ≡ table_fault_number g → f ≡ g
one_table_fault f g e = sym (table_told f) ∙ ap table_fault_by e ∙ table_told g

pub table_number : (fault : FaultOfTable) → (fault ≡ t.Memory → ⊥) → (18 ≤ table_fault_number fault) × (table_fault_number fault ≤ 23)
table_number t.NotATable some = (omega arith, omega arith)
table_number t.Version some = (omega arith, omega arith)
table_number t.Torn some = (omega arith, omega arith)
table_number t.Order some = (omega arith, omega arith)
table_number t.BadEntry some = (omega arith, omega arith)
table_number t.Rest some = (omega arith, omega arith)
table_number t.Memory some = absurd (some refl)
