-- What a status tells.
use Rattle.std.proofs.Common.{◌≡◌, ◌≢◌, ℕ, ◌<◌, sym, ◌∙◌, ap, arith}
use Rattle.table_file.specs.declared.faults.TableFault.{TableFault as FaultOfTable}
use Rattle.analysis_sources.specs.declared.refusals.RefusalName.{RefusalName}
use Rattle.analysis_sources.specs.declared.refusals.SourceFault.{SourceFault}
use Rattle.analysis_sources.specs.Refusals.{refusal_number, missing}
use Rattle.analysis_answers.proofs.FileRefusals.{by_number, tells}
use Rattle.analysis_answers.proofs.TableFaults as faults
use Rattle.dialyze_command.specs.declared.status.Status.{Status}
use Rattle.dialyze_command.specs.declared.status.Status.TheVariants.{Clean, Refused, Warnings, TableFault, DeviceFault, Memory, Usage}
use Rattle.dialyze_command.specs.Lines.{refused, faulty_table}

-- ---- a refusal's status tells its name and its line

abbrev pub told_by : Status → SourceFault
told_by (Refused refusal) = record { name = by_number refusal.number; line = refusal.line }
told_by _ = missing

abbrev pub number_by : Status → ℕ
number_by (Refused refusal) = refusal.number
number_by _ = 0

abbrev pub word_by : Status → ℕ
word_by (Refused refusal) = refusal.word
word_by _ = 0

abbrev pub other_by : Status → ℕ
other_by (Refused refusal) = refusal.other
other_by _ = 0

pub told_by_refused : (w : ℕ) (f : SourceFault) → told_by (refused w f) ≡ f
told_by_refused w f = λ i. record { name = (tells f.name).known i; line = f.line }

pub one_fault_of : (v w : ℕ) (f g : SourceFault) → refused v f ≡ refused w g → f ≡ g
one_fault_of v w f g e = sym (told_by_refused v f) ∙ ap told_by e ∙ told_by_refused w g

pub one_word : (v w : ℕ) (f g : SourceFault) → refused v f ≡ refused w g → v ≡ w
one_word v w f g e = ap word_by e

-- ---- a table's fault is told by its number

abbrev pub table_number_by : Status → ℕ
table_number_by (TableFault number) = number
table_number_by _ = 0

pub one_table_fault : (f g : FaultOfTable) → faulty_table f ≡ faulty_table g → f ≡ g
one_table_fault f g e = faults.one_table_fault f g (ap table_number_by e)

-- ---- statuses are told apart

-- a number for each kind of status, and for a refusal its own
abbrev pub mark : Status → ℕ
mark Clean = 100
mark (Refused refusal) = refusal.number
mark Warnings = 101
mark (TableFault number) = 102
mark (DeviceFault device) = 103
mark Memory = 104
mark Usage = 105

-- a source is refused by none of the numbers of the other refusals
pub mark_of : (name : RefusalName) → (refusal_number name < 27) × (refusal_number name ≢ 14) × (refusal_number name ≢ 24)
mark_of name = let told = tells name in (omega (arith, told.low), told.of_one, told.of_some)
