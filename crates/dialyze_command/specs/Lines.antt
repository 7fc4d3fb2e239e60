-- The statuses of refusals, and the lines that the output has for what isn't a report.
use Rattle.std.specs.Prelude.{ℕ, List, codes}
use Rattle.table_file.specs.declared.faults.TableFault.{TableFault as FaultOfTable}
use Rattle.analysis_sources.specs.declared.refusals.SourceFault.{SourceFault}
use Rattle.analysis_sources.specs.declared.refusals.RefusalName.TheVariants as r
use Rattle.analysis_sources.specs.Refusals.{line, refusal_at}
use Rattle.analysis_sources.specs.Sources.{of_the_whole}
use Rattle.analysis_answers.specs.Lines.{too_many_refusal, duplicate_refusal}
pub use Rattle.analysis_answers.specs.Lines.{too_many_line, duplicate_line, read_fault_line, replace_fault_line, table_fault_number, table_fault_line}
use Rattle.dialyze_command.specs.declared.status.Status.{Status}
use Rattle.dialyze_command.specs.declared.status.Status.TheVariants.{Refused, TableFault}

abbrev pub usage_line : List ℕ
usage_line = line (codes "usage: dialyze check [--plt T] [--out T2] [--workers N] FILE.. | make N")

-- the file or table at this position among the words is refused
abbrev pub refused : (word : ℕ) → SourceFault → Status
refused word fault = Refused (refusal_at word fault)

-- a table that is to be written has a count or a length that doesn't fit
abbrev pub too_long : SourceFault
too_long = of_the_whole r.TooLong

-- too many files are named
abbrev pub too_many : Status
too_many = Refused too_many_refusal

-- the file at this position among the words has a module of the name that the module of the other has
abbrev pub duplicate : (word other : ℕ) → Status
duplicate word other = Refused (duplicate_refusal word other)

-- the bytes that are read as a table have this fault
abbrev pub faulty_table : FaultOfTable → Status
faulty_table fault = TableFault (table_fault_number fault)
