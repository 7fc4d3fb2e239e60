-- The code of each status.
use Rattle.std.specs.Prelude.{ℕ}
use Rattle.dialyze_command.specs.declared.status.Status.{Status}
use Rattle.dialyze_command.specs.declared.status.Status.TheVariants.{Clean, Refused, Warnings, TableFault, DeviceFault, Memory, Usage}

abbrev pub code_of : Status → ℕ
code_of Clean = 0
code_of (Refused refusal) = 1
code_of Warnings = 2
code_of (TableFault number) = 3
code_of (DeviceFault device) = 4
code_of Memory = 5
code_of Usage = 6
