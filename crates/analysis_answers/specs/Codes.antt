-- The code of each status.
use Rattle.std.specs.Prelude.{ℕ}
use Rattle.analysis_answers.specs.declared.run_status.RunStatus.{RunStatus}
use Rattle.analysis_answers.specs.declared.run_status.RunStatus.TheVariants.{Done, Refused, TableFault, DeviceFault, Memory, Usage}

abbrev pub run_code : RunStatus → ℕ
run_code Done = 0
run_code (Refused refusal) = 1
run_code (TableFault number) = 3
run_code (DeviceFault device) = 4
run_code Memory = 5
run_code Usage = 6
