-- What is promised of a run of the program, by its status.
use Rattle.std.specs.Prelude.{◌≡◌, ℕ, List, Option, IfSome}
use Rattle.da_shelf.specs.Told.{Files}
use Rattle.analysis_answers.specs.declared.run_status.RunStatus.{RunStatus}
use Rattle.analysis_answers.specs.declared.run_status.RunStatus.TheVariants.{Done}
use Rattle.analysis_answers.specs.FileRuns.{IsRunOverFiles}
use Rattle.fun_flow_command.specs.Listed.{Lists, usage_line, WritesTruth}

-- The run on these words ended with this status: what `fun_flow` promises of the status and of what was written.
pub record IsRun (words : List (List ℕ)) (held after : Option Files) (reads reads_now sink_before sink_now : ℕ) (status : RunStatus) (written_before written_now : Option (List ℕ)) : Type 0 where
  pub over_files : IsRunOverFiles usage_line Lists words held after reads reads_now sink_before sink_now status written_before written_now
  pub sound : status ≡ Done → IfSome held (λ h. WritesTruth words h written_before written_now)
