-- What is promised of a run of the program, by its status.
use Rattle.std.specs.Prelude.{◌≡◌, ◌↔◌, ℕ, List, Option, IfSome}
use Rattle.da_shelf.specs.Told.{Files}
use Rattle.analysis_sources.specs.declared.refusals.Device.TheVariants.{Read, Write}
use Rattle.analysis_answers.specs.declared.run_status.RunStatus.{RunStatus}
use Rattle.analysis_answers.specs.declared.run_status.RunStatus.TheVariants.{DeviceFault, Memory, Usage}
use Rattle.analysis_answers.specs.FileRuns.{IsAnswer}
use Rattle.dia_session_command.specs.Causes.{IsPossible}
use Rattle.dia_session_command.specs.Session.{Answers, FailsToRead, FailsToWrite, StopsShort}
use Rattle.dia_session_command.specs.Words.{IsNoCommand}

-- The run on these words ended with this status: what `dia_session` promises of the status and of what was written. When each refusal
-- comes follows from `outcome`.
pub record IsRun (words : List (List ℕ)) (held after : Option Files) (reads reads_now sink_before sink_now : ℕ) (status : RunStatus) (written_before written_now : Option (List ℕ)) : Type 0 where
  pub outcome : IsAnswer status → IfSome held (λ h. Answers words h status written_before written_now)
  pub usage : IsAnswer status → (status ≡ Usage) ↔ IsNoCommand words
  pub read : (number : ℕ) → status ≡ DeviceFault (Read number) → FailsToRead words held number reads reads_now written_before written_now
  pub write : status ≡ DeviceFault Write → FailsToWrite words held reads reads_now sink_before sink_now written_before written_now
  pub memory : status ≡ Memory → StopsShort words held written_before written_now
  pub possible : IsPossible words status
  pub held_so : after ≡ held
