-- What is promised of a run of the program, by its status.
use Rattle.std.specs.Prelude.{◌≡◌, ◌↔◌, ℕ, List, Option, IfSome}
use Rattle.da_shelf.specs.Told.{Files}
use Rattle.analysis_sources.specs.declared.refusals.Device.TheVariants.{Read, Replace, Write}
use Rattle.analysis_answers.specs.declared.run_status.RunStatus.{RunStatus}
use Rattle.analysis_answers.specs.declared.run_status.RunStatus.TheVariants.{Done, DeviceFault, Memory, Usage}
use Rattle.analysis_answers.specs.FileRuns.{IsAnswer}
use Rattle.table_verify_command.specs.Causes.{NamesGood, StoresCertificate}
use Rattle.table_verify_command.specs.Outcome.{Answers, FailsToRead, FailsToReplace, FailsToWrite, IsPossible, StoresNothing}
use Rattle.table_verify_command.specs.Words.{IsCheck, IsMake, IsNoCommand}

-- The words ask for a check.
abbrev pub AsksForCheck : List (List ℕ) → Type 0
AsksForCheck words = (table : List ℕ) × (cert : List ℕ) × (files : List (List ℕ)) × IsCheck words table cert files

-- The words ask for a certificate.
abbrev pub AsksForMake : List (List ℕ) → Type 0
AsksForMake words = (cert : List ℕ) × (files : List (List ℕ)) × IsMake words cert files

-- The run on these words ended with this status: what `table_verify` promises of the status, of what was written and of what is held. When
-- each refusal comes follows from `outcome`.
pub record IsRun (words : List (List ℕ)) (held after : Option Files) (reads reads_now replaces replaces_now sink_before sink_now : ℕ) (status : RunStatus) (written_before written_now : Option (List ℕ)) : Type 0 where
  pub outcome : IsAnswer status → IfSome held (λ h. Answers words h after status written_before written_now)
  pub sound : AsksForCheck words → status ≡ Done → IfSome held (λ h. NamesGood words h)
  pub stores : AsksForMake words → status ≡ Done → IfSome held (λ h. StoresCertificate words h after)
  pub usage : IsAnswer status → (status ≡ Usage) ↔ IsNoCommand words
  pub read : (word : ℕ) → status ≡ DeviceFault (Read word) → FailsToRead words held word reads reads_now written_before written_now
  pub replace : (word : ℕ) → status ≡ DeviceFault (Replace word) → FailsToReplace words held after word replaces replaces_now written_before written_now
  pub write : status ≡ DeviceFault Write → FailsToWrite words held after reads reads_now replaces replaces_now sink_before sink_now written_before written_now
  pub memory : status ≡ Memory → written_now ≡ written_before
  pub possible : IsPossible words status
  pub held_so : StoresNothing status → after ≡ held
