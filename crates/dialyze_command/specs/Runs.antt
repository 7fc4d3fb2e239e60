-- What is promised of a run of the program, by its status.
use Rattle.std.specs.Prelude.{◌≡◌, ◌↔◌, ℕ, List, Option, IfSome}
use Rattle.da_shelf.specs.Told.{Files}
use Rattle.analysis_sources.specs.declared.refusals.Device.TheVariants.{Read, Replace, Write}
use Rattle.dialyze_command.specs.declared.status.Status.{Status}
use Rattle.dialyze_command.specs.declared.status.Status.TheVariants.{DeviceFault, Memory, Usage}
use Rattle.dialyze_command.specs.Making.{PutsFirst}
use Rattle.dialyze_command.specs.Words.{AsksForCheck, IsMake, IsNoCommand, IsNoMake}
use Rattle.dialyze_command.specs.Outcome.{Answers, FailsToRead, FailsToReplace, FailsToWrite, IsAnswer, IsPassed, IsPossible, StoresNothing}
use Rattle.dialyze_command.specs.Laws.{WritesFromScratch, WritesNothingFalse}

-- The run on these words ended with this status: what `dialyze` promises of the status, of what was written and of what is held. When each
-- answer of the analysis comes follows from `outcome`.
pub record IsRun (words : List (List ℕ)) (held after : Option Files) (reads reads_now replaces replaces_now : ℕ) (sink_before sink_now : ℕ) (status : Status) (written_before written_now : Option (List ℕ)) : Type 0 where
  pub outcome : IsAnswer status → IfSome held (λ h. Answers words h after status written_before written_now)
  pub kept : AsksForCheck words → IsPassed status → IfSome held (λ h. WritesFromScratch words h after written_before written_now)
  pub sound : AsksForCheck words → IsPassed status → IfSome held (λ h. WritesNothingFalse words h after written_before written_now)
  pub usage : IsAnswer status → (status ≡ Usage) ↔ IsNoCommand words
  pub read : (word : ℕ) → status ≡ DeviceFault (Read word) → FailsToRead words held word reads reads_now written_before written_now
  pub replace : (word : ℕ) → status ≡ DeviceFault (Replace word) → FailsToReplace words held after word replaces replaces_now written_before written_now
  pub write : status ≡ DeviceFault Write → FailsToWrite words held after reads reads_now replaces replaces_now sink_before sink_now written_before written_now
  pub memory : status ≡ Memory → written_now ≡ written_before
  pub unfinished : (count : ℕ) → IsMake words count → status ≡ Memory → PutsFirst count held after
  pub possible : IsPossible words status
  pub held_so : IsNoMake words → StoresNothing status → after ≡ held
