-- How a run ends, by each of its steps.
use Rattle.std.specs.Prelude.{◌≡◌, ◌⊎◌, ℕ, List, Option}
use Rattle.da_shelf.specs.Counts.{Rose}
use Rattle.da_shelf.specs.Told.{Files, appended, IsPrefixAppended}
use Rattle.analysis_sources.specs.declared.refusals.Device.TheVariants.{Read, Write}
use Rattle.analysis_answers.specs.declared.run_status.RunStatus.{RunStatus}
use Rattle.analysis_answers.specs.declared.run_status.RunStatus.TheVariants.{DeviceFault, Memory, Usage}
use Rattle.analysis_answers.specs.Lines.{read_fault_line}
use Rattle.dia_session_command.specs.declared.session.ScriptRead.{ScriptRead}
use Rattle.dia_session_command.specs.declared.session.ScriptRead.TheVariants.{Reads, Says}
use Rattle.dia_session_command.specs.Script.{Request, IsScript}
use Rattle.dia_session_command.specs.Session.{ReadsScript, RefusesScript}
use Rattle.dia_session_command.specs.Words.{IsNoCommand, NamesScript, usage_line}
use Rattle.dia_session_command.specs.steps.Carrying.{IsCarried}

-- This answer was written, whole, and its status is the run's; or the sink failed.
pub data IsSaid (answer : RunStatus) (output : List ℕ) (sink_before sink_now : ℕ) (written written_now : Option (List ℕ)) (status : RunStatus) : Type 0 where
  whole : status ≡ answer → written_now ≡ appended written output → IsSaid answer output sink_before sink_now written written_now status
  broken : status ≡ DeviceFault Write → Rose sink_before sink_now → IsPrefixAppended written written_now output
      → IsSaid answer output sink_before sink_now written written_now status

-- The script is read; or it is refused, or the shelf failed to read it.
abbrev pub IsScriptRead : (told : Option Files) (script : List ℕ) (word reads reads_now : ℕ) → ScriptRead → Type 0
IsScriptRead told script word reads reads_now (Reads bytes) = ReadsScript told script bytes.items
IsScriptRead told script word reads reads_now (Says answer) =
    RefusesScript told script word answer.status answer.output
    ⊎ ((answer.status ≡ DeviceFault (Read word)) × (answer.output ≡ read_fault_line script) × Rose reads reads_now)

-- How a run of a script, the word at this position, ends.
pub data EndsScript (told : Option Files) (script : List ℕ) (word reads reads_now sink_before sink_now : ℕ) (written written_now : Option (List ℕ)) (status : RunStatus) : Type 0 where
  out_of_memory : status ≡ Memory → written_now ≡ written → EndsScript told script word reads reads_now sink_before sink_now written written_now status
  refuses : (answer : RunStatus) (output : List ℕ) → RefusesScript told script word answer output → IsSaid answer output sink_before sink_now written written_now status
      → EndsScript told script word reads reads_now sink_before sink_now written written_now status
  unread : Rose reads reads_now → IsSaid (DeviceFault (Read word)) (read_fault_line script) sink_before sink_now written written_now status
      → EndsScript told script word reads reads_now sink_before sink_now written written_now status
  carries : (bytes : List ℕ) (requests : List Request) → ReadsScript told script bytes → IsScript bytes requests
      → IsCarried told requests reads reads_now sink_before sink_now written written_now status
      → EndsScript told script word reads reads_now sink_before sink_now written written_now status

-- How a run on these words ends.
pub data Ends (words : List (List ℕ)) (told : Option Files) (reads reads_now sink_before sink_now : ℕ) (written written_now : Option (List ℕ)) (status : RunStatus) : Type 0 where
  no_memory : status ≡ Memory → written_now ≡ written → Ends words told reads reads_now sink_before sink_now written written_now status
  not_asked : IsNoCommand words → IsSaid Usage usage_line sink_before sink_now written written_now status
      → Ends words told reads reads_now sink_before sink_now written written_now status
  of_script : (script : List ℕ) (word : ℕ) → NamesScript words script word → EndsScript told script word reads reads_now sink_before sink_now written written_now status
      → Ends words told reads reads_now sink_before sink_now written written_now status
