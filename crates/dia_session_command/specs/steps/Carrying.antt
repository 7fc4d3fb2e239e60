-- What the carrying out of lines answers.
use Rattle.std.specs.Prelude.{◌≡◌, ℕ, suc, true, false, List, [], ◌∷◌, ◌++◌, length, Option}
use Rattle.da_shelf.specs.Counts.{Rose}
use Rattle.da_shelf.specs.Told.{Files, appended, IsPrefixAppended}
use Rattle.analysis_sources.specs.declared.refusals.Device.TheVariants.{Read, Write}
use Rattle.analysis_answers.specs.declared.run_status.RunStatus.{RunStatus}
use Rattle.analysis_answers.specs.declared.run_status.RunStatus.TheVariants.{Done, DeviceFault}
use Rattle.analysis_answers.specs.declared.run_status.RunStatus.TheVariants as s
use Rattle.analysis_answers.specs.Lines.{read_fault_line}
use Rattle.dia_session_engine.specs.Held.{Held}
use Rattle.dia_session_command.specs.declared.carrying.LineAnswer.{LineAnswer}
use Rattle.dia_session_command.specs.declared.carrying.SessionFault.{SessionFault}
use Rattle.dia_session_command.specs.declared.carrying.SessionFault.TheVariants.{Memory, Unread, Unwritten}
use Rattle.dia_session_command.specs.Script.{Request}
use Rattle.dia_session_command.specs.Script.Request.{to_replace}
use Rattle.dia_session_command.specs.Session.{Gives, GiveAll}

-- ---- one line

-- The answer of a line: what its request gives; or the line of a file that the shelf failed to read, which it counted.
pub data IsLineAnswer (told : Option Files) (before : Held) (r : Request) (reads reads_now : ℕ) (after : Held) (answer : LineAnswer) : Type 0 where
  gives : answer.unread ≡ false → Gives told before r answer.output after → IsLineAnswer told before r reads reads_now after answer
  fails : (file : List ℕ) → answer.unread ≡ true → r ≡ to_replace file → answer.output ≡ read_fault_line file → Rose reads reads_now
      → IsLineAnswer told before r reads reads_now after answer

-- The line was carried out, and what it gives was written.
pub record IsCarriedOut (told : Option Files) (before : Held) (r : Request) (after : Held) (written written_now : Option (List ℕ)) : Type 0 where
  pub output : List ℕ
  pub gives : Gives told before r output after
  pub written_so : written_now ≡ appended written output

-- What was to be written of a line.
pub data MeansLine (told : Option Files) (before : Held) (r : Request) (reads reads_now : ℕ) (output : List ℕ) : Type 0 where
  of_line : (after : Held) → Gives told before r output after → MeansLine told before r reads reads_now output
  of_fault : (file : List ℕ) → r ≡ to_replace file → output ≡ read_fault_line file → Rose reads reads_now → MeansLine told before r reads reads_now output

-- Why a session ends at a line, and what was written of it.
abbrev pub LineFails : (told : Option Files) (before : Held) (r : Request) (reads reads_now sink_before sink_now : ℕ) (written written_now : Option (List ℕ)) → SessionFault → Type 0
LineFails told before r reads reads_now sink_before sink_now written written_now Memory = written_now ≡ written
LineFails told before r reads reads_now sink_before sink_now written written_now Unread =
    (file : List ℕ) × (r ≡ to_replace file) × Rose reads reads_now × (written_now ≡ appended written (read_fault_line file))
LineFails told before r reads reads_now sink_before sink_now written written_now Unwritten =
    (output : List ℕ) × MeansLine told before r reads reads_now output × Rose sink_before sink_now × IsPrefixAppended written written_now output

-- ---- all lines

-- the status of a session that ends at the line of this number
abbrev pub status_at : (number : ℕ) → SessionFault → RunStatus
status_at number Memory = s.Memory
status_at number Unread = DeviceFault (Read number)
status_at number Unwritten = DeviceFault Write

-- The session ends at a line, and all before it were carried out.
pub record EndsAt (told : Option Files) (requests : List Request) (reads reads_now sink_before sink_now : ℕ) (written written_now : Option (List ℕ)) (status : RunStatus) : Type 0 where
  pub first : List Request
  pub request : Request
  pub rest : List Request
  pub split : requests ≡ first ++ request ∷ rest
  pub output : List ℕ
  pub held : Held
  pub give : GiveAll told [] first output held
  pub fault : SessionFault
  pub status_so : status ≡ status_at (suc (length first)) fault
  pub is : LineFails told held request reads reads_now sink_before sink_now (appended written output) written_now fault

-- The status with which the carrying out of requests ends, and what was written.
pub data IsCarried (told : Option Files) (requests : List Request) (reads reads_now sink_before sink_now : ℕ) (written written_now : Option (List ℕ)) (status : RunStatus) : Type 0 where
  done : status ≡ Done → (output : List ℕ) (after : Held) → GiveAll told [] requests output after → written_now ≡ appended written output
      → IsCarried told requests reads reads_now sink_before sink_now written written_now status
  ends : EndsAt told requests reads reads_now sink_before sink_now written written_now status
      → IsCarried told requests reads reads_now sink_before sink_now written written_now status
