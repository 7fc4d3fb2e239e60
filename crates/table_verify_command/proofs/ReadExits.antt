-- A table or files are read: each way out.
use Rattle.std.proofs.Common.{◌≡◌, ℕ, ◌+◌, List, drop, get_or, Option, Result, Ok, Err, ap, ◌∙◌, subst}
use Rattle.std.specs.Prelude.{IfOk}
use Rattle.std.specs.Borrow.{Bor}
use Rattle.type_kinds.specs.declared.memory.Memory.{Memory}
use Rattle.da_shelf.specs.Told.{Files, Holds}
use Rattle.analysis_sources.specs.declared.reading.ReadFault.TheVariants as read
use Rattle.analysis_sources.specs.declared.refusals.Device.TheVariants.{Read}
use Rattle.analysis_sources.specs.declared.refusals.SourceFault.{SourceFault}
use Rattle.analysis_sources.specs.Reading.{Fails}
use Rattle.analysis_sources.specs.Refusals.{refusal_line}
use Rattle.analysis_sources.specs.Words.{texts}
use Rattle.analysis_answers.specs.declared.run_status.RunStatus.{RunStatus}
use Rattle.analysis_answers.specs.declared.run_status.RunStatus.TheVariants.{DeviceFault}
use Rattle.analysis_answers.specs.FileRuns.{refused}
use Rattle.analysis_answers.specs.Lines.{read_fault_line}
use Rattle.analysis_answers.specs.Tables.{Spells, IsFaultOf}
use Rattle.analysis_answers.proofs.FileWords.{failed_word, refused_name, refused_word}
use Rattle.table_verify_command.specs.declared.reading.TableRead.{TableRead}
use Rattle.table_verify_command.specs.declared.reading.TableRead.TheVariants.{Reads, Says}
use Rattle.table_verify_command.specs.steps.Reads.{IsOfBytes, IsReadAs, faulty, IsFileFault, refusing, failing_at}

-- ---- a table

pub bytes_read : (told : Option Files) (word : ℕ) (name bytes items : List ℕ) (rb rn : ℕ) (r : Result TableRead Memory) → items ≡ bytes → Holds told name bytes
    → IfOk r (λ b. IsOfBytes name items b) → IfOk r (λ b. IsReadAs told word name rb rn b)
bytes_read told word name bytes items rb rn (Ok (Reads table)) same held h = record { bytes = bytes; held_so = held; spells = subst (Spells table) same h }
bytes_read told word name bytes items rb rn (Ok (Says answer)) same held h = faulty bytes h.0 h.1 h.2 held (subst (λ b. IsFaultOf b h.0) same h.3)
bytes_read told word name bytes items rb rn (Err e) same held h = tt

-- ---- files

module _ (words : List (Bor (List ℕ))) (start : ℕ) (told : Option Files) (rb rn : ℕ) where
  abbrev files : List (List ℕ)
  files = drop start (texts words)

  -- the word and the fault as the code names them
  pub refused_file : (word v : ℕ) (fault f : SourceFault) (d : Bor (List ℕ)) (status : RunStatus) (output : List ℕ) → Fails told files start rb rn (read.Refused word fault) → v ≡ word → f ≡ fault → status ≡ refused v f
      → output ≡ refusal_line (get_or words v d).now f → IsFileFault told files start rb rn status output
  refused_file word v fault f d status output h is same s o =
      let file = refused_name h.2 in
      let called = refused_word words start told rb rn word fault d h in
      refusing h.0 file.0 fault
      (s ∙ ap (λ w. refused w f) (is ∙ h.1) ∙ ap (refused (start + h.0)) same)
      (o ∙ ap (λ w. refusal_line (get_or words w d).now f) is ∙ ap (λ n. refusal_line n f) called ∙ ap (refusal_line file.0) same)
      file.1 h.2

  pub failed_file : (word v : ℕ) (d : Bor (List ℕ)) (status : RunStatus) (output : List ℕ) → Fails told files start rb rn (read.Failed word) → v ≡ word → status ≡ DeviceFault (Read v)
      → output ≡ read_fault_line (get_or words v d).now → IsFileFault told files start rb rn status output
  failed_file word v d status output h is s o =
      failing_at h.0 h.2.1 h.2.0
      (s ∙ ap (λ w. DeviceFault (Read w)) (is ∙ h.1))
      (o ∙ ap (λ w. read_fault_line (get_or words w d).now) is ∙ ap read_fault_line (failed_word words start told rb rn word d h))
      h.2.2 h.3
