-- What a run over files is to answer, where they are read and where they aren't: each way out.
use Rattle.std.proofs.Common.{◌≡◌, ℕ, List, get_or, Option, ap, ◌∙◌, subst, arith}
use Rattle.std.specs.Borrow.{Bor}
use Rattle.da_shelf.specs.Told.{Files}
use Rattle.analysis_sources.specs.declared.refusals.Device.TheVariants.{Read}
use Rattle.analysis_sources.specs.declared.refusals.SourceFault.{SourceFault}
use Rattle.analysis_sources.specs.declared.reading.ReadFault.TheVariants as read
use Rattle.analysis_sources.specs.Reading.{RefusedAt, IsReached, Fails}
use Rattle.analysis_sources.specs.Refusals.{refusal_line}
use Rattle.analysis_sources.specs.Words.{texts}
use Rattle.analysis_answers.specs.declared.run_status.RunStatus.{RunStatus}
use Rattle.analysis_answers.specs.declared.run_status.RunStatus.TheVariants.{DeviceFault}
use Rattle.analysis_answers.specs.Lines.{read_fault_line}
use Rattle.analysis_answers.specs.FileRuns.{refused, Stops, declining, failing, file_refused}
use Rattle.analysis_answers.specs.Words.{NamesFiles}
use Rattle.analysis_answers.proofs.FileWords.{failed_word, refused_within}
use Rattle.analysis_answers.proofs.Texts.{texts_at}

module _ (words : List (Bor (List ℕ))) (told : Option Files) (rb rn : ℕ) where
  refused_here : (word : ℕ) (fault : SourceFault) → Fails told (texts words) 0 rb rn (read.Refused word fault) → RefusedAt told (texts words) word fault
  refused_here word fault h = let same : h.0 ≡ word = omega (arith, h.1) in subst (λ at. RefusedAt told (texts words) at fault) same h.2

  pub refused_stop : (usage_line : List ℕ) → NamesFiles (texts words) → (word v : ℕ) (fault f : SourceFault) (d : Bor (List ℕ)) (status : RunStatus) (output : List ℕ)
      → Fails told (texts words) 0 rb rn (read.Refused word fault)
      → v ≡ word → f ≡ fault → status ≡ refused v f → output ≡ refusal_line (get_or words v d).now f → Stops usage_line (texts words) told rb rn status output
  refused_stop usage_line named word v fault f d status output h is same s o =
      declining (file_refused word (get_or words word d).now fault
      (s ∙ ap (λ w. refused w f) is ∙ ap (refused word) same)
      (o ∙ ap (λ w. refusal_line (get_or words w d).now f) is ∙ ap (refusal_line (get_or words word d).now) same)
      named (texts_at words word d (refused_within words 0 told rb rn word fault h)) (refused_here word fault h))

  pub failed_stop : (usage_line : List ℕ) → NamesFiles (texts words) → (word v : ℕ) (d : Bor (List ℕ)) (status : RunStatus) (output : List ℕ) → Fails told (texts words) 0 rb rn (read.Failed word) → v ≡ word
      → status ≡ DeviceFault (Read v) → output ≡ read_fault_line (get_or words v d).now → Stops usage_line (texts words) told rb rn status output
  failed_stop usage_line named word v d status output h is s o =
      let same : h.0 ≡ word = omega (arith, h.1) in
      let reached = subst (λ at. IsReached told (texts words) at h.2.0 h.2.1) same h.2.2 in
      failing word h.2.0
      (s ∙ ap (λ w. DeviceFault (Read w)) is)
      (o ∙ ap (λ w. read_fault_line (get_or words w d).now) is ∙ ap read_fault_line (failed_word words 0 told rb rn word d h))
      (record { named = named; before = h.2.1; reached = reached }) h.3
