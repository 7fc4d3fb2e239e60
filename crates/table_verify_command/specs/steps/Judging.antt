-- What is answered, or put onto the shelf, once all is read.
use Rattle.std.specs.Prelude.{◌≡◌, ℕ, ◌+◌, List, [], slice_get, Option, Some, false, true}
use Rattle.type_kinds.specs.declared.atom.Atom.{Atom}
use Rattle.core_scope.specs.Sets.{FirstDuplicate}
use Rattle.da_shelf.specs.Counts.{Rose}
use Rattle.da_shelf.specs.Told.{Files, replaced, IsOldOrNew}
use Rattle.table_file.specs.declared.tables.Table.{Table}
use Rattle.table_file.specs.Lengths.{is_short_table}
use Rattle.table_file.specs.Spelling.{table_bytes}
use Rattle.table_keep.specs.Model.{Source, Entry, trees, entries_so}
use Rattle.analysis_summaries.specs.Known.{module_names}
use Rattle.analysis_sources.specs.declared.refusals.Device.TheVariants.{Replace}
use Rattle.analysis_sources.specs.Refusals.{refusal_line}
use Rattle.analysis_answers.specs.declared.run_answer.RunAnswer.{RunAnswer}
use Rattle.analysis_answers.specs.declared.run_status.RunStatus.{RunStatus}
use Rattle.analysis_answers.specs.declared.run_status.RunStatus.TheVariants.{Done, DeviceFault}
use Rattle.analysis_answers.specs.FileRuns.{duplicate, refused}
use Rattle.analysis_answers.specs.Lines.{duplicate_line, replace_fault_line}
use Rattle.analysis_answers.specs.ReadFiles.{HaveOwnNames}
use Rattle.table_verify_laws.specs.Certificates.{IsCertificate}
use Rattle.table_verify_laws.specs.Rules.{IsFirstBroken, KeepsRules, TableRule}
use Rattle.table_verify_command.specs.declared.making.CertificatePlan.{CertificatePlan}
use Rattle.table_verify_command.specs.declared.making.CertificatePlan.TheVariants.{Puts, Says}
use Rattle.table_verify_command.specs.Lines.{accepted_line, rejected, rejected_line, too_long}

-- What is answered where two modules have one name. The first file is the word at the position `start`.
pub record SaysTwice (words : List (List ℕ)) (start : ℕ) (sources : List Source) (status : RunStatus) (output : List ℕ) : Type 0 where
  pub first : ℕ
  pub second : ℕ
  pub file : List ℕ
  pub other : List ℕ
  pub status_so : status ≡ duplicate (start + second) (start + first)
  pub output_so : output ≡ duplicate_line file other
  pub file_there : slice_get words (start + second) ≡ Some file
  pub other_there : slice_get words (start + first) ≡ Some other
  pub is : FirstDuplicate (module_names (trees sources)) first second

-- ---- a check

-- What a check answers where these are the table, the certificate and the sources.
pub data IsJudged (words : List (List ℕ)) (T C : List Entry) (sources : List Source) (status : RunStatus) (output : List ℕ) : Type 0 where
  accepting : status ≡ Done → output ≡ accepted_line → HaveOwnNames (trees sources) → KeepsRules T C sources → IsJudged words T C sources status output
  rejecting : (r : TableRule) (home : Atom) → status ≡ rejected r → output ≡ rejected_line r home → HaveOwnNames (trees sources)
      → IsFirstBroken T C sources r home → IsJudged words T C sources status output
  twice_named : SaysTwice words 3 sources status output → IsJudged words T C sources status output

-- ---- a make

-- The bytes of the certificate and the line for a shelf that doesn't take them under this name; or what is answered where a count or a
-- length doesn't fit.
abbrev pub IsSpelledAs : (name : List ℕ) → Table → CertificatePlan → Type 0
IsSpelledAs name cert (Puts bytes line) = (is_short_table cert ≡ true) × (bytes ≡ table_bytes cert) × (line ≡ replace_fault_line name)
IsSpelledAs name cert (Says answer) =
    (is_short_table cert ≡ false) × (answer.status ≡ refused 1 too_long) × (answer.output ≡ refusal_line name too_long)

-- What is to be done with the certificate of sources, for this name: it is spelled; or nothing is put, since two modules have one name.
pub data IsPlanned (words : List (List ℕ)) (sources : List Source) (name : List ℕ) (plan : CertificatePlan) : Type 0 where
  certifying : (cert : Table) → HaveOwnNames (trees sources) → IsCertificate sources (entries_so cert) → IsSpelledAs name cert plan
      → IsPlanned words sources name plan
  declining : (answer : RunAnswer) → plan ≡ Says answer → SaysTwice words 2 sources answer.status answer.output → IsPlanned words sources name plan

-- What is answered and held where these bytes were to be put under this name, or this line was to be written.
pub data IsPutAs (name bytes line : List ℕ) (told after : Option Files) (replaces replaces_now : ℕ) (answer : RunAnswer) : Type 0 where
  taken : answer.status ≡ Done → answer.output ≡ [] → after ≡ replaced told name bytes → IsPutAs name bytes line told after replaces replaces_now answer
  refused_so : answer.status ≡ DeviceFault (Replace 1) → answer.output ≡ line → Rose replaces replaces_now → IsOldOrNew told after name bytes
      → IsPutAs name bytes line told after replaces replaces_now answer

-- What became of a plan.
abbrev pub IsStored : (name : List ℕ) (told after : Option Files) (replaces replaces_now : ℕ) → CertificatePlan → RunAnswer → Type 0
IsStored name told after replaces replaces_now (Puts bytes line) answer = IsPutAs name bytes line told after replaces replaces_now answer
IsStored name told after replaces replaces_now (Says planned) answer = (answer ≡ planned) × (after ≡ told)
