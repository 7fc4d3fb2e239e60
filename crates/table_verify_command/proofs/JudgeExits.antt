-- A table is judged, or a certificate is made and put: each way out.
use Rattle.std.proofs.Common.{◌≡◌, ℕ, ◌+◌, ◌<◌, List, [], length, get_or, slice_get, Some, Result, Ok, Err, refl, sym, ap, ◌∙◌, subst, arith}
use Rattle.std.specs.Prelude.{IfOk}
use Rattle.std.specs.Borrow.{Bor}
use Rattle.std.proofs.lemmas.List.{length-map}
use Rattle.std.proofs.lemmas.Option.{slice_get-get_or}
use Rattle.type_kinds.specs.declared.atom.Atom.{Atom}
use Rattle.type_kinds.specs.declared.memory.Memory.{Memory}
use Rattle.core_scope.specs.Checked.{module_of}
use Rattle.core_scope.specs.Sets.{StandsEarlier, FirstDuplicate}
use Rattle.core_scope.specs.declared.fault.SetFault.{SetFault}
use Rattle.core_scope.specs.declared.fault.SetFault.TheVariants.{DuplicateModule}
use Rattle.table_file.specs.declared.tables.Table.{Table}
use Rattle.table_keep.specs.declared.source.Source.{Source as HandedIn}
use Rattle.table_keep.specs.Model.{Source, Entry, sources_so, entries_so}
use Rattle.analysis_sources.specs.Words.{texts}
use Rattle.analysis_answers.specs.declared.run_answer.RunAnswer.{RunAnswer}
use Rattle.analysis_answers.specs.declared.run_status.RunStatus.TheVariants.{Done}
use Rattle.analysis_answers.specs.FileRuns.{duplicate}
use Rattle.analysis_answers.specs.Lines.{duplicate_line}
use Rattle.analysis_answers.proofs.AnswerExits.{names, names_so, own_so}
use Rattle.table_verify_laws.specs.Certificates.{IsCertificate}
use Rattle.table_verify_laws.specs.Rules.{KeepsRules, TableRule, rule_number}
use Rattle.table_verify_rules.specs.declared.fault.VerifyFault.TheVariants.{Rejected}
use Rattle.table_verify_rules.specs.Rejected.{IsRejected}
use Rattle.table_verify_command.specs.declared.making.CertificatePlan.{CertificatePlan}
use Rattle.table_verify_command.specs.declared.making.CertificatePlan.TheVariants.{Says}
use Rattle.table_verify_command.specs.Lines.{accepted_line, rejected, rejected_line}
use Rattle.table_verify_command.specs.steps.Judging.{SaysTwice, IsJudged, accepting, rejecting, twice_named, IsSpelledAs, IsPlanned, certifying, declining}

abbrev pub AreApart : List HandedIn → Type 0
AreApart ss = (j : ℕ) → j < length ss → StandsEarlier (names ss) j → ⊥

-- ---- two modules have one name

-- the positions that a fault of a set names, as the code has them
twins : (ss : List HandedIn) (fault : SetFault) (first second : ℕ) → (i : ℕ) × (j : ℕ) × (fault ≡ DuplicateModule i j) × FirstDuplicate (names ss) i j
    → ((i j : ℕ) → fault ≡ DuplicateModule i j → (first ≡ i) × (second ≡ j)) → FirstDuplicate (names ss) first second
twins ss fault first second h is =
    let same = is h.0 h.1 h.2 in
    subst (λ i. FirstDuplicate (names ss) i second) (sym same.0) (subst (FirstDuplicate (names ss) h.0) (sym same.1) h.3)

twins_within : (start total : ℕ) (ss : List HandedIn) (first second : ℕ) → start + length ss ≡ total → FirstDuplicate (names ss) first second → (start + first < total) × (start + second < total)
twins_within start total ss first second long h =
    let n = length-map ss (λ (s : HandedIn). (module_of s.checked).name) in
    (omega (arith, n, h.within, h.before, long), omega (arith, n, h.within, long))

says_twice : (words : List (Bor (List ℕ))) (start : ℕ) (ss : List HandedIn) (first second : ℕ) (a : RunAnswer) → start + length ss ≡ length words → FirstDuplicate (names ss) first second
    → a.status ≡ duplicate (start + second) (start + first)
    → ((file other : List ℕ) → slice_get (texts words) (start + second) ≡ Some file → slice_get (texts words) (start + first) ≡ Some other → a.output ≡ duplicate_line file other)
    → SaysTwice (texts words) start (sources_so ss) a.status a.output
says_twice words start ss first second a long h s o =
    let k = length-map words (λ (u : Bor (List ℕ)). u.now) in
    let within = twins_within start (length words) ss first second long h in
    let file = slice_get-get_or (texts words) (start + second) [] (omega (arith, within.1, k)) in
    let other = slice_get-get_or (texts words) (start + first) [] (omega (arith, within.0, k)) in
    record {
      first = first;
      second = second;
      file = get_or (texts words) (start + second) [];
      other = get_or (texts words) (start + first) [];
      status_so = s;
      output_so = o (get_or (texts words) (start + second) []) (get_or (texts words) (start + first) []) file other;
      file_there = file;
      other_there = other;
      is = subst (λ ns. FirstDuplicate ns first second) (names_so ss) h;
    }

-- ---- a check

pub twice_judged : (words : List (Bor (List ℕ))) (T C : List Entry) (ss : List HandedIn) (fault : SetFault) (first second : ℕ) (r : Result RunAnswer Memory) → 3 + length ss ≡ length words
    → (i : ℕ) × (j : ℕ) × (fault ≡ DuplicateModule i j) × FirstDuplicate (names ss) i j → ((i j : ℕ) → fault ≡ DuplicateModule i j → (first ≡ i) × (second ≡ j))
    → IfOk r (λ a. a.status ≡ duplicate (3 + second) (3 + first))
    → IfOk r (λ a. (file other : List ℕ) → slice_get (texts words) (3 + second) ≡ Some file → slice_get (texts words) (3 + first) ≡ Some other → a.output ≡ duplicate_line file other)
    → IfOk r (λ a. IsJudged (texts words) T C (sources_so ss) a.status a.output)
twice_judged words T C ss fault first second (Err e) long h is s o = tt
twice_judged words T C ss fault first second (Ok a) long h is s o = twice_named (says_twice words 3 ss first second a long (twins ss fault first second h is) s o)

pub accepted_judged : (T C : List Entry) (ss : List HandedIn) (r : Result RunAnswer Memory) → AreApart ss → KeepsRules T C (sources_so ss) → IfOk r (λ a. a.status ≡ Done) → IfOk r (λ a. a.output ≡ accepted_line)
    → IfOk r (λ a. (words : List (List ℕ)) → IsJudged words T C (sources_so ss) a.status a.output)
accepted_judged T C ss (Err e) own keeps s o = tt
accepted_judged T C ss (Ok a) own keeps s o = λ words. accepting s o (own_so ss own) keeps

pub rejected_judged : (T C : List Entry) (ss : List HandedIn) (number n : ℕ) (home here : Atom) (r : Result RunAnswer Memory) → AreApart ss → IsRejected T C (sources_so ss) (Rejected number home) → n ≡ number → here ≡ home
    → IfOk r (λ a. (q : TableRule) → n ≡ rule_number q → a.status ≡ rejected q) → IfOk r (λ a. (q : TableRule) → n ≡ rule_number q → a.output ≡ rejected_line q here)
    → IfOk r (λ a. (words : List (List ℕ)) → IsJudged words T C (sources_so ss) a.status a.output)
rejected_judged T C ss number n home here (Err e) own h at is s o = tt
rejected_judged T C ss number n home here (Ok a) own h at is s o = λ words. rejecting h.0 home (s h.0 (at ∙ h.1)) (o h.0 (at ∙ h.1) ∙ ap (rejected_line h.0) is) (own_so ss own) h.2

pub any_words : (words : List (List ℕ)) (T C : List Entry) (M : List Source) (r : Result RunAnswer Memory) → IfOk r (λ a. (ws : List (List ℕ)) → IsJudged ws T C M a.status a.output)
    → IfOk r (λ a. IsJudged words T C M a.status a.output)
any_words words T C M (Err e) h = tt
any_words words T C M (Ok a) h = h words

-- ---- a make

pub certified_plan : (words : List (Bor (List ℕ))) (d : Bor (List ℕ)) (ss : List HandedIn) (cert other : Table) (r : Result CertificatePlan Memory) → 1 < length words → AreApart ss
    → IsCertificate (sources_so ss) (entries_so cert) → other ≡ cert
    → ((name : List ℕ) → slice_get (texts words) 1 ≡ Some name → (get_or words 1 d).now ≡ name) → IfOk r (λ p. IsSpelledAs (get_or words 1 d).now other p)
    → IfOk r (λ p. (name : List ℕ) → slice_get (texts words) 1 ≡ Some name → IsPlanned (texts words) (sources_so ss) name p)
certified_plan words d ss cert other (Err e) low own is same called spelled = tt
certified_plan words d ss cert other (Ok p) low own is same called spelled =
    λ name there. certifying cert (own_so ss own) is (subst (λ c. IsSpelledAs name c p) same (subst (λ n. IsSpelledAs n other p) (called name there) spelled))

pub twice_plan : (words : List (Bor (List ℕ))) (ss : List HandedIn) (fault : SetFault) (first second : ℕ) (a : RunAnswer) → 2 + length ss ≡ length words
    → (i : ℕ) × (j : ℕ) × (fault ≡ DuplicateModule i j) × FirstDuplicate (names ss) i j → ((i j : ℕ) → fault ≡ DuplicateModule i j → (first ≡ i) × (second ≡ j)) → a.status ≡ duplicate (2 + second) (2 + first)
    → ((file other : List ℕ) → slice_get (texts words) (2 + second) ≡ Some file → slice_get (texts words) (2 + first) ≡ Some other → a.output ≡ duplicate_line file other)
    → (name : List ℕ) → slice_get (texts words) 1 ≡ Some name → IsPlanned (texts words) (sources_so ss) name (Says a)
twice_plan words ss fault first second a long h is s o name there = declining a refl (says_twice words 2 ss first second a long (twins ss fault first second h is) s o)

pub dropped : (words : List (List ℕ)) (ss ts : List HandedIn) (r : Result CertificatePlan Memory) → ts ≡ ss → IfOk r (λ p. (name : List ℕ) → slice_get words 1 ≡ Some name → IsPlanned words (sources_so ts) name p)
    → IfOk r (λ p. (name : List ℕ) → slice_get words 1 ≡ Some name → IsPlanned words (sources_so ss) name p)
dropped words ss ts r same h = subst (λ us. IfOk r (λ p. (name : List ℕ) → slice_get words 1 ≡ Some name → IsPlanned words (sources_so us) name p)) same h
