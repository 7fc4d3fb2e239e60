-- What the steps of a run give, put together to what it means to answer.
use Rattle.std.proofs.Common.{◌≡◌, ℕ, ◌+◌, ◌<◌, ◌≤◌, List, drop, length, get_or, slice_get, Option, Some, Result, Ok, Err, refl, sym, ap, ◌∙◌, subst, arith}
use Rattle.std.specs.Prelude.{IfOk}
use Rattle.std.specs.Borrow.{Bor}
use Rattle.std.proofs.lemmas.List.{length-map}
use Rattle.std.proofs.lemmas.Option.{same_Some}
use Rattle.type_kinds.specs.declared.memory.Memory.{Memory}
use Rattle.da_shelf.proofs.CountLaws.{rose_since}
use Rattle.da_shelf.specs.Told.{Files, replaced, IsOldOrNew}
use Rattle.table_file.specs.declared.tables.Table.{Table}
use Rattle.table_keep.specs.declared.source.Source.{Source as HandedIn}
use Rattle.table_keep.specs.Model.{Source, trees, source_so, sources_so, entries_so}
use Rattle.sound_laws.specs.Accepted.{AreAccepted}
use Rattle.sound_laws_kept.proofs.Names.{accepted_sources}
use Rattle.analysis_sources.proofs.FilesRead.{read_length}
use Rattle.analysis_sources.specs.Words.{texts}
use Rattle.analysis_answers.specs.declared.files.FilesRead.{FilesRead}
use Rattle.analysis_answers.specs.declared.files.FilesRead.TheVariants as f
use Rattle.analysis_answers.specs.declared.run_answer.RunAnswer.{RunAnswer}
use Rattle.analysis_answers.specs.declared.run_status.RunStatus.{RunStatus}
use Rattle.analysis_answers.specs.ReadFiles.{ReadsAll, HaveOwnNames}
use Rattle.analysis_answers.specs.Tables.{IsTableRead}
use Rattle.analysis_answers.proofs.Texts.{texts_at, texts_long, word_of}
use Rattle.table_verify_command.specs.declared.making.CertificatePlan.{CertificatePlan}
use Rattle.table_verify_command.specs.declared.making.CertificatePlan.TheVariants.{Puts, Says}
use Rattle.table_verify_command.specs.declared.reading.TableRead.{TableRead}
use Rattle.table_verify_command.specs.declared.reading.TableRead.TheVariants as r
use Rattle.table_verify_command.specs.Outcome.{ReachesTable, to_table, to_certificate, Begins, by_make, by_check, Certifies, Judges, no_table, bad_table, faulty, duplicate_module, long_certificate, made, accepts, rejects}
use Rattle.table_verify_command.specs.Outcome.{of_table, of_file, Intended, answered, unread, unreplaced}
use Rattle.table_verify_command.specs.Words.{Makes, Checks}
use Rattle.table_verify_command.specs.steps.Judging.{SaysTwice, IsJudged, accepting, rejecting, twice_named, IsPlanned, certifying, declining, IsPutAs, taken, refused_so, IsStored}
use Rattle.table_verify_command.specs.steps.Reads as reads
use Rattle.table_verify_command.proofs.Commands.{make_files, make_name, check_files, check_table, check_name}

-- ---- the words

pub called_so : (words : List (Bor (List ℕ))) (i : ℕ) (d : Bor (List ℕ)) (name : List ℕ) → i < length words → slice_get (texts words) i ≡ Some name → (get_or words i d).now ≡ name
called_so words i d name low there = same_Some _ _ (sym (texts_at words i d low) ∙ there)

module _ (words : List (Bor (List ℕ))) where
  pub make_called : (d : Bor (List ℕ)) (cert : List ℕ) → Makes (texts words) cert (drop 2 (texts words)) → (get_or words 1 d).now ≡ cert
  make_called d cert h = let f = make_files h.make in called_so words 1 d cert (omega (arith, f.1, f.2, texts_long words)) (make_name h.make)

  pub table_called : (d : Bor (List ℕ)) {table cert : List ℕ} → Checks (texts words) table cert (drop 3 (texts words)) → (get_or words 1 d).now ≡ table
  table_called d {table} h = let f = check_files h.check in called_so words 1 d table (omega (arith, f.1, f.2, texts_long words)) (check_table h.check)

  pub cert_called : (d : Bor (List ℕ)) {table cert : List ℕ} → Checks (texts words) table cert (drop 3 (texts words)) → (get_or words 2 d).now ≡ cert
  cert_called d {cert = cert} h = let f = check_files h.check in called_so words 2 d cert (omega (arith, f.1, f.2, texts_long words)) (check_name h.check)

  -- there are as many sources as files
  as_many : (start : ℕ) (told : Option Files) (ss : List HandedIn) → length (texts words) ≡ start + length (drop start (texts words)) → ReadsAll told (drop start (texts words)) (sources_so ss) → start + length ss ≡ length words
  as_many start told ss whole h = omega (arith, read_length told 0 (drop start (texts words)) (sources_so ss) h.after h.read, length-map ss source_so, whole, texts_long words)

  pub check_whole : (told : Option Files) (rb rn : ℕ) {table cert : List ℕ} → Checks (texts words) table cert (drop 3 (texts words)) → (t : FilesRead) (ss : List HandedIn) → t ≡ f.Reads ss
      → reads.AreReadFrom told (drop 3 (texts words)) 3 rb rn t → 3 + length ss ≡ length words
  check_whole told rb rn checks t ss is h = as_many 3 told ss (check_files checks.check).1 (subst (reads.AreReadFrom told (drop 3 (texts words)) 3 rb rn) is h)

  pub make_whole : (told : Option Files) (rb rn : ℕ) {cert : List ℕ} → Makes (texts words) cert (drop 2 (texts words)) → (t : FilesRead) (ss : List HandedIn) → t ≡ f.Reads ss
      → reads.AreReadFrom told (drop 2 (texts words)) 2 rb rn t → 2 + length ss ≡ length words
  make_whole told rb rn makes t ss is h = as_many 2 told ss (make_files makes.make).1 (subst (reads.AreReadFrom told (drop 2 (texts words)) 2 rb rn) is h)

-- ---- each step

module _ (ws : List (List ℕ)) (told : Option Files) (rb rn n k : ℕ) (status : RunStatus) (output : List ℕ) where
  abbrev Means : Type 0
  Means = Intended ws told rb rn n k status output told

  pub table_ends : (word : ℕ) (name : List ℕ) → ReachesTable ws told word name → reads.IsTableFault told word name rb rn status output → Means
  table_ends word name reaches (reads.lacking s o gone) = answered (no_table word name s o refl reaches gone)
  table_ends word name reaches (reads.faulty bytes fault s o held is) = answered (bad_table word name bytes fault s o refl reaches held is)
  table_ends word name reaches (reads.failing s o rose) = unread word name s o refl (of_table reaches) rose

  pub files_end : (start : ℕ) (files : List (List ℕ)) → Begins ws told start files → reads.IsFileFault told files start rb rn status output → Means
  files_end start files begins (reads.refusing at file fault s o there is) = answered (faulty start files at file fault s o refl begins there is)
  files_end start files begins (reads.failing_at at before file s o reached rose) = unread (start + at) file s o refl (of_file start files at before refl begins reached) rose

  twice_ends : (start : ℕ) (files : List (List ℕ)) (M : List Source) → files ≡ drop start ws → Begins ws told start files → ReadsAll told files M → SaysTwice ws start M status output → Means
  twice_ends start files M same begins read h =
      answered
      (duplicate_module start files h.first h.second h.file h.other h.status_so h.output_so refl begins
      (ap (λ fs. slice_get fs h.second) same ∙ sym (word_of ws start h.second) ∙ h.file_there)
      (ap (λ fs. slice_get fs h.first) same ∙ sym (word_of ws start h.first) ∙ h.other_there)
      (record { sources = M; read = read; is = h.is }))

  module _ (table_name cert_name : List ℕ) (files : List (List ℕ)) (checks : Checks ws table_name cert_name files) (table cert : Table) (one : IsTableRead told table_name table) (other : IsTableRead told cert_name cert)
      (M : List Source)
      (read : ReadsAll told files M) (accepted : AreAccepted (trees M)) where
    judges : HaveOwnNames (trees M) → Judges ws told table cert M
    judges own = record {
      table_name = table_name;
      cert_name = cert_name;
      files = files;
      checks = checks;
      table_read = one;
      cert_read = other;
      read = record { read = read; names = own; accepted = accepted };
    }

    pub judged_ends : IsJudged ws (entries_so table) (entries_so cert) M status output → Means
    judged_ends (accepting s o own keeps) = answered (accepts table cert M s o refl (judges own) keeps)
    judged_ends (rejecting r home s o own broken) = answered (rejects table cert M r home s o refl (judges own) broken)
    judged_ends (twice_named h) = twice_ends 3 files M (sym (check_files checks.check).0) (by_check table_name cert_name table cert refl checks one other) read h

module _ (ws : List (List ℕ)) (told after : Option Files) (rb rn n k : ℕ) (name : List ℕ) (files : List (List ℕ)) (makes : Makes ws name files) (M : List Source)
    (read : ReadsAll told files M) (accepted : AreAccepted (trees M)) (a : RunAnswer) where
  pub stored_ends : (plan : CertificatePlan) → IsPlanned ws M name plan → IsStored name told after n k plan a → Intended ws told rb rn n k a.status a.output after
  stored_ends (Puts bytes line) (certifying cert own is spelled) h = by h
    where
      certifies : Certifies ws told name cert
      certifies = record { files = files; makes = makes; sources = M; read = record { read = read; names = own; accepted = accepted }; is = is }

      by : IsPutAs name bytes line told after n k a → Intended ws told rb rn n k a.status a.output after
      by (taken s o held) = answered (made name cert s o (held ∙ ap (replaced told name) spelled.1) certifies spelled.0)
      by (refused_so s o rose whole) =
          unreplaced 1 name s (o ∙ spelled.2)
          (record { place = refl; cert = cert; certifies = certifies; short = spelled.0; whole = subst (IsOldOrNew told after name) spelled.1 whole }) rose
  stored_ends (Puts bytes line) (declining answer e twice) h = absurd cc
  stored_ends (Says planned) (certifying cert own is spelled) h =
      answered
      (long_certificate name cert (ap (λ (b : RunAnswer). b.status) h.0 ∙ spelled.1) (ap (λ (b : RunAnswer). b.output) h.0 ∙ spelled.2) h.1
      (record { files = files; makes = makes; sources = M; read = record { read = read; names = own; accepted = accepted }; is = is }) spelled.0)
  stored_ends (Says planned) (declining answer e twice) h =
      let same : a ≡ answer = let q : planned ≡ answer = cc in h.0 ∙ q in
      subst (λ after. Intended ws told rb rn n k a.status a.output after) (sym h.1)
      (subst (λ (b : RunAnswer). Intended ws told rb rn n k b.status b.output told) (sym same)
      (twice_ends ws told rb rn n k answer.status answer.output 2 files M (sym (make_files makes.make).0) (by_make name refl makes) read twice))

-- ---- what was read before

-- a failed read is one of a longer time too
since : (ws : List (List ℕ)) (told after : Option Files) (early rb rn n k : ℕ) (status : RunStatus) (output : List ℕ) → early ≤ rb → Intended ws told rb rn n k status output after
    → Intended ws told early rn n k status output after
since ws told after early rb rn n k status output h (answered o) = answered o
since ws told after early rb rn n k status output h (unread word name a b c d rose) = unread word name a b c d (rose_since early rb rn h rose)
since ws told after early rb rn n k status output h (unreplaced word name a b d rose) = unreplaced word name a b d rose

pub after_reading : (ws : List (List ℕ)) (told mid after : Option Files) (early rb rn n m k : ℕ) (r : Result RunAnswer Memory) → mid ≡ told → early ≤ rb → m ≡ n
    → IfOk r (λ a. Intended ws mid rb rn m k a.status a.output after)
    → IfOk r (λ a. Intended ws told early rn n k a.status a.output after)
after_reading ws told mid after early rb rn n m k (Err e) same h also is = tt
after_reading ws told mid after early rb rn n m k (Ok a) same h also is =
    subst (λ q. Intended ws told early rn q k a.status a.output after) also
    (subst (λ t. Intended ws t early rn m k a.status a.output after) same (since ws mid after early rb rn m k a.status a.output h is))

-- ---- a check

pub still_read : (told mid : Option Files) (name : List ℕ) (table : Table) → mid ≡ told → IsTableRead told name table → IsTableRead mid name table
still_read told mid name table same h = subst (λ o. IsTableRead o name table) (sym same) h

module _ (words : List (Bor (List ℕ))) (told mid : Option Files) (rb rn : ℕ) (table cert : List ℕ) (checks : Checks (texts words) table cert (drop 3 (texts words))) where
  pub table_is_read : (d : Bor (List ℕ)) (t : TableRead) (T : Table) → t ≡ r.Reads T → mid ≡ told → reads.IsReadAs told 1 (get_or words 1 d).now rb rn t → IsTableRead mid table T
  table_is_read d t T is same h =
      subst (λ o. IsTableRead o table T) (sym same)
      (subst (λ name. IsTableRead told name T) (table_called words d checks) (subst (reads.IsReadAs told 1 (get_or words 1 d).now rb rn) is h))

  pub cert_is_read : (d : Bor (List ℕ)) (t : TableRead) (C : Table) → t ≡ r.Reads C → mid ≡ told → reads.IsReadAs told 2 (get_or words 2 d).now rb rn t → IsTableRead mid cert C
  cert_is_read d t C is same h =
      subst (λ o. IsTableRead o cert C) (sym same)
      (subst (λ name. IsTableRead told name C) (cert_called words d checks) (subst (reads.IsReadAs told 2 (get_or words 2 d).now rb rn) is h))

  pub table_says : (n k : ℕ) (d : Bor (List ℕ)) (t : TableRead) (a : RunAnswer) → t ≡ r.Says a → mid ≡ told → k ≡ n → reads.IsReadAs told 1 (get_or words 1 d).now rb rn t
      → Intended (texts words) told rb rn n k a.status a.output mid
  table_says n k d t a is same also h =
      subst (λ o. Intended (texts words) told rb rn n k a.status a.output o) (sym same)
      (table_ends (texts words) told rb rn n k a.status a.output 1 table (to_table cert (drop 3 (texts words)) refl checks)
      (subst (λ name. reads.IsTableFault told 1 name rb rn a.status a.output) (table_called words d checks) (subst (reads.IsReadAs told 1 (get_or words 1 d).now rb rn) is h)))

  module _ (T : Table) (one : IsTableRead told table T) where
    pub cert_says : (n k : ℕ) (d : Bor (List ℕ)) (t : TableRead) (a : RunAnswer) → t ≡ r.Says a → mid ≡ told → reads.IsReadAs told 2 (get_or words 2 d).now rb rn t
        → Intended (texts words) told rb rn n k a.status a.output mid
    cert_says n k d t a is same h =
        subst (λ o. Intended (texts words) told rb rn n k a.status a.output o) (sym same)
        (table_ends (texts words) told rb rn n k a.status a.output 2 cert (to_certificate table (drop 3 (texts words)) T refl checks one)
        (subst (λ name. reads.IsTableFault told 2 name rb rn a.status a.output) (cert_called words d checks) (subst (reads.IsReadAs told 2 (get_or words 2 d).now rb rn) is h)))

    module _ (C : Table) (other : IsTableRead told cert C) where
      pub files_say : (n k : ℕ) (t : FilesRead) (a : RunAnswer) → t ≡ f.Says a → mid ≡ told → reads.AreReadFrom told (drop 3 (texts words)) 3 rb rn t → Intended (texts words) told rb rn n k a.status a.output mid
      files_say n k t a is same h =
          subst (λ o. Intended (texts words) told rb rn n k a.status a.output o) (sym same)
          (files_end (texts words) told rb rn n k a.status a.output 3 (drop 3 (texts words)) (by_check table cert T C refl checks one other)
          (subst (reads.AreReadFrom told (drop 3 (texts words)) 3 rb rn) is h))

      pub judged_answer : (n k : ℕ) (t : FilesRead) (ss : List HandedIn) (a : Result RunAnswer Memory) → t ≡ f.Reads ss → mid ≡ told → reads.AreReadFrom told (drop 3 (texts words)) 3 rb rn t
          → IfOk a (λ b. IsJudged (texts words) (entries_so T) (entries_so C) (sources_so ss) b.status b.output) → IfOk a (λ b. Intended (texts words) told rb rn n k b.status b.output mid)
      judged_answer n k t ss (Err e) is same h judged = tt
      judged_answer n k t ss (Ok b) is same h judged =
          subst (λ o. Intended (texts words) told rb rn n k b.status b.output o) (sym same)
          (judged_ends (texts words) told rb rn n k b.status b.output table cert (drop 3 (texts words)) checks T C one other (sources_so ss)
          (subst (reads.AreReadFrom told (drop 3 (texts words)) 3 rb rn) is h) (accepted_sources ss) judged)

-- ---- a make

module _ (words : List (Bor (List ℕ))) (told mid : Option Files) (rb rn : ℕ) (cert : List ℕ) (makes : Makes (texts words) cert (drop 2 (texts words))) where
  pub make_says : (n k : ℕ) (t : FilesRead) (a : RunAnswer) → t ≡ f.Says a → mid ≡ told → reads.AreReadFrom told (drop 2 (texts words)) 2 rb rn t → Intended (texts words) told rb rn n k a.status a.output mid
  make_says n k t a is same h =
      subst (λ o. Intended (texts words) told rb rn n k a.status a.output o) (sym same)
      (files_end (texts words) told rb rn n k a.status a.output 2 (drop 2 (texts words)) (by_make cert refl makes) (subst (reads.AreReadFrom told (drop 2 (texts words)) 2 rb rn) is h))

  pub stored_answer : (d : Bor (List ℕ)) (after : Option Files) (n m k late : ℕ) (t : FilesRead) (ss : List HandedIn) (plan : CertificatePlan) (a : Result RunAnswer Memory) → t ≡ f.Reads ss → mid ≡ told → m ≡ n
      → late ≡ rn
      → reads.AreReadFrom told (drop 2 (texts words)) 2 rb rn t → ((name : List ℕ) → slice_get (texts words) 1 ≡ Some name → IsPlanned (texts words) (sources_so ss) name plan)
      → IfOk a (λ b. IsStored (get_or words 1 d).now mid after m k plan b) → IfOk a (λ b. Intended (texts words) told rb late n k b.status b.output after)
  stored_answer d after n m k late t ss plan (Err e) is same also reading h planned stored = tt
  stored_answer d after n m k late t ss plan (Ok b) is same also reading h planned stored =
      subst (λ q. Intended (texts words) told rb q n k b.status b.output after) (sym reading)
      (stored_ends (texts words) told after rb rn n k cert (drop 2 (texts words)) makes (sources_so ss) (subst (reads.AreReadFrom told (drop 2 (texts words)) 2 rb rn) is h) (accepted_sources ss) b plan
      (planned cert (make_name makes.make))
      (subst (λ q. IsStored cert told after q k plan b) also (subst (λ o. IsStored cert o after m k plan b) same (subst (λ name. IsStored name mid after m k plan b) (make_called words d cert makes) stored))))
