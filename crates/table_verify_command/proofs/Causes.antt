-- From what a run answers to the cause of its answer, and back.
use Rattle.std.proofs.Common.{◌≡◌, ◌≢◌, ◌↔◌, ◌⊎◌, inl, inr, ℕ, ◌+◌, ◌≤◌, List, length, Option, Some, None, refl, sym, ap, ap₂, ◌∙◌, subst, arith}
use Rattle.std.specs.Prelude.{IfSome}
use Rattle.da_shelf.specs.Told.{Files, Lacks}
use Rattle.table_file.specs.declared.faults.TableFault.{TableFault as FaultOfTable}
use Rattle.table_file.specs.declared.faults.TableFault.TheVariants as t
use Rattle.table_keep.specs.Model.{entries_so}
use Rattle.analysis_sources.specs.declared.refusals.SourceFault.{SourceFault}
use Rattle.analysis_sources.specs.Reading.{HoldsAt, RefusedAt, not_held, at_fault}
use Rattle.analysis_sources.specs.Refusals.{missing, refusal_number}
use Rattle.analysis_sources.specs.Sources.{IsAtFault}
use Rattle.analysis_sources.specs.Sources.{too_long as bytes_too_long}
use Rattle.analysis_answers.specs.declared.run_status.RunStatus.{RunStatus}
use Rattle.analysis_answers.specs.declared.run_status.RunStatus.TheVariants.{Done, TableFault, Usage}
use Rattle.analysis_answers.specs.FileRuns.{IsAnswer, refused, too_many, duplicate}
use Rattle.analysis_answers.specs.Tables.{faulty_table}
use Rattle.analysis_answers.specs.Words.{most_files}
use Rattle.analysis_answers.proofs.FileRefusals.{tells, kind, refusal_of, told_once, never_missing, only_long}
use Rattle.analysis_answers.proofs.HeldOnce.{NoFault, NoneRefused, OnceSpelled, OneFault, OneList, OneRefusal}
use Rattle.analysis_answers.proofs.TableFaults.{one_table_fault}
use Rattle.table_verify_laws.specs.Laws.{OneCertificateLaw, OneFirstLaw, SoundLaw}
use Rattle.table_verify_laws.specs.Rules.{TableRule, rule_number}
use Rattle.table_verify_laws.specs.Rules.TableRule.{same_modules, same_source, same_functions, closed}
use Rattle.table_verify_command.specs.Causes.{NamesMissing, as_table, as_file, NamesBadTable, NamesTooLong, NamesFaulty, NamesLongCertificate, NamesTwice, NamesBroken, NamesGood, NamesCertificate, StoresCertificate}
use Rattle.table_verify_command.specs.Lines.{rejected, too_long}
use Rattle.table_verify_command.specs.Outcome.{ReachesTable, Begins, by_make, by_check, Outcome, usage, many, no_table, bad_table, faulty, duplicate_module, long_certificate, made, accepts, rejects, Intended}
use Rattle.table_verify_command.specs.Runs.{AsksForCheck, AsksForMake}
use Rattle.table_verify_command.specs.Words.{IsCommand, to_make, to_check, IsNoCommand, NamesTooMany}
use Rattle.table_verify_command.proofs.Commands.{one_command, not_both}
use Rattle.table_verify_command.proofs.Courses as courses
use Rattle.table_verify_command.proofs.Courses.{Course, ends_at_table, ends_at_files, ends_with_certificate, ends_with_verdict, course_of, lacks, spoils, refuses, repeats, fits, is_long, keeps, breaks}
use Rattle.table_verify_command.proofs.RunExits.{outcome_of}

-- ---- statuses are told apart

rule_named : (r : TableRule) → (29 ≤ rule_number r) × (rule_number r ≤ 32)
rule_named same_modules = (omega arith, omega arith)
rule_named same_source = (omega arith, omega arith)
rule_named same_functions = (omega arith, omega arith)
rule_named closed = (omega arith, omega arith)

one_rule : (r q : TableRule) → rule_number r ≡ rule_number q → r ≡ q
one_rule same_modules same_modules e = refl
one_rule same_modules same_source e = absurd (omega (arith, e))
one_rule same_modules same_functions e = absurd (omega (arith, e))
one_rule same_modules closed e = absurd (omega (arith, e))
one_rule same_source same_modules e = absurd (omega (arith, e))
one_rule same_source same_source e = refl
one_rule same_source same_functions e = absurd (omega (arith, e))
one_rule same_source closed e = absurd (omega (arith, e))
one_rule same_functions same_modules e = absurd (omega (arith, e))
one_rule same_functions same_source e = absurd (omega (arith, e))
one_rule same_functions same_functions e = refl
one_rule same_functions closed e = absurd (omega (arith, e))
one_rule closed same_modules e = absurd (omega (arith, e))
one_rule closed same_source e = absurd (omega (arith, e))
one_rule closed same_functions e = absurd (omega (arith, e))
one_rule closed closed e = refl

abbrev table_number_of : RunStatus → ℕ
table_number_of (TableFault number) = number
table_number_of status = 0

-- ---- by the words alone, also where the shelf doesn't tell what it holds

data Asked (words : List (List ℕ)) (status : RunStatus) : Type 0 where
  nothing : status ≡ Usage → IsNoCommand words → Asked words status
  much : status ≡ too_many → NamesTooMany words → Asked words status
  command : (kind status ≡ 104 → ⊥) → (kind status ≡ 24 → ⊥) → (start : ℕ) (files : List (List ℕ)) → IsCommand words start files → length files ≤ most_files → Asked words status

-- a status of another number
differs : (n : ℕ) {status other : RunStatus} → status ≡ other → (kind other ≡ n → ⊥) → kind status ≡ n → ⊥
differs n a far e = far (sym (ap kind a) ∙ e)

module _ {words : List (List ℕ)} {status : RunStatus} where
  reaching : {told : Option Files} {word : ℕ} {name : List ℕ} → (kind status ≡ 104 → ⊥) → (kind status ≡ 24 → ⊥) → ReachesTable words told word name → Asked words status
  reaching u v (ReachesTable.to_table cert files at checks) = command u v 3 files (to_check _ cert refl checks.check) checks.few
  reaching u v (ReachesTable.to_certificate table_name files table at checks read) = command u v 3 files (to_check table_name _ refl checks.check) checks.few

  beginning : {told : Option Files} {start : ℕ} {files : List (List ℕ)} → (kind status ≡ 104 → ⊥) → (kind status ≡ 24 → ⊥) → Begins words told start files → Asked words status
  beginning {files = files} u v (by_make cert at makes) = command u v 2 files (to_make cert refl makes.make) makes.few
  beginning {files = files} u v (by_check table_name cert_name table cert at checks one other) = command u v 3 files (to_check table_name cert_name refl checks.check) checks.few

  asked : {told after : Option Files} {output : List ℕ} → Outcome words told status output after → Asked words status
  asked (usage a b c d) = nothing a d
  asked (many a b c d) = much a d
  asked (no_table word name a b c reaches gone) = reaching (differs 104 a (λ e. omega (arith, e))) (differs 24 a (λ e. omega (arith, e))) reaches
  asked (bad_table word name bytes fault a b c reaches holds is) = reaching (differs 104 a (λ e. omega (arith, e))) (differs 24 a (λ e. omega (arith, e))) reaches
  asked (faulty start files at file fault a b c begins there is) =
      beginning (differs 104 a (λ e. omega (arith, e, (tells fault.name).low))) (differs 24 a (tells fault.name).of_some) begins
  asked (duplicate_module start files first second file other a b c begins f g is) = beginning (differs 104 a (λ e. omega (arith, e))) (differs 24 a (λ e. omega (arith, e))) begins
  asked (long_certificate name cert a b c is long) =
      command (differs 104 a (λ e. omega (arith, e))) (differs 24 a (λ e. omega (arith, e))) 2 is.files (to_make name refl is.makes.make) is.makes.few
  asked (made name cert a b c is short) = command (differs 104 a (λ e. omega (arith, e))) (differs 24 a (λ e. omega (arith, e))) 2 is.files (to_make name refl is.makes.make) is.makes.few
  asked (accepts table cert M a b c judges kept) =
      command (differs 104 a (λ e. omega (arith, e))) (differs 24 a (λ e. omega (arith, e))) 3 judges.files (to_check judges.table_name judges.cert_name refl judges.checks.check) judges.checks.few
  asked (rejects table cert M r home a b c judges broken) =
      command (differs 104 a (λ e. omega (arith, e, rule_named r))) (differs 24 a (λ e. omega (arith, e, rule_named r))) 3 judges.files
      (to_check judges.table_name judges.cert_name refl judges.checks.check) judges.checks.few

  usage_both : Asked words status → (status ≡ Usage) ↔ IsNoCommand words
  usage_both h = (to h, from h)
    where
      to : Asked words status → status ≡ Usage → IsNoCommand words
      to (nothing a none) e = none
      to (much a most) e = absurd (omega (arith, ap kind e, ap kind a))
      to (command u v start files asks few) e = absurd (u (ap kind e))

      from : Asked words status → IsNoCommand words → status ≡ Usage
      from (nothing a none) also = a
      from (much a most) none = absurd (none most.start most.files most.command)
      from (command u v start files asks few) none = absurd (none start files asks)

  many_both : Asked words status → (status ≡ too_many) ↔ NamesTooMany words
  many_both h = (to h, from h)
    where
      to : Asked words status → status ≡ too_many → NamesTooMany words
      to (nothing a none) e = absurd (omega (arith, ap kind e, ap kind a))
      to (much a most) e = most
      to (command u v start files asks few) e = absurd (v (ap kind e))

      from : Asked words status → NamesTooMany words → status ≡ too_many
      from (nothing a none) most = absurd (none most.start most.files most.command)
      from (much a most) also = a
      from (command u v start files asks few) most =
          let same = ap length (one_command most.command asks).1 in
          let long = most.many in
          absurd (omega arith)

pub usage_it : (words : List (List ℕ)) (told after : Option Files) (rb rn n k : ℕ) (status : RunStatus) (output : List ℕ) → Intended words told rb rn n k status output after → IsAnswer status
    → (status ≡ Usage) ↔ IsNoCommand words
usage_it words told after rb rn n k status output h answer = usage_both (asked (outcome_of answer h))

pub many_it : (words : List (List ℕ)) (told after : Option Files) (rb rn n k : ℕ) (status : RunStatus) (output : List ℕ) → Intended words told rb rn n k status output after → IsAnswer status
    → (status ≡ too_many) ↔ NamesTooMany words
many_it words told after rb rn n k status output h answer = many_both (asked (outcome_of answer h))

-- ---- the cause of an answer

-- what a refusal of a word is of: a table, a file, or the certificate that is to be put
data RefusedAs (words : List (List ℕ)) (held : Files) (word : ℕ) (fault : SourceFault) : Type 0 where
  of_table : (name : List ℕ) → fault ≡ missing → ReachesTable words (Some held) word name → Lacks (Some held) name → RefusedAs words held word fault
  of_file : (start : ℕ) (files : List (List ℕ)) (at : ℕ) → word ≡ start + at → Begins words (Some held) start files → RefusedAt (Some held) files at fault → RefusedAs words held word fault
  of_certificate : fault ≡ too_long → NamesLongCertificate words held word → RefusedAs words held word fault

data Cause (words : List (List ℕ)) (held : Files) (after : Option Files) (status : RunStatus) : Type 0 where
  by_words : (kind status ≡ 104) ⊎ (kind status ≡ 24) → Cause words held after status
  by_refusal : (word : ℕ) (fault : SourceFault) → status ≡ refused word fault → RefusedAs words held word fault → Cause words held after status
  by_table : (fault : FaultOfTable) → status ≡ faulty_table fault → NamesBadTable words held fault → Cause words held after status
  by_names : (word other : ℕ) → status ≡ duplicate word other → NamesTwice words held word other → Cause words held after status
  by_rule : (r : TableRule) → status ≡ rejected r → NamesBroken words held r → Cause words held after status
  by_table_that_is_good : status ≡ Done → NamesGood words held → Cause words held after status
  by_certificate : status ≡ Done → StoresCertificate words held after → Cause words held after status

module _ (sound : SoundLaw) {words : List (List ℕ)} {held : Files} {after : Option Files} {status : RunStatus} {output : List ℕ} where
  cause_of : Outcome words (Some held) status output after → Cause words held after status
  cause_of (usage a b c d) = by_words (inl (ap kind a))
  cause_of (many a b c d) = by_words (inr (ap kind a))
  cause_of (no_table word name a b c reaches gone) = by_refusal word missing a (of_table name refl reaches gone)
  cause_of (bad_table word name bytes fault a b c reaches holds is) = by_table fault a (record { word = word; name = name; bytes = bytes; reached = reaches; held_so = holds; is = is })
  cause_of (faulty start files at file fault a b c begins there is) = by_refusal (start + at) fault a (of_file start files at refl begins is)
  cause_of (duplicate_module start files first second file other a b c begins f g is) =
      by_names (start + second) (start + first) a
      (record { start = start; files = files; begins = begins; first = first; second = second; place = refl; other_place = refl; duplicate_module = is })
  cause_of (long_certificate name cert a b c is long) = by_refusal 1 too_long a (of_certificate refl (record { place = refl; name = name; cert = cert; certifies = is; long = long }))
  cause_of (made name cert a b c is short) = by_certificate a (record { name = name; cert = cert; certifies = is; short = short; stored = c })
  cause_of (accepts table cert M a b c judges kept) =
      by_table_that_is_good a
      (record {
        table = table;
        cert = cert;
        sources = M;
        judges = judges;
        keeps = kept;
        holds = (sound (entries_so table) (entries_so cert) M (courses.are_sources held judges.read) kept).0;
      })
  cause_of (rejects table cert M r home a b c judges broken) = by_rule r a (record { table = table; cert = cert; sources = M; judges = judges; home = home; broken = broken })

-- words that are no command, or name too many files, are answered by no refusal of a file
not_words : {A : Type 0} {status : RunStatus} (word : ℕ) (fault : SourceFault) → status ≡ refused word fault → (kind status ≡ 104) ⊎ (kind status ≡ 24) → A
not_words word fault e (inl k) = absurd (omega (arith, k, ap kind e, (tells fault.name).low))
not_words word fault e (inr k) = absurd ((tells fault.name).of_some (sym (ap kind e) ∙ k))

module _ {words : List (List ℕ)} {held : Files} {after : Option Files} {status : RunStatus} where
  refused_to : Cause words held after status → (word : ℕ) (fault : SourceFault) → status ≡ refused word fault → RefusedAs words held word fault
  refused_to (by_words k) word fault e = not_words word fault e k
  refused_to (by_refusal at other a is) word fault e =
      let same = told_once at word other fault (sym a ∙ e) in
      subst (λ f. RefusedAs words held word f) same.1 (subst (λ w. RefusedAs words held w other) same.0 is)
  refused_to (by_table other a is) word fault e = absurd (omega (arith, ap kind a, ap kind e, (tells fault.name).low))
  refused_to (by_names at other a is) word fault e = absurd ((tells fault.name).of_one (sym (ap kind e) ∙ ap kind a))
  refused_to (by_rule r a is) word fault e = absurd (omega (arith, ap kind a, ap kind e, (tells fault.name).low, rule_named r))
  refused_to (by_table_that_is_good a is) word fault e = absurd (omega (arith, ap kind a, ap kind e, (tells fault.name).low))
  refused_to (by_certificate a is) word fault e = absurd (omega (arith, ap kind a, ap kind e, (tells fault.name).low))

  table_to : Cause words held after status → (fault : FaultOfTable) → status ≡ faulty_table fault → NamesBadTable words held fault
  table_to (by_words (inl k)) fault e = absurd (omega (arith, k, ap kind e))
  table_to (by_words (inr k)) fault e = absurd (omega (arith, k, ap kind e))
  table_to (by_refusal word other a is) fault e = absurd (omega (arith, ap kind a, ap kind e, (tells other.name).low))
  table_to (by_table other a is) fault e = subst (NamesBadTable words held) (one_table_fault other fault (ap table_number_of (sym a ∙ e))) is
  table_to (by_names word other a is) fault e = absurd (omega (arith, ap kind a, ap kind e))
  table_to (by_rule r a is) fault e = absurd (omega (arith, ap kind a, ap kind e, rule_named r))
  table_to (by_table_that_is_good a is) fault e = absurd (omega (arith, ap kind a, ap kind e))
  table_to (by_certificate a is) fault e = absurd (omega (arith, ap kind a, ap kind e))

  twice_to : Cause words held after status → (word other : ℕ) → status ≡ duplicate word other → NamesTwice words held word other
  twice_to (by_words (inl k)) word other e = absurd (omega (arith, k, ap kind e))
  twice_to (by_words (inr k)) word other e = absurd (omega (arith, k, ap kind e))
  twice_to (by_refusal at fault a is) word other e = absurd ((tells fault.name).of_one (sym (ap kind a) ∙ ap kind e))
  twice_to (by_table fault a is) word other e = absurd (omega (arith, ap kind a, ap kind e))
  twice_to (by_names at that a is) word other e =
      let k = sym a ∙ e in
      subst (NamesTwice words held word) (ap (λ s. (refusal_of s).other) k) (subst (λ w. NamesTwice words held w that) (ap (λ s. (refusal_of s).word) k) is)
  twice_to (by_rule r a is) word other e = absurd (omega (arith, ap kind a, ap kind e, rule_named r))
  twice_to (by_table_that_is_good a is) word other e = absurd (omega (arith, ap kind a, ap kind e))
  twice_to (by_certificate a is) word other e = absurd (omega (arith, ap kind a, ap kind e))

  rule_to : Cause words held after status → (r : TableRule) → status ≡ rejected r → NamesBroken words held r
  rule_to (by_words (inl k)) r e = absurd (omega (arith, k, ap kind e, rule_named r))
  rule_to (by_words (inr k)) r e = absurd (omega (arith, k, ap kind e, rule_named r))
  rule_to (by_refusal word fault a is) r e = absurd (omega (arith, ap kind a, ap kind e, (tells fault.name).low, rule_named r))
  rule_to (by_table fault a is) r e = absurd (omega (arith, ap kind a, ap kind e, rule_named r))
  rule_to (by_names word other a is) r e = absurd (omega (arith, ap kind a, ap kind e, rule_named r))
  rule_to (by_rule q a is) r e = subst (NamesBroken words held) (one_rule q r (sym (ap kind a) ∙ ap kind e)) is
  rule_to (by_table_that_is_good a is) r e = absurd (omega (arith, ap kind a, ap kind e, rule_named r))
  rule_to (by_certificate a is) r e = absurd (omega (arith, ap kind a, ap kind e, rule_named r))

  done_to : Cause words held after status → status ≡ Done → NamesGood words held ⊎ StoresCertificate words held after
  done_to (by_words (inl k)) e = absurd (omega (arith, k, ap kind e))
  done_to (by_words (inr k)) e = absurd (omega (arith, k, ap kind e))
  done_to (by_refusal word fault a is) e = absurd (omega (arith, ap kind a, ap kind e, (tells fault.name).low))
  done_to (by_table fault a is) e = absurd (omega (arith, ap kind a, ap kind e))
  done_to (by_names word other a is) e = absurd (omega (arith, ap kind a, ap kind e))
  done_to (by_rule r a is) e = absurd (omega (arith, ap kind a, ap kind e, rule_named r))
  done_to (by_table_that_is_good a is) e = inl is
  done_to (by_certificate a is) e = inr is

-- ---- what a refusal of a word is of

module _ {words : List (List ℕ)} {held : Files} {word : ℕ} where
  missing_of : RefusedAs words held word missing → NamesMissing words held word
  missing_of (of_table name e reaches gone) = as_table name reaches gone
  missing_of (of_file start files at place begins (not_held e is)) = as_file start files at place begins is
  missing_of (of_file start files at place begins (at_fault h)) = absurd (never_missing h.is)
  missing_of (of_certificate e is) = let k : 26 ≡ 25 = ap (λ (f : SourceFault). refusal_number f.name) e in absurd (omega (arith, k))

  long_of : RefusedAs words held word too_long → NamesTooLong words held word ⊎ NamesLongCertificate words held word
  long_of (of_table name e reaches gone) = let k : 25 ≡ 26 = ap (λ (f : SourceFault). refusal_number f.name) e in absurd (omega (arith, k))
  long_of (of_file start files at place begins (not_held e is)) = let k : 25 ≡ 26 = ap (λ (f : SourceFault). refusal_number f.name) e in absurd (omega (arith, k))
  long_of (of_file start files at place begins (at_fault h)) =
      inl (record {
        start = start;
        files = files;
        begins = begins;
        at = at;
        place = place;
        source = record { file = h.file; bytes = h.bytes; before = h.before; reached = h.reached; held_so = h.held_so; is = only_long h.is };
      })
  long_of (of_certificate e is) = inr is

  faulty_of : (fault : SourceFault) → refusal_number fault.name ≤ 13 → RefusedAs words held word fault → NamesFaulty words held word fault
  faulty_of fault low (of_table name e reaches gone) = let k : refusal_number fault.name ≡ 26 = ap (λ (f : SourceFault). refusal_number f.name) e in absurd (omega (arith, k, low))
  faulty_of fault low (of_file start files at place begins (not_held e is)) =
      let k : refusal_number fault.name ≡ 26 = ap (λ (f : SourceFault). refusal_number f.name) e in absurd (omega (arith, k, low))
  faulty_of fault low (of_file start files at place begins (at_fault h)) = record { start = start; files = files; begins = begins; at = at; place = place; source = h }
  faulty_of fault low (of_certificate e is) = let k : refusal_number fault.name ≡ 25 = ap (λ (f : SourceFault). refusal_number f.name) e in absurd (omega (arith, k, low))

-- ---- the course that a cause is of

module _ {words : List (List ℕ)} {held : Files} where
  missing_course : (word : ℕ) → NamesMissing words held word → Course words held (refused word missing)
  missing_course word (as_table name reaches gone) = ends_at_table reaches (λ Next. lacks refl gone)
  missing_course word (as_file start files at place begins gone) = ends_at_files begins (λ Next. refuses at missing (ap (λ w. refused w missing) place) (not_held refl gone))

  table_course : (fault : FaultOfTable) → NamesBadTable words held fault → Course words held (faulty_table fault)
  table_course fault h = ends_at_table h.reached (λ Next. spoils h.bytes fault refl h.held_so h.is)

  long_course : (word : ℕ) → NamesTooLong words held word ⊎ NamesLongCertificate words held word → Course words held (refused word too_long)
  long_course word (inl h) =
      let s = h.source in
      let is : HoldsAt (Some held) h.files h.at (λ most bytes. IsAtFault most bytes too_long) = record { file = s.file; bytes = s.bytes; before = s.before; reached = s.reached; held_so = s.held_so; is = bytes_too_long (s.is, refl) } in
      ends_at_files h.begins (λ Next. refuses h.at too_long (ap (λ w. refused w too_long) h.place) (at_fault is))
  long_course word (inr h) = ends_with_certificate h.certifies (is_long h.cert (ap (λ w. refused w too_long) h.place) h.certifies.is h.long)

  faulty_course : (word : ℕ) (fault : SourceFault) → NamesFaulty words held word fault → Course words held (refused word fault)
  faulty_course word fault h = ends_at_files h.begins (λ Next. refuses h.at fault (ap (λ w. refused w fault) h.place) (at_fault h.source))

  twice_course : (word other : ℕ) → NamesTwice words held word other → Course words held (duplicate word other)
  twice_course word other h = ends_at_files h.begins (λ Next. repeats h.first h.second (ap₂ duplicate h.place h.other_place) h.duplicate_module)

  rule_course : (r : TableRule) → NamesBroken words held r → Course words held (rejected r)
  rule_course r h = ends_with_verdict h.judges (breaks r h.home refl h.broken)

  done_course : NamesGood words held ⊎ NamesCertificate words held → Course words held Done
  done_course (inl h) = ends_with_verdict h.judges (keeps refl h.keeps)
  done_course (inr h) = ends_with_certificate h.certifies (fits h.cert refl h.certifies.is h.short)

-- ---- when each answer comes

module _ (one_list : OneList) (one_refusal : OneRefusal) (none_refused : NoneRefused) (once : OnceSpelled) (fault_once : OneFault) (no_fault : NoFault)
    (one_certificate : OneCertificateLaw) (one_first : OneFirstLaw) (sound : SoundLaw) (words : List (List ℕ)) where
  module _ (held : Files) (after : Option Files) (status : RunStatus) (output : List ℕ) (outcome : Outcome words (Some held) status output after) where
    is : (other : RunStatus) → Course words held other → status ≡ other
    is other course = courses.one_course one_list one_refusal none_refused once fault_once no_fault one_certificate one_first held status other (course_of outcome) course

    cause : Cause words held after status
    cause = cause_of sound outcome

    missing_both : (word : ℕ) → (status ≡ refused word missing) ↔ NamesMissing words held word
    missing_both word = (λ e. missing_of (refused_to cause word missing e), λ h. is (refused word missing) (missing_course word h))

    table_both : (fault : FaultOfTable) → (status ≡ faulty_table fault) ↔ NamesBadTable words held fault
    table_both fault = (table_to cause fault, λ h. is (faulty_table fault) (table_course fault h))

    long_both : (word : ℕ) → (status ≡ refused word too_long) ↔ (NamesTooLong words held word ⊎ NamesLongCertificate words held word)
    long_both word = (λ e. long_of (refused_to cause word too_long e), λ h. is (refused word too_long) (long_course word h))

    faulty_both : (word : ℕ) (fault : SourceFault) → refusal_number fault.name ≤ 13 → (status ≡ refused word fault) ↔ NamesFaulty words held word fault
    faulty_both word fault low = (λ e. faulty_of fault low (refused_to cause word fault e), λ h. is (refused word fault) (faulty_course word fault h))

    twice_both : (word other : ℕ) → (status ≡ duplicate word other) ↔ NamesTwice words held word other
    twice_both word other = (twice_to cause word other, λ h. is (duplicate word other) (twice_course word other h))

    rule_both : (r : TableRule) → (status ≡ rejected r) ↔ NamesBroken words held r
    rule_both r = (rule_to cause r, λ h. is (rejected r) (rule_course r h))

    named : NamesGood words held ⊎ StoresCertificate words held after → NamesGood words held ⊎ NamesCertificate words held
    named (inl h) = inl h
    named (inr h) = inr (record { name = h.name; cert = h.cert; certifies = h.certifies; short = h.short })

    done_both : (status ≡ Done) ↔ (NamesGood words held ⊎ NamesCertificate words held)
    done_both = (λ e. named (done_to cause e), λ h. is Done (done_course h))

  module _ (told after : Option Files) (rb rn n k : ℕ) (status : RunStatus) (output : List ℕ) (intended : Intended words told rb rn n k status output after) where
    where_told : IsAnswer status → (P : Files → Type 0) → ((held : Files) → Outcome words (Some held) status output after → P held) → IfSome told P
    where_told answer P give = by told (outcome_of answer intended)
      where
        by : (some : Option Files) → Outcome words some status output after → IfSome some P
        by None o = tt
        by (Some held) o = give held o

    pub missing_it : IsAnswer status → IfSome told (λ held. (word : ℕ) → (status ≡ refused word missing) ↔ NamesMissing words held word)
    missing_it answer = where_told answer (λ held. (word : ℕ) → (status ≡ refused word missing) ↔ NamesMissing words held word) (λ held o. missing_both held after status output o)

    pub table_it : IsAnswer status → IfSome told (λ held. (fault : FaultOfTable) → fault ≢ t.Memory → (status ≡ faulty_table fault) ↔ NamesBadTable words held fault)
    table_it answer =
        where_told answer (λ held. (fault : FaultOfTable) → fault ≢ t.Memory → (status ≡ faulty_table fault) ↔ NamesBadTable words held fault)
        (λ held o fault some. table_both held after status output o fault)

    pub long_it : IsAnswer status → IfSome told (λ held. (word : ℕ) → (status ≡ refused word too_long) ↔ (NamesTooLong words held word ⊎ NamesLongCertificate words held word))
    long_it answer =
        where_told answer (λ held. (word : ℕ) → (status ≡ refused word too_long) ↔ (NamesTooLong words held word ⊎ NamesLongCertificate words held word))
        (λ held o. long_both held after status output o)

    pub faulty_it : IsAnswer status → IfSome told (λ held. (word : ℕ) (fault : SourceFault) → refusal_number fault.name ≤ 13 → (status ≡ refused word fault) ↔ NamesFaulty words held word fault)
    faulty_it answer =
        where_told answer (λ held. (word : ℕ) (fault : SourceFault) → refusal_number fault.name ≤ 13 → (status ≡ refused word fault) ↔ NamesFaulty words held word fault)
        (λ held o. faulty_both held after status output o)

    pub twice_it : IsAnswer status → IfSome told (λ held. (word other : ℕ) → (status ≡ duplicate word other) ↔ NamesTwice words held word other)
    twice_it answer = where_told answer (λ held. (word other : ℕ) → (status ≡ duplicate word other) ↔ NamesTwice words held word other) (λ held o. twice_both held after status output o)

    pub rule_it : IsAnswer status → IfSome told (λ held. (r : TableRule) → (status ≡ rejected r) ↔ NamesBroken words held r)
    rule_it answer = where_told answer (λ held. (r : TableRule) → (status ≡ rejected r) ↔ NamesBroken words held r) (λ held o. rule_both held after status output o)

    pub done_it : IsAnswer status → IfSome told (λ held. (status ≡ Done) ↔ (NamesGood words held ⊎ NamesCertificate words held))
    done_it answer = where_told answer (λ held. (status ≡ Done) ↔ (NamesGood words held ⊎ NamesCertificate words held)) (λ held o. done_both held after status output o)

    done : status ≡ Done → IsAnswer status
    done e = subst IsAnswer (sym e) tt

    pub sound_it : AsksForCheck words → status ≡ Done → IfSome told (λ held. NamesGood words held)
    sound_it asks e = where_told (done e) (NamesGood words) (λ held o. by held (done_to (cause_of sound o) e))
      where
        by : (held : Files) → NamesGood words held ⊎ StoresCertificate words held after → NamesGood words held
        by held (inl h) = h
        by held (inr h) = absurd (not_both h.certifies.makes.make asks.3)

    pub stores_it : AsksForMake words → status ≡ Done → IfSome told (λ held. StoresCertificate words held after)
    stores_it asks e = where_told (done e) (λ held. StoresCertificate words held after) (λ held o. by held (done_to (cause_of sound o) e))
      where
        by : (held : Files) → NamesGood words held ⊎ StoresCertificate words held after → StoresCertificate words held after
        by held (inl h) = absurd (not_both asks.2 h.judges.checks.check)
        by held (inr h) = h
