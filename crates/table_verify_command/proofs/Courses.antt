-- The course of a run, step by step: the words, each table, the files, and what is made of them. Two courses of the same words end with
-- one status, where the same is held.
use Rattle.std.proofs.Common.{◌≡◌, ℕ, ◌+◌, true, false, List, Option, Some, refl, sym, ap, ap₂, ◌∙◌, subst, true≢false}
use Rattle.type_kinds.specs.declared.atom.Atom.{Atom}
use Rattle.da_shelf.specs.Told.{Files, Holds, Lacks}
use Rattle.table_file.specs.declared.tables.Table.{Table}
use Rattle.table_file.specs.declared.faults.TableFault.{TableFault as FaultOfTable}
use Rattle.table_file.specs.Lengths.{is_short_table}
use Rattle.table_keep.specs.Model.{Source, trees, entries_so}
use Rattle.sound_laws_kept.specs.Solving.{AreSources}
use Rattle.analysis_sources.specs.declared.refusals.SourceFault.{SourceFault}
use Rattle.analysis_sources.specs.Reading.{RefusedAt}
use Rattle.analysis_sources.specs.Refusals.{missing}
use Rattle.analysis_answers.specs.declared.run_status.RunStatus.{RunStatus}
use Rattle.analysis_answers.specs.declared.run_status.RunStatus.TheVariants.{Done, Usage}
use Rattle.analysis_answers.specs.FileRuns.{refused, too_many, duplicate}
use Rattle.analysis_answers.specs.ReadFiles.{IsDuplicate}
use Rattle.analysis_answers.specs.Tables.{IsFaultOf, IsTableRead, faulty_table}
use Rattle.analysis_answers.proofs.AnswerExits.{apart}
use Rattle.analysis_answers.proofs.HeldOnce.{NoFault, NoneRefused, OnceSpelled, OneFault, OneList, OneRefusal}
use Rattle.analysis_answers.proofs.HeldOnce.{not_both_held, not_faulty, not_read, not_repeated, one_fault, one_reading, one_repeated, one_table}
use Rattle.analysis_answers.proofs.TableModels.{same_short}
use Rattle.table_verify_laws.specs.Certificates.{IsCertificate}
use Rattle.table_verify_laws.specs.Laws.{OneCertificateLaw, OneFirstLaw}
use Rattle.table_verify_laws.specs.Rules.{IsFirstBroken, KeepsRules, TableRule}
use Rattle.table_verify_command.specs.Lines.{rejected, too_long}
use Rattle.table_verify_command.specs.Outcome.{ReachesTable, to_table, to_certificate, Begins, by_make, by_check, ReadsModules, Certifies, Judges}
use Rattle.table_verify_command.specs.Outcome.{Outcome, usage, many, no_table, bad_table, faulty, duplicate_module, long_certificate, made, accepts, rejects}
use Rattle.table_verify_command.specs.Words.{IsNoCommand, NamesTooMany, Makes, Checks}
use Rattle.table_verify_command.proofs.Commands.{one_make, one_check, not_both, many_make, many_check, no_make, no_check}

-- ---- the steps

-- A table is read and the run goes on, or it ends there.
pub data TableCourse (held : Files) (word : ℕ) (name : List ℕ) (Next : Table → Type 0) (status : RunStatus) : Type 0 where
  lacks : status ≡ refused word missing → Lacks (Some held) name → TableCourse held word name Next status
  spoils : (bytes : List ℕ) (fault : FaultOfTable) → status ≡ faulty_table fault → Holds (Some held) name bytes → IsFaultOf bytes fault
      → TableCourse held word name Next status
  goes_on : (table : Table) → IsTableRead (Some held) name table → Next table → TableCourse held word name Next status

-- All files are read and the run goes on, or it ends there.
pub data FilesCourse (held : Files) (start : ℕ) (files : List (List ℕ)) (Next : List Source → Type 0) (status : RunStatus) : Type 0 where
  refuses : (at : ℕ) (fault : SourceFault) → status ≡ refused (start + at) fault → RefusedAt (Some held) files at fault
      → FilesCourse held start files Next status
  repeats : (first second : ℕ) → status ≡ duplicate (start + second) (start + first) → IsDuplicate (Some held) files first second
      → FilesCourse held start files Next status
  reads_all : (M : List Source) → ReadsModules (Some held) files M → Next M → FilesCourse held start files Next status

-- A certificate is made, whether it fits or not.
pub data MadeOf (status : RunStatus) (M : List Source) : Type 0 where
  fits : (cert : Table) → status ≡ Done → IsCertificate M (entries_so cert) → is_short_table cert ≡ true → MadeOf status M
  is_long : (cert : Table) → status ≡ refused 1 too_long → IsCertificate M (entries_so cert) → is_short_table cert ≡ false → MadeOf status M

-- A table is judged.
pub data JudgedOf (status : RunStatus) (T C : Table) (M : List Source) : Type 0 where
  keeps : status ≡ Done → KeepsRules (entries_so T) (entries_so C) M → JudgedOf status T C M
  breaks : (r : TableRule) (home : Atom) → status ≡ rejected r → IsFirstBroken (entries_so T) (entries_so C) M r home → JudgedOf status T C M

abbrev pub MakeCourse : Files → List (List ℕ) → RunStatus → Type 0
MakeCourse held files status = FilesCourse held 2 files (MadeOf status) status

abbrev pub CheckCourse : Files → (table cert : List ℕ) → List (List ℕ) → RunStatus → Type 0
CheckCourse held table cert files status =
    TableCourse held 1 table (λ T. TableCourse held 2 cert (λ C. FilesCourse held 3 files (JudgedOf status T C) status) status) status

pub data Course (words : List (List ℕ)) (held : Files) (status : RunStatus) : Type 0 where
  asks_nothing : status ≡ Usage → IsNoCommand words → Course words held status
  asks_much : status ≡ too_many → NamesTooMany words → Course words held status
  asks_make : (cert : List ℕ) (files : List (List ℕ)) → Makes words cert files → MakeCourse held files status → Course words held status
  asks_check : (table cert : List ℕ) (files : List (List ℕ)) → Checks words table cert files → CheckCourse held table cert files status
      → Course words held status

-- ---- the course of an outcome

module _ {words : List (List ℕ)} {held : Files} {status : RunStatus} where
  -- it ends at a table
  pub ends_at_table : {word : ℕ} {name : List ℕ} → ReachesTable words (Some held) word name → ((Next : Table → Type 0) → TableCourse held word name Next status) → Course words held status
  ends_at_table {word} {name} (to_table cert files at checks) ends =
      asks_check name cert files checks (subst (λ w. TableCourse held w name (λ T. TableCourse held 2 cert (λ C. FilesCourse held 3 files (JudgedOf status T C) status) status) status) at (ends _))
  ends_at_table {word} {name} (to_certificate table_name files table at checks read) ends =
      asks_check table_name name files checks
      (goes_on table read (subst (λ w. TableCourse held w name (λ C. FilesCourse held 3 files (JudgedOf status table C) status) status) at (ends _)))

  -- it ends at the files
  pub ends_at_files : {start : ℕ} {files : List (List ℕ)} → Begins words (Some held) start files → ((Next : List Source → Type 0) → FilesCourse held start files Next status) → Course words held status
  ends_at_files {start} {files} (by_make cert at makes) ends =
      asks_make cert files makes (subst (λ n. FilesCourse held n files (MadeOf status) status) at (ends _))
  ends_at_files {start} {files} (by_check table_name cert_name table cert at checks one other) ends =
      asks_check table_name cert_name files checks
      (goes_on table one (goes_on cert other (subst (λ n. FilesCourse held n files (JudgedOf status table cert) status) at (ends _))))

  -- it ends with a certificate
  pub ends_with_certificate : {name : List ℕ} {cert : Table} (c : Certifies words (Some held) name cert) → MadeOf status c.sources → Course words held status
  ends_with_certificate {name} c ends = asks_make name c.files c.makes (reads_all c.sources c.read ends)

  -- it ends with a verdict
  pub ends_with_verdict : {table cert : Table} {M : List Source} → Judges words (Some held) table cert M → JudgedOf status table cert M → Course words held status
  ends_with_verdict {table} {cert} {M} j ends =
      asks_check j.table_name j.cert_name j.files j.checks (goes_on table j.table_read (goes_on cert j.cert_read (reads_all M j.read ends)))

  pub course_of : {output : List ℕ} {after : Option Files} → Outcome words (Some held) status output after → Course words held status
  course_of (usage a b c d) = asks_nothing a d
  course_of (many a b c d) = asks_much a d
  course_of (no_table word name a b c reaches gone) = ends_at_table reaches (λ Next. lacks a gone)
  course_of (bad_table word name bytes fault a b c reaches holds is) = ends_at_table reaches (λ Next. spoils bytes fault a holds is)
  course_of (faulty start files at file fault a b c begins there is) = ends_at_files begins (λ Next. refuses at fault a is)
  course_of (duplicate_module start files first second file other a b c begins f g is) = ends_at_files begins (λ Next. repeats first second a is)
  course_of (long_certificate name cert a b c is long) = ends_with_certificate is (is_long cert a is.is long)
  course_of (made name cert a b c is short) = ends_with_certificate is (fits cert a is.is short)
  course_of (accepts table cert M a b c judges kept) = ends_with_verdict judges (keeps a kept)
  course_of (rejects table cert M r home a b c judges broken) = ends_with_verdict judges (breaks r home a broken)

-- ---- one course

pub are_sources : (held : Files) {files : List (List ℕ)} {M : List Source} → ReadsModules (Some held) files M → AreSources M
are_sources held {M = M} read = record { accepted = read.accepted; distinct = apart (trees M) read.names }

module _ (one_list : OneList) (one_refusal : OneRefusal) (none_refused : NoneRefused) (once : OnceSpelled) (fault_once : OneFault) (no_fault : NoFault)
    (one_certificate : OneCertificateLaw) (one_first : OneFirstLaw) (held : Files) where
  one_table_course : (word : ℕ) (name : List ℕ) (Next Then : Table → Type 0) (s u : RunStatus) → ((T : Table) → Next T → Then T → s ≡ u) → TableCourse held word name Next s → TableCourse held word name Then u → s ≡ u
  one_table_course word name Next Then s u next (lacks a gone) (lacks b also) = a ∙ sym b
  one_table_course word name Next Then s u next (lacks a gone) (spoils bytes fault b holds is) = absurd (not_both_held held refl holds gone)
  one_table_course word name Next Then s u next (lacks a gone) (goes_on table read more) = absurd (not_both_held held refl read.held_so gone)
  one_table_course word name Next Then s u next (spoils bytes fault a holds is) (lacks b gone) = absurd (not_both_held held refl holds gone)
  one_table_course word name Next Then s u next (spoils bytes fault a holds is) (spoils other cause b also so) =
      a ∙ ap faulty_table (one_fault fault_once held refl holds is also so) ∙ sym b
  one_table_course word name Next Then s u next (spoils bytes fault a holds is) (goes_on table read more) = absurd (not_faulty no_fault held refl holds is read)
  one_table_course word name Next Then s u next (goes_on table read more) (lacks b gone) = absurd (not_both_held held refl read.held_so gone)
  one_table_course word name Next Then s u next (goes_on table read more) (spoils bytes fault b holds is) = absurd (not_faulty no_fault held refl holds is read)
  one_table_course word name Next Then s u next (goes_on table read more) (goes_on other also rest) =
      next table more (subst Then (one_table once held refl also read) rest)

  one_files_course : (start : ℕ) (files : List (List ℕ)) (Next Then : List Source → Type 0) (s u : RunStatus) → ((M : List Source) → ReadsModules (Some held) files M → Next M → Then M → s ≡ u)
      → FilesCourse held start files Next s → FilesCourse held start files Then u → s ≡ u
  one_files_course start files Next Then s u next (refuses i f a is) (refuses j g b so) =
      let same = one_refusal held files i j f g is so in
      a ∙ ap₂ (λ n e. refused (start + n) e) same.0 same.1 ∙ sym b
  one_files_course start files Next Then s u next (refuses i f a is) (repeats first second b so) = absurd (not_read none_refused is so.read)
  one_files_course start files Next Then s u next (refuses i f a is) (reads_all M read more) = absurd (not_read none_refused is read.read)
  one_files_course start files Next Then s u next (repeats first second a is) (refuses j g b so) = absurd (not_read none_refused so is.read)
  one_files_course start files Next Then s u next (repeats i j a is) (repeats k l b so) =
      let same = one_repeated one_list is so in
      a ∙ ap₂ (λ v w. duplicate (start + w) (start + v)) same.0 same.1 ∙ sym b
  one_files_course start files Next Then s u next (repeats first second a is) (reads_all M read more) = absurd (not_repeated one_list is read.read read.names)
  one_files_course start files Next Then s u next (reads_all M read more) (refuses j g b so) = absurd (not_read none_refused so read.read)
  one_files_course start files Next Then s u next (reads_all M read more) (repeats first second b so) = absurd (not_repeated one_list so read.read read.names)
  one_files_course start files Next Then s u next (reads_all M read more) (reads_all N also rest) =
      next M read more (subst Then (one_reading one_list also.read read.read) rest)

  pub certificates_fit : {files : List (List ℕ)} {M : List Source} (cert other : Table) → ReadsModules (Some held) files M → IsCertificate M (entries_so cert) → IsCertificate M (entries_so other)
      → is_short_table cert ≡ is_short_table other
  certificates_fit {M = M} cert other read h k = same_short cert other (one_certificate M (entries_so cert) (entries_so other) (are_sources held read) h k)

  one_made : {files : List (List ℕ)} (s u : RunStatus) (M : List Source) → ReadsModules (Some held) files M → MadeOf s M → MadeOf u M → s ≡ u
  one_made s u M read (fits cert a h short) (fits other b k also) = a ∙ sym b
  one_made s u M read (fits cert a h short) (is_long other b k long) = absurd (true≢false (sym short ∙ certificates_fit cert other read h k ∙ long))
  one_made s u M read (is_long cert a h long) (fits other b k short) = absurd (true≢false (sym short ∙ certificates_fit other cert read k h ∙ long))
  one_made s u M read (is_long cert a h long) (is_long other b k also) = a ∙ sym b

  one_judged : (s u : RunStatus) (T C : Table) (M : List Source) → JudgedOf s T C M → JudgedOf u T C M → s ≡ u
  one_judged s u T C M (keeps a kept) (keeps b also) = a ∙ sym b
  one_judged s u T C M (keeps a kept) (breaks r home b broken) = absurd (broken.broken (kept r home))
  one_judged s u T C M (breaks r home a broken) (keeps b kept) = absurd (broken.broken (kept r home))
  one_judged s u T C M (breaks r home a broken) (breaks q other b also) =
      a ∙ ap rejected (one_first (entries_so T) (entries_so C) M r q home other broken also).0 ∙ sym b

  one_make_course : (files : List (List ℕ)) (s u : RunStatus) → MakeCourse held files s → MakeCourse held files u → s ≡ u
  one_make_course files s u h k = one_files_course 2 files (MadeOf s) (MadeOf u) s u (λ M read. one_made s u M read) h k

  one_check_course : (table cert : List ℕ) (files : List (List ℕ)) (s u : RunStatus) → CheckCourse held table cert files s → CheckCourse held table cert files u → s ≡ u
  one_check_course table cert files s u h k =
      one_table_course 1 table _ _ s u
      (λ T. one_table_course 2 cert _ _ s u (λ C. one_files_course 3 files (JudgedOf s T C) (JudgedOf u T C) s u (λ M read. one_judged s u T C M))) h k

  pub one_course : {words : List (List ℕ)} (s u : RunStatus) → Course words held s → Course words held u → s ≡ u
  one_course s u (asks_nothing a none) (asks_nothing b also) = a ∙ sym b
  one_course s u (asks_nothing a none) (asks_much b much) = absurd (none much.start much.files much.command)
  one_course s u (asks_nothing a none) (asks_make cert files makes k) = absurd (no_make none makes)
  one_course s u (asks_nothing a none) (asks_check table cert files checks k) = absurd (no_check none checks)
  one_course s u (asks_much a much) (asks_nothing b none) = absurd (none much.start much.files much.command)
  one_course s u (asks_much a much) (asks_much b also) = a ∙ sym b
  one_course s u (asks_much a much) (asks_make cert files makes k) = absurd (many_make much makes)
  one_course s u (asks_much a much) (asks_check table cert files checks k) = absurd (many_check much checks)
  one_course s u (asks_make cert files makes h) (asks_nothing b none) = absurd (no_make none makes)
  one_course s u (asks_make cert files makes h) (asks_much b much) = absurd (many_make much makes)
  one_course s u (asks_make cert files makes h) (asks_make other those also k) =
      one_make_course files s u h (subst (λ fs. MakeCourse held fs u) (one_make also.make makes.make).1 k)
  one_course s u (asks_make cert files makes h) (asks_check table other those checks k) = absurd (not_both makes.make checks.check)
  one_course s u (asks_check table cert files checks h) (asks_nothing b none) = absurd (no_check none checks)
  one_course s u (asks_check table cert files checks h) (asks_much b much) = absurd (many_check much checks)
  one_course s u (asks_check table cert files checks h) (asks_make other those makes k) = absurd (not_both makes.make checks.check)
  one_course s u (asks_check table cert files checks h) (asks_check name other those also k) =
      let same = one_check also.check checks.check in
      one_check_course table cert files s u h
      (subst (λ n. CheckCourse held n cert files u) same.0 (subst (λ c. CheckCourse held name c files u) same.1 (subst (λ fs. CheckCourse held name other fs u) same.2 k)))
