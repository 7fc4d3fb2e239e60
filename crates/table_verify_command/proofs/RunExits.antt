-- From what a run means to answer to what it answers, once all is written.
use Rattle.std.proofs.Common.{◌≡◌, ℕ, ◌+◌, ◌<◌, ◌≤◌, List, length, Option, Some, None, refl, sym, ap, ◌∙◌, subst, arith}
use Rattle.std.specs.Prelude.{IfSome}
use Rattle.std.proofs.lemmas.Option.{slice_get_within}
use Rattle.da_shelf.specs.Told.{Files, appended}
use Rattle.analysis_sources.specs.declared.refusals.Device.TheVariants.{Read, Replace, Write}
use Rattle.analysis_sources.specs.declared.refusals.SourceFault.{SourceFault}
use Rattle.analysis_sources.specs.Reading.{RefusedAt, not_held, at_fault}
use Rattle.analysis_sources.specs.Refusals.{missing}
use Rattle.analysis_answers.specs.declared.run_status.RunStatus.{RunStatus}
use Rattle.analysis_answers.specs.declared.run_status.RunStatus.TheVariants.{DeviceFault, Memory}
use Rattle.analysis_answers.specs.FileRuns.{IsAnswer}
use Rattle.analysis_answers.proofs.TableFaults.{table_number}
use Rattle.table_verify_command.specs.Lines.{too_long}
use Rattle.table_verify_command.specs.Outcome.{ReachesTable, to_table, to_certificate, Begins, by_make, by_check, Outcome, usage, many, no_table, bad_table, faulty, duplicate_module, long_certificate, made, accepts, rejects}
use Rattle.table_verify_command.specs.Outcome.{IsUnread, of_table, of_file, IsUnreplaced, Intended, answered, unread, unreplaced, Answers, FailsToRead, FailsToReplace, of_many, of_word, of_two, of_rule, IsPossible, StoresNothing}
use Rattle.table_verify_command.proofs.Commands.{make_files, check_files}

-- every outcome is an answer
answers : {words : List (List ℕ)} {told after : Option Files} {status : RunStatus} {output : List ℕ} → Outcome words told status output after → IsAnswer status
answers (usage a b c d) = subst IsAnswer (sym a) tt
answers (many a b c d) = subst IsAnswer (sym a) tt
answers (no_table word name a b c reaches gone) = subst IsAnswer (sym a) tt
answers (bad_table word name bytes fault a b c reaches holds is) = subst IsAnswer (sym a) tt
answers (faulty start files at file fault a b c begins there is) = subst IsAnswer (sym a) tt
answers (duplicate_module start files first second file other a b c begins f g is) = subst IsAnswer (sym a) tt
answers (long_certificate name cert a b c is long) = subst IsAnswer (sym a) tt
answers (made name cert a b c is short) = subst IsAnswer (sym a) tt
answers (accepts table cert M a b c judges kept) = subst IsAnswer (sym a) tt
answers (rejects table cert M r home a b c judges broken) = subst IsAnswer (sym a) tt

pub outcome_of : {words : List (List ℕ)} {told after : Option Files} {rb rn n k : ℕ} {status : RunStatus} {output : List ℕ} → IsAnswer status → Intended words told rb rn n k status output after
    → Outcome words told status output after
outcome_of h (answered o) = o
outcome_of h (unread word name a b c d rose) = absurd (subst IsAnswer a h)
outcome_of h (unreplaced word name a b d rose) = absurd (subst IsAnswer a h)

-- the headline
pub answers_it : (words : List (List ℕ)) (told after : Option Files) (rb rn n k : ℕ) (status : RunStatus) (output : List ℕ) (before now : Option (List ℕ)) → Intended words told rb rn n k status output after
    → now ≡ appended before output
    → IsAnswer status → IfSome told (λ held. Answers words held after status before now)
answers_it words None after rb rn n k status output before now h w a = tt
answers_it words (Some held) after rb rn n k status output before now h w a = record { output = output; outcome = outcome_of a h; written = w }

-- ---- the faults of devices

module _ (words : List (List ℕ)) (told after : Option Files) (rb rn n k : ℕ) (status : RunStatus) (output : List ℕ) (intended : Intended words told rb rn n k status output after) where
  pub read_it : (before now : Option (List ℕ)) → now ≡ appended before output → (word : ℕ) → status ≡ DeviceFault (Read word) → FailsToRead words told word rb rn before now
  read_it before now w word e = by intended
    where
      by : Intended words told rb rn n k status output after → FailsToRead words told word rb rn before now
      by (answered o) = absurd (subst IsAnswer e (answers o))
      by (unread at name a b c d rose) =
          let same : at ≡ word = let e2 = sym a ∙ e in cc in
          record { name = name; unread_so = subst (λ v. IsUnread words told v name) same d; rose = rose; written = w ∙ ap (appended before) b }
      by (unreplaced at name a b d rose) = let e2 = sym a ∙ e in absurd cc

  pub replace_it : (before now : Option (List ℕ)) → now ≡ appended before output → (word : ℕ) → status ≡ DeviceFault (Replace word) → FailsToReplace words told after word n k before now
  replace_it before now w word e = by intended
    where
      by : Intended words told rb rn n k status output after → FailsToReplace words told after word n k before now
      by (answered o) = absurd (subst IsAnswer e (answers o))
      by (unread at name a b c d rose) = let e2 = sym a ∙ e in absurd cc
      by (unreplaced at name a b d rose) =
          let same : at ≡ word = let e2 = sym a ∙ e in cc in
          record { name = name; unreplaced_so = subst (λ v. IsUnreplaced words told v name after) same d; rose = rose; written = w ∙ ap (appended before) b }

  pub never_writes : status ≡ DeviceFault Write → ⊥
  never_writes e = by intended
    where
      by : Intended words told rb rn n k status output after → ⊥
      by (answered o) = subst IsAnswer e (answers o)
      by (unread at name a b c d rose) = let e2 = sym a ∙ e in absurd cc
      by (unreplaced at name a b d rose) = let e2 = sym a ∙ e in absurd cc

  pub never_memory : status ≡ Memory → ⊥
  never_memory e = by intended
    where
      by : Intended words told rb rn n k status output after → ⊥
      by (answered o) = subst IsAnswer e (answers o)
      by (unread at name a b c d rose) = let e2 = sym a ∙ e in absurd cc
      by (unreplaced at name a b d rose) = let e2 = sym a ∙ e in absurd cc

-- ---- no other status

-- a table's name stands in front of the files
table_place : {words : List (List ℕ)} {told : Option Files} {word : ℕ} {name : List ℕ} → ReachesTable words told word name → (1 ≤ word) × (word < length words)
table_place (to_table cert files at checks) = let f = check_files checks.check in (omega (arith, at), omega (arith, at, f.1))
table_place (to_certificate table_name files table at checks read) = let f = check_files checks.check in (omega (arith, at), omega (arith, at, f.1))

files_place : {words : List (List ℕ)} {told : Option Files} {start : ℕ} {files : List (List ℕ)} → Begins words told start files → (2 ≤ start) × (length words ≡ start + length files)
files_place (by_make cert at makes) = let f = make_files makes.make in (omega (arith, at), omega (arith, at, f.1))
files_place (by_check table_name cert_name table cert at checks one other) = let f = check_files checks.check in (omega (arith, at), omega (arith, at, f.1))

stands : {told : Option Files} {files : List (List ℕ)} {at : ℕ} {fault : SourceFault} → RefusedAt told files at fault → at < length files
stands {files = files} {at = at} (not_held e h) = slice_get_within files at h.file h.reached.there
stands {files = files} {at = at} (at_fault h) = slice_get_within files at h.file h.reached.there

possible_outcome : {words : List (List ℕ)} {told after : Option Files} {status : RunStatus} {output : List ℕ} → Outcome words told status output after → IsPossible words status
possible_outcome {words} (usage a b c d) = subst (IsPossible words) (sym a) tt
possible_outcome {words} (many a b c d) = subst (IsPossible words) (sym a) (of_many refl)
possible_outcome {words} (no_table word name a b c reaches gone) = let p = table_place reaches in subst (IsPossible words) (sym a) (of_word word missing p.0 p.1 refl)
possible_outcome {words} (bad_table word name bytes fault a b c reaches holds is) = subst (IsPossible words) (sym a) (table_number fault is.some)
possible_outcome {words} (faulty start files at file fault a b c begins there is) =
    let p = files_place begins in
    let low = stands is in
    subst (IsPossible words) (sym a) (of_word (start + at) fault (omega (arith, p.0)) (omega (arith, p.1, low)) refl)
possible_outcome {words} (duplicate_module start files first second file other a b c begins f g is) =
    let p = files_place begins in
    let low = slice_get_within files second file f in
    subst (IsPossible words) (sym a) (of_two (start + second) (start + first) (omega (arith, p.0)) (omega (arith, is.is.before)) (omega (arith, p.1, low)) refl)
possible_outcome {words} (long_certificate name cert a b c is long) =
    let f = make_files is.makes.make in
    subst (IsPossible words) (sym a) (of_word 1 too_long (omega arith) (omega (arith, f.1)) refl)
possible_outcome {words} (made name cert a b c is short) = subst (IsPossible words) (sym a) tt
possible_outcome {words} (accepts table cert M a b c judges kept) = subst (IsPossible words) (sym a) tt
possible_outcome {words} (rejects table cert M r home a b c judges broken) = subst (IsPossible words) (sym a) (of_rule r refl)

unread_place : {words : List (List ℕ)} {told : Option Files} {word : ℕ} {name : List ℕ} → IsUnread words told word name → (1 ≤ word) × (word < length words)
unread_place (of_table reaches) = table_place reaches
unread_place {name = name} (of_file start files at before place begins reached) =
    let p = files_place begins in
    let low = slice_get_within files at name reached.there in
    (omega (arith, place, p.0), omega (arith, place, p.1, low))

pub possible_it : (words : List (List ℕ)) (told after : Option Files) (rb rn n k : ℕ) (status : RunStatus) (output : List ℕ) → Intended words told rb rn n k status output after → IsPossible words status
possible_it words told after rb rn n k status output (answered o) = possible_outcome o
possible_it words told after rb rn n k status output (unread word name a b c d rose) = subst (IsPossible words) (sym a) (unread_place d)
possible_it words told after rb rn n k status output (unreplaced word name a b d rose) = subst (IsPossible words) (sym a) d.place

-- ---- what stays

stays_outcome : {words : List (List ℕ)} {told after : Option Files} {status : RunStatus} {output : List ℕ} → Outcome words told status output after → StoresNothing status → after ≡ told
stays_outcome (usage a b c d) h = c
stays_outcome (many a b c d) h = c
stays_outcome (no_table word name a b c reaches gone) h = c
stays_outcome (bad_table word name bytes fault a b c reaches holds is) h = c
stays_outcome (faulty start files at file fault a b c begins there is) h = c
stays_outcome (duplicate_module start files first second file other a b c begins f g is) h = c
stays_outcome (long_certificate name cert a b c is long) h = c
stays_outcome (made name cert a b c is short) h = absurd (subst StoresNothing a h)
stays_outcome (accepts table cert M a b c judges kept) h = c
stays_outcome (rejects table cert M r home a b c judges broken) h = c

pub stays_it : (words : List (List ℕ)) (told after : Option Files) (rb rn n k : ℕ) (status : RunStatus) (output : List ℕ) → Intended words told rb rn n k status output after → StoresNothing status → after ≡ told
stays_it words told after rb rn n k status output (answered o) h = stays_outcome o h
stays_it words told after rb rn n k status output (unread word name a b c d rose) h = c
stays_it words told after rb rn n k status output (unreplaced word name a b d rose) h = absurd (subst StoresNothing a h)
