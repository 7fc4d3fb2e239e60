-- From what a run over files means to answer to what it answers once all is written, and to the cause of each answer.
use Rattle.std.proofs.Common.{◌≡◌, ◌↔◌, ℕ, ◌<◌, ◌≤◌, List, length, map, refl, sym, ◌∙◌, ap, subst, Option, Some, None, arith}
use Rattle.std.specs.Prelude.{IfSome}
use Rattle.std.proofs.lemmas.Option.{slice_get_within}
use Rattle.core_ast.specs.Model as m
use Rattle.core_scope.specs.Sets.{FirstDuplicate}
use Rattle.da_shelf.specs.Told.{Files, appended}
use Rattle.table_keep.specs.Model.{Source, trees}
use Rattle.analysis_sources.specs.declared.refusals.Device.TheVariants.{Read, Write}
use Rattle.analysis_sources.specs.declared.refusals.SourceFault.{SourceFault}
use Rattle.analysis_sources.specs.Reading.{HoldsAt, RefusedAt, not_held, at_fault}
use Rattle.analysis_sources.specs.Refusals.{refusal_number, missing}
use Rattle.analysis_sources.specs.Sources.{IsAtFault, too_long}
use Rattle.analysis_answers.specs.declared.run_status.RunStatus.{RunStatus}
use Rattle.analysis_answers.specs.declared.run_status.RunStatus.TheVariants.{Done, DeviceFault, Memory, Usage}
use Rattle.analysis_answers.specs.FileRuns.{refused, too_many, duplicate, Declines, no_command, many_files, file_refused, same_name, Outcome, declined, passed, IsAnswer, IsUnread}
use Rattle.analysis_answers.specs.FileRuns.{declining, failing, Intended, stopped, written, Answers, Writes, FailsToRead, of_many, of_file, of_two, IsPossible}
use Rattle.analysis_answers.specs.FileCauses.{NamesMissing, NamesTooLong, NamesFaulty, NamesTwice, NamesModules}
use Rattle.analysis_answers.specs.Words.{IsNoCommand, NamesFiles, NamesTooMany}
use Rattle.analysis_answers.proofs.FileRefusals.{tells, kind, refusal_of, told_once, long_fault, never_missing, only_long}
use Rattle.analysis_answers.proofs.HeldOnce.{NoneRefused, OneList, OneRefusal, not_read, not_repeated, one_repeated}

-- ---- what is answered once all is written

module _ (usage_line : List ℕ) (Gives : List Source → List ℕ → Type 0) (words : List (List ℕ)) (told : Option Files) where
  declines_answer : {status : RunStatus} {output : List ℕ} → Declines usage_line words told status output → IsAnswer status
  declines_answer (no_command a b c) = subst IsAnswer (sym a) tt
  declines_answer (many_files a b c) = subst IsAnswer (sym a) tt
  declines_answer (file_refused at file fault a b c d f) = subst IsAnswer (sym a) tt
  declines_answer (same_name first second file other a b c d f g) = subst IsAnswer (sym a) tt

  module _ (reads reads_now : ℕ) (status : RunStatus) (output : List ℕ) (intended : Intended usage_line Gives words told reads reads_now status output) where
    outcome_of : IsAnswer status → Outcome usage_line Gives words told status output
    outcome_of answer = by intended
      where
        by : Intended usage_line Gives words told reads reads_now status output → Outcome usage_line Gives words told status output
        by (stopped (declining h)) = declined h
        by (stopped (failing word name a b c d)) = absurd (subst IsAnswer a answer)
        by (written a h) = passed a h

    pub reads_it : (before now : Option (List ℕ)) → now ≡ appended before output → (word : ℕ) → status ≡ DeviceFault (Read word) → FailsToRead words told word reads reads_now before now
    reads_it before now w word e = by intended
      where
        by : Intended usage_line Gives words told reads reads_now status output → FailsToRead words told word reads reads_now before now
        by (stopped (declining h)) = absurd (subst IsAnswer e (declines_answer h))
        by (stopped (failing at name a b c d)) =
            let same : at ≡ word = let k = sym a ∙ e in cc in
            record { name = name; unread_so = subst (λ v. IsUnread words told v name) same c; rose = d; written_so = w ∙ ap (appended before) b }
        by (written a h) = let k = sym a ∙ e in absurd cc

    -- status by status
    pub never_writes : status ≡ DeviceFault Write → ⊥
    never_writes e = by intended
      where
        by : Intended usage_line Gives words told reads reads_now status output → ⊥
        by (stopped (declining h)) = subst IsAnswer e (declines_answer h)
        by (stopped (failing at name a b c d)) = let k = sym a ∙ e in absurd cc
        by (written a h) = let k = sym a ∙ e in absurd cc

    pub never_memory : status ≡ Memory → ⊥
    never_memory e = by intended
      where
        by : Intended usage_line Gives words told reads reads_now status output → ⊥
        by (stopped (declining h)) = subst IsAnswer e (declines_answer h)
        by (stopped (failing at name a b c d)) = let k = sym a ∙ e in absurd cc
        by (written a h) = let k = sym a ∙ e in absurd cc

    pub possible_it : IsPossible words status
    possible_it = by intended
      where
        stands : {at : ℕ} {fault : SourceFault} → RefusedAt told words at fault → at < length words
        stands {at} (not_held e h) = slice_get_within words at h.file h.reached.there
        stands {at} (at_fault h) = slice_get_within words at h.file h.reached.there

        by : Intended usage_line Gives words told reads reads_now status output → IsPossible words status
        by (stopped (declining (no_command a b c))) = subst (IsPossible words) (sym a) tt
        by (stopped (declining (many_files a b c))) = subst (IsPossible words) (sym a) (of_many refl)
        by (stopped (declining (file_refused at file fault a b c d f))) = subst (IsPossible words) (sym a) (of_file at fault (stands f) refl)
        by (stopped (declining (same_name first second file other a b c d f g))) = subst (IsPossible words) (sym a) (of_two second first g.is.before (slice_get_within words second file d) refl)
        by (stopped (failing at name a b c d)) = subst (IsPossible words) (sym a) (slice_get_within words at name c.reached.there)
        by (written a h) = subst (IsPossible words) (sym a) tt

    pub usage_it : IsAnswer status → (status ≡ Usage) ↔ IsNoCommand words
    usage_it answer = (λ e. to (outcome_of answer) (ap kind e), λ none. from (outcome_of answer) none)
      where
        to : Outcome usage_line Gives words told status output → kind status ≡ 104 → IsNoCommand words
        to (declined (no_command a b c)) e = c
        to (declined (many_files a b c)) e = absurd (omega (arith, e, ap kind a))
        to (declined (file_refused at file fault a b c d f)) e = absurd (omega (arith, e, ap kind a, (tells fault.name).low))
        to (declined (same_name first second file other a b c d f g)) e = absurd (omega (arith, e, ap kind a))
        to (passed a h) e = absurd (omega (arith, e, ap kind a))

        from : Outcome usage_line Gives words told status output → IsNoCommand words → status ≡ Usage
        from (declined (no_command a b c)) none = a
        from (declined (many_files a b c)) none = absurd (none c.command)
        from (declined (file_refused at file fault a b c d f)) none = absurd (none c.command)
        from (declined (same_name first second file other a b c d f g)) none = absurd (none c.command)
        from (passed a h) none = absurd (none h.named.command)

    pub many_it : IsAnswer status → (status ≡ too_many) ↔ NamesTooMany words
    many_it answer = (λ e. to (outcome_of answer) (ap kind e), λ many. from (outcome_of answer) many)
      where
        to : Outcome usage_line Gives words told status output → kind status ≡ 24 → NamesTooMany words
        to (declined (no_command a b c)) e = absurd (omega (arith, e, ap kind a))
        to (declined (many_files a b c)) e = c
        to (declined (file_refused at file fault a b c d f)) e = absurd ((tells fault.name).of_some (sym (ap kind a) ∙ e))
        to (declined (same_name first second file other a b c d f g)) e = absurd (omega (arith, e, ap kind a))
        to (passed a h) e = absurd (omega (arith, e, ap kind a))

        from : Outcome usage_line Gives words told status output → NamesTooMany words → status ≡ too_many
        from (declined (no_command a b c)) many = absurd (c many.command)
        from (declined (many_files a b c)) many = a
        from (declined (file_refused at file fault a b c d f)) many = absurd (omega (arith, many.many, c.few))
        from (declined (same_name first second file other a b c d f g)) many = absurd (omega (arith, many.many, c.few))
        from (passed a h) many = absurd (omega (arith, many.many, h.named.few))

    pub answers_it : (before now : Option (List ℕ)) → now ≡ appended before output → IsAnswer status → IfSome told (λ held. Answers usage_line Gives words held status before now)
    answers_it before now w answer = by told (outcome_of answer)
      where
        by : (some : Option Files) → Outcome usage_line Gives words some status output → IfSome some (λ held. Answers usage_line Gives words held status before now)
        by None o = tt
        by (Some held) o = record { output = output; outcome = o; written_so = w }

    pub writes_it : (before now : Option (List ℕ)) → now ≡ appended before output → status ≡ Done → IfSome told (λ held. Writes Gives words held before now)
    writes_it before now w e = by told intended
      where
        by : (some : Option Files) → Intended usage_line Gives words some reads reads_now status output → IfSome some (λ held. Writes Gives words held before now)
        by None h = tt
        by (Some held) (stopped (declining (no_command a b c))) = let k = sym a ∙ e in absurd cc
        by (Some held) (stopped (declining (many_files a b c))) = let k = sym a ∙ e in absurd cc
        by (Some held) (stopped (declining (file_refused at file fault a b c d f))) = let k = sym a ∙ e in absurd cc
        by (Some held) (stopped (declining (same_name first second file other a b c d f g))) = let k = sym a ∙ e in absurd cc
        by (Some held) (stopped (failing word name a b c d)) = let k = sym a ∙ e in absurd cc
        by (Some held) (written a p) = record { output = output; passes = p; written_so = w }

-- ---- the causes of answers, where it is told what is held

module _ (one_list : OneList) (one_refusal : OneRefusal) (none_refused : NoneRefused) (usage_line : List ℕ) (Gives : List Source → List ℕ → Type 0) (words : List (List ℕ)) where
  module _ (held : Files) (status : RunStatus) (output : List ℕ) (outcome : Outcome usage_line Gives words (Some held) status output) where
    abbrev Run : Type 0
    Run = Outcome usage_line Gives words (Some held) status output

    refused_to : (word : ℕ) (fault : SourceFault) → status ≡ refused word fault → NamesFiles words × RefusedAt (Some held) words word fault
    refused_to word fault e = by outcome
      where
        by : Run → NamesFiles words × RefusedAt (Some held) words word fault
        by (declined (no_command a b c)) = absurd (omega (arith, ap kind e, ap kind a, (tells fault.name).low))
        by (declined (many_files a b c)) = absurd ((tells fault.name).of_some (sym (ap kind e) ∙ ap kind a))
        by (declined (file_refused at file other a b c d f)) =
            let same = told_once at word other fault (sym a ∙ e) in
            (c, subst (λ g. RefusedAt (Some held) words word g) same.1 (subst (λ w. RefusedAt (Some held) words w other) same.0 f))
        by (declined (same_name first second file other a b c d f g)) = absurd ((tells fault.name).of_one (sym (ap kind e) ∙ ap kind a))
        by (passed a h) = absurd (omega (arith, ap kind e, ap kind a, (tells fault.name).low))

    refused_from : (word : ℕ) (fault : SourceFault) → NamesFiles words → RefusedAt (Some held) words word fault → status ≡ refused word fault
    refused_from word fault named is = by outcome
      where
        by : Run → status ≡ refused word fault
        by (declined (no_command a b c)) = absurd (c named.command)
        by (declined (many_files a b c)) = absurd (omega (arith, c.many, named.few))
        by (declined (file_refused at file other a b c d f)) =
            let same = one_refusal held words at word other fault f is in
            a ∙ ap (λ w. refused w other) same.0 ∙ ap (refused word) same.1
        by (declined (same_name first second file other a b c d f g)) = absurd (not_read none_refused is g.read)
        by (passed a h) = absurd (not_read none_refused is h.read)

    missing_both : (word : ℕ) → (status ≡ refused word missing) ↔ NamesMissing words held word
    missing_both word = (λ e. let h = refused_to word missing e in by h.0 h.1, λ h. refused_from word missing h.named (not_held refl h.is))
      where
        by : NamesFiles words → RefusedAt (Some held) words word missing → NamesMissing words held word
        by named (not_held e is) = record { named = named; is = is }
        by named (at_fault h) = absurd (never_missing h.is)

    long_both : (word : ℕ) → (status ≡ refused word long_fault) ↔ NamesTooLong words held word
    long_both word = (λ e. let h = refused_to word long_fault e in by h.0 h.1, λ h. refused_from word long_fault h.named (at_fault (also h.is)))
      where
        by : NamesFiles words → RefusedAt (Some held) words word long_fault → NamesTooLong words held word
        by named (not_held e is) = let k : 25 ≡ 26 = ap (λ f. refusal_number f.name) e in absurd (omega (arith, k))
        by named (at_fault h) =
            record { named = named; is = record { file = h.file; bytes = h.bytes; before = h.before; reached = h.reached; held_so = h.held_so; is = only_long h.is } }

        also : HoldsAt (Some held) words word (λ most bytes. most < length bytes) → HoldsAt (Some held) words word (λ most bytes. IsAtFault most bytes long_fault)
        also h = record { file = h.file; bytes = h.bytes; before = h.before; reached = h.reached; held_so = h.held_so; is = too_long (h.is, refl) }

    faulty_both : (word : ℕ) (fault : SourceFault) → refusal_number fault.name ≤ 13 → (status ≡ refused word fault) ↔ NamesFaulty words held word fault
    faulty_both word fault low = (λ e. let h = refused_to word fault e in by h.0 h.1, λ h. refused_from word fault h.named (at_fault h.is))
      where
        by : NamesFiles words → RefusedAt (Some held) words word fault → NamesFaulty words held word fault
        by named (not_held e is) = let k : refusal_number fault.name ≡ 26 = ap (λ f. refusal_number f.name) e in absurd (omega (arith, k, low))
        by named (at_fault h) = record { named = named; is = h }

    duplicate_both : (word other : ℕ) → (status ≡ duplicate word other) ↔ NamesTwice words held word other
    duplicate_both word other = (λ e. to outcome e, λ h. from outcome h)
      where
        to : Run → status ≡ duplicate word other → NamesTwice words held word other
        to (declined (no_command a b c)) e = absurd (omega (arith, ap kind e, ap kind a))
        to (declined (many_files a b c)) e = absurd (omega (arith, ap kind e, ap kind a))
        to (declined (file_refused at file fault a b c d f)) e = absurd ((tells fault.name).of_one (sym (ap kind a) ∙ ap kind e))
        to (declined (same_name first second file that a b c d f g)) e =
            let is = sym a ∙ e in
            let w : second ≡ word = ap (λ v. (refusal_of v).word) is in
            let o : first ≡ other = ap (λ v. (refusal_of v).other) is in
            let names = map (λ (x : m.Module). x.name) (trees g.sources) in
            record { named = c; is = record { sources = g.sources; read = g.read; is = subst (λ i. FirstDuplicate names i word) o (subst (FirstDuplicate names first) w g.is) } }
        to (passed a h) e = absurd (omega (arith, ap kind e, ap kind a))

        from : Run → NamesTwice words held word other → status ≡ duplicate word other
        from (declined (no_command a b c)) h = absurd (c h.named.command)
        from (declined (many_files a b c)) h = absurd (omega (arith, c.many, h.named.few))
        from (declined (file_refused at file fault a b c d f)) h = absurd (not_read none_refused f h.is.read)
        from (declined (same_name first second file that a b c d f g)) h =
            let one = one_repeated one_list g h.is in
            a ∙ ap (λ w. duplicate w first) one.1 ∙ ap (duplicate word) one.0
        from (passed a k) h = absurd (not_repeated one_list h.is k.read k.names)

    done_both : (status ≡ Done) ↔ NamesModules words held
    done_both = (λ e. to outcome (ap kind e), λ h. from outcome h)
      where
        to : Run → kind status ≡ 100 → NamesModules words held
        to (declined (no_command a b c)) e = absurd (omega (arith, e, ap kind a))
        to (declined (many_files a b c)) e = absurd (omega (arith, e, ap kind a))
        to (declined (file_refused at file fault a b c d f)) e = absurd (omega (arith, e, ap kind a, (tells fault.name).low))
        to (declined (same_name first second file that a b c d f g)) e = absurd (omega (arith, e, ap kind a))
        to (passed a h) e = record { named = h.named; sources = h.sources; read = h.read; names = h.names }

        from : Run → NamesModules words held → status ≡ Done
        from (declined (no_command a b c)) h = absurd (c h.named.command)
        from (declined (many_files a b c)) h = absurd (omega (arith, c.many, h.named.few))
        from (declined (file_refused at file fault a b c d f)) h = absurd (not_read none_refused f h.read)
        from (declined (same_name first second file that a b c d f g)) h = absurd (not_repeated one_list g h.read h.names)
        from (passed a k) h = a

  module _ (told : Option Files) (reads reads_now : ℕ) (status : RunStatus) (output : List ℕ) (intended : Intended usage_line Gives words told reads reads_now status output) (answer : IsAnswer status) where
    where_told : (P : Files → Type 0) → ((held : Files) → Outcome usage_line Gives words (Some held) status output → P held) → IfSome told P
    where_told P give = by told (outcome_of usage_line Gives words told reads reads_now status output intended answer)
      where
        by : (some : Option Files) → Outcome usage_line Gives words some status output → IfSome some P
        by None o = tt
        by (Some held) o = give held o

    pub missing_it : IfSome told (λ held. (word : ℕ) → (status ≡ refused word missing) ↔ NamesMissing words held word)
    missing_it = where_told (λ held. (word : ℕ) → (status ≡ refused word missing) ↔ NamesMissing words held word) (λ held o. missing_both held status output o)

    pub long_it : IfSome told (λ held. (word : ℕ) → (status ≡ refused word long_fault) ↔ NamesTooLong words held word)
    long_it = where_told (λ held. (word : ℕ) → (status ≡ refused word long_fault) ↔ NamesTooLong words held word) (λ held o. long_both held status output o)

    pub faulty_it : IfSome told (λ held. (word : ℕ) (fault : SourceFault) → refusal_number fault.name ≤ 13 → (status ≡ refused word fault) ↔ NamesFaulty words held word fault)
    faulty_it =
        where_told (λ held. (word : ℕ) (fault : SourceFault) → refusal_number fault.name ≤ 13 → (status ≡ refused word fault) ↔ NamesFaulty words held word fault)
        (λ held o. faulty_both held status output o)

    pub duplicate_it : IfSome told (λ held. (word other : ℕ) → (status ≡ duplicate word other) ↔ NamesTwice words held word other)
    duplicate_it = where_told (λ held. (word other : ℕ) → (status ≡ duplicate word other) ↔ NamesTwice words held word other) (λ held o. duplicate_both held status output o)

    pub done_it : IfSome told (λ held. (status ≡ Done) ↔ NamesModules words held)
    done_it = where_told (λ held. (status ≡ Done) ↔ NamesModules words held) (λ held o. done_both held status output o)
