-- From how a run ended to what is promised of it, by its status, and to the cause of each answer.
use Rattle.std.proofs.Common.{◌≡◌, ◌↔◌, ℕ, suc, ◌+◌, List, [], ◌∷◌, ◌++◌, length, take, refl, sym, ap, ◌∙◌, subst, arith, append_assoc}
use Rattle.std.specs.Prelude.{IfSome, Option, Some, None}
use Rattle.std.proofs.Math.Seq.{take-append-add}
use Rattle.std.proofs.lemmas.List.{length-append}
use Rattle.da_shelf.specs.Counts.{Rose}
use Rattle.da_shelf.specs.Told.{Files, Holds, Lacks, appended, IsPrefixAppended}
use Rattle.analysis_sources.specs.declared.refusals.Device.TheVariants.{Read, Write}
use Rattle.analysis_sources.specs.declared.refusals.RefusalName.TheVariants.{TooLong}
use Rattle.analysis_sources.specs.Refusals.{missing}
use Rattle.analysis_sources.specs.Sources.{of_the_whole}
use Rattle.analysis_answers.specs.declared.run_status.RunStatus.{RunStatus}
use Rattle.analysis_answers.specs.declared.run_status.RunStatus.TheVariants.{Done, DeviceFault, Memory, Usage}
use Rattle.analysis_answers.specs.FileRuns.{refused, IsAnswer}
use Rattle.analysis_answers.specs.Lines.{read_fault_line}
use Rattle.dia_session_command.specs.declared.carrying.SessionFault.{SessionFault}
use Rattle.dia_session_command.specs.declared.carrying.SessionFault.TheVariants.{Unread, Unwritten}
use Rattle.dia_session_command.specs.declared.carrying.SessionFault.TheVariants as f
use Rattle.dia_session_command.specs.Causes.{LacksScript, HasLongScript, HasBadLine, HasGoodScript, of_missing, of_length, of_line, IsPossible}
use Rattle.dia_session_command.specs.Lines.{bad_line}
use Rattle.dia_session_command.specs.Script.{Request, IsScript, IsBadLine}
use Rattle.dia_session_command.specs.Session.{ReadsScript, RefusesScript, not_held, too_many_bytes, line_is_bad, AsksFor, no_command, no_script, Outcome, declined, carried, Answers, CarriesFirst}
use Rattle.dia_session_command.specs.Session as session
use Rattle.dia_session_command.specs.Session.{script_unread, file_unread, FailsToRead, of_refusal, of_lines, MeansToWrite, FailsToWrite, at_once, at_line, StopsShort}
use Rattle.dia_session_command.specs.Words.{IsNoCommand, NamesScript, usage_line}
use Rattle.analysis_answers.proofs.FileRefusals.{kind, refusal_of}
use Rattle.dia_session_command.specs.steps.Carrying.{MeansLine, LineFails, status_at, EndsAt, done, ends}
use Rattle.dia_session_command.specs.steps.Carrying as line
use Rattle.dia_session_command.specs.steps.Ending.{IsSaid, whole, broken, out_of_memory, refuses, unread, carries, Ends, no_memory, not_asked, of_script}
use Rattle.dia_session_command.proofs.Carried.{appended_on, give_more}
use Rattle.dia_session_command.proofs.ScriptLines.{one_bad_line, script_or_bad}
use Rattle.dia_session_command.proofs.WordExits.{one_script, among_words}

-- ---- what was written

-- what was written behind more is a prefix of both together
prefix_more : (told now : Option (List ℕ)) (xs ys : List ℕ) → IsPrefixAppended (appended told xs) now ys → IsPrefixAppended told now (xs ++ ys)
prefix_more told now xs ys h =
    (length xs + h.0, omega (arith, h.1, length-append xs ys), appended_on told (appended told xs) now xs (take h.0 ys) refl h.2 ∙ ap (appended told) (sym (take-append-add xs ys h.0)))

-- ---- one status for each end

says_answer : {answer status : RunStatus} {output : List ℕ} {a b : ℕ} {before now : Option (List ℕ)} → IsSaid answer output a b before now status → IsAnswer status → (status ≡ answer) × (now ≡ appended before output)
says_answer (whole e w) is = (e, w)
says_answer (broken e rose p) is = absurd (subst IsAnswer e is)

fault_answers : (number : ℕ) (fault : SessionFault) → IsAnswer (status_at number fault) → ⊥
fault_answers number f.Memory h = h
fault_answers number Unread h = h
fault_answers number Unwritten h = h

refuses_answer : {told : Option Files} {script : List ℕ} {word : ℕ} {status : RunStatus} {output : List ℕ} → RefusesScript told script word status output → IsAnswer status
refuses_answer (not_held a b c) = subst IsAnswer (sym a) tt
refuses_answer (too_many_bytes bytes a b c d) = subst IsAnswer (sym a) tt
refuses_answer (line_is_bad bytes number a b c d) = subst IsAnswer (sym a) tt

-- what the run answers, where contracts see what is held or don't
record Answered (words : List (List ℕ)) (told : Option Files) (before after : Option (List ℕ)) (status : RunStatus) : Type 0 where
  pub output : List ℕ
  pub outcome : Outcome words told status output
  pub written_so : after ≡ appended before output

answered_told : (words : List (List ℕ)) (told : Option Files) (before after : Option (List ℕ)) (status : RunStatus) → Answered words told before after status → IfSome told (λ held. Answers words held status before after)
answered_told words None before after status h = tt
answered_told words (Some held) before after status h = record { output = h.output; outcome = h.outcome; written_so = h.written_so }

where_told : (words : List (List ℕ)) (told : Option Files) (before after : Option (List ℕ)) (status : RunStatus) (P : Files → Type 0) → Answered words told before after status
    → ((held : Files) (output : List ℕ) → Outcome words (Some held) status output → P held) → IfSome told P
where_told words None before after status P h give = tt
where_told words (Some held) before after status P h give = give held h.output h.outcome

module _ (words : List (List ℕ)) (told : Option Files) (reads now first last : ℕ) (before after : Option (List ℕ)) (status : RunStatus) where
  abbrev Run : Type 0
  Run = Ends words told reads now first last before after status

  answered : Run → IsAnswer status → Answered words told before after status
  answered (no_memory e w) is = absurd (subst IsAnswer e is)
  answered (not_asked none s) is = let h = says_answer s is in record { output = usage_line; outcome = declined (no_command h.0 refl none); written_so = h.1 }
  answered (of_script script word named (out_of_memory e w)) is = absurd (subst IsAnswer e is)
  answered (of_script script word named (refuses answer output r s)) is =
      let h = says_answer s is in
      record { output = output; outcome = declined (no_script script word named (subst (λ a. RefusesScript told script word a output) (sym h.0) r)); written_so = h.1 }
  answered (of_script script word named (unread rose s)) is = let h = says_answer s is in absurd (subst IsAnswer h.0 is)
  answered (of_script script word named (carries bytes requests r i (done e output held give w))) is = record {
    output = output;
    outcome = carried e (record { requests = requests; asked = record { script = script; word = word; bytes = bytes; named = named; read = r; is = i }; gives = (held, give) });
    written_so = w;
  }
  answered (of_script script word named (carries bytes requests r i (ends h))) is = absurd (fault_answers (suc (length h.first)) h.fault (subst IsAnswer h.status_so is))

  pub answers_it : Run → IsAnswer status → IfSome told (λ held. Answers words held status before after)
  answers_it run is = answered_told words told before after status (answered run is)

  -- ---- faults

  carries_first : (script : List ℕ) (word : ℕ) (bytes : List ℕ) (requests : List Request) → NamesScript words script word → ReadsScript told script bytes → IsScript bytes requests
      → (h : EndsAt told requests reads now first last before after status) → CarriesFirst words told h.first (h.request ∷ h.rest) h.output
  carries_first script word bytes requests named r i h = record {
    asked = record { script = script; word = word; bytes = bytes; named = named; read = r; is = subst (IsScript bytes) h.split i };
    gives = (h.held, h.give);
  }

  abbrev Fails : ℕ → Type 0
  Fails number = FailsToRead words told number reads now before after

  said_read : (number : ℕ) (answer : RunStatus) (output : List ℕ) → IsSaid answer output first last before after status → status ≡ DeviceFault (Read number)
      → (answer ≡ DeviceFault (Read number)) × (after ≡ appended before output)
  said_read number answer output (whole e w) is = (sym e ∙ is, w)
  said_read number answer output (broken e rose p) is = let k = sym e ∙ is in absurd cc

  pub read_it : Run → (number : ℕ) → status ≡ DeviceFault (Read number) → Fails number
  read_it (no_memory e w) number is = let k = sym e ∙ is in absurd cc
  read_it (not_asked none s) number is = let h = said_read number _ _ s is in let k = h.0 in absurd cc
  read_it (of_script script word named (out_of_memory e w)) number is = let k = sym e ∙ is in absurd cc
  read_it (of_script script word named (refuses answer output r s)) number is = let h = said_read number answer output s is in absurd (subst IsAnswer h.0 (refuses_answer r))
  read_it (of_script script word named (unread rose s)) number is =
      let h = said_read number _ _ s is in
      let same : word ≡ number = let k = h.0 in cc in
      record { rose = rose; output = read_fault_line script; unread_so = script_unread script (subst (NamesScript words script) same named) refl; written_so = h.1 }
  read_it (of_script script word named (carries bytes requests r i (done e output held give w))) number is = let k = sym e ∙ is in absurd cc
  read_it (of_script script word named (carries bytes requests r i (ends h))) number is = by h.fault (sym h.status_so ∙ is) h.is
    where
      by : (fault : SessionFault) → status_at (suc (length h.first)) fault ≡ DeviceFault (Read number) → LineFails told h.held h.request reads now first last (appended before h.output) after fault → Fails number
      by f.Memory e fails = absurd cc
      by Unwritten e fails = absurd cc
      by Unread e fails =
          let same : suc (length h.first) ≡ number = cc in
          record {
            rose = fails.2;
            output = h.output ++ read_fault_line fails.0;
            unread_so =
                file_unread h.first h.rest fails.0 h.output (sym same)
                (subst (λ q. CarriesFirst words told h.first (q ∷ h.rest) h.output) fails.1 (carries_first script word bytes requests named r i h)) refl;
            written_so = appended_on before (appended before h.output) after h.output (read_fault_line fails.0) refl fails.3;
          }

  abbrev Breaks : Type 0
  Breaks = FailsToWrite words told reads now first last before after

  said_write : (answer : RunStatus) (output : List ℕ) → IsSaid answer output first last before after status → status ≡ DeviceFault Write → (answer ≡ DeviceFault Write → ⊥)
      → Rose first last × IsPrefixAppended before after output
  said_write answer output (whole e w) is never = absurd (never (sym e ∙ is))
  said_write answer output (broken e rose p) is never = (rose, p)

  pub write_it : Run → status ≡ DeviceFault Write → Breaks
  write_it (no_memory e w) is = let k = sym e ∙ is in absurd cc
  write_it (not_asked none s) is =
      let h = said_write Usage _ s is (λ k. absurd cc) in record { rose = h.0; output = usage_line; means = of_refusal Usage (no_command refl refl none); written_so = h.1 }
  write_it (of_script script word named (out_of_memory e w)) is = let k = sym e ∙ is in absurd cc
  write_it (of_script script word named (refuses answer output r s)) is =
      let h = said_write answer output s is (λ k. subst IsAnswer k (refuses_answer r)) in record { rose = h.0; output = output; means = of_refusal answer (no_script script word named r); written_so = h.1 }
  write_it (of_script script word named (unread rose s)) is =
      let h = said_write (DeviceFault (Read word)) (read_fault_line script) s is (λ k. absurd cc) in
      record { rose = h.0; output = read_fault_line script; means = session.of_fault word (script_unread script named refl) rose; written_so = h.1 }
  write_it (of_script script word named (carries bytes requests r i (done e output held give w))) is = let k = sym e ∙ is in absurd cc
  write_it (of_script script word named (carries bytes requests r i (ends h))) is = by h.fault (sym h.status_so ∙ is) h.is
    where
      those : CarriesFirst words told h.first (h.request ∷ h.rest) h.output
      those = carries_first script word bytes requests named r i h

      means : (output : List ℕ) → MeansLine told h.held h.request reads now output → MeansToWrite words told reads now (h.output ++ output)
      means output (line.of_line held gives) =
          of_lines (h.first ++ h.request ∷ []) h.rest
          (record {
            asked = subst (AsksFor words told) (sym (append_assoc h.first (h.request ∷ []) h.rest)) those.asked;
            gives = (held, give_more told [] h.first h.output h.held h.request output held h.give gives);
          })
      means output (line.of_fault file q o rose) =
          session.of_fault (suc (length h.first))
          (file_unread h.first h.rest file h.output refl (subst (λ x. CarriesFirst words told h.first (x ∷ h.rest) h.output) q those) (ap (λ x. h.output ++ x) o)) rose

      by : (fault : SessionFault) → status_at (suc (length h.first)) fault ≡ DeviceFault Write → LineFails told h.held h.request reads now first last (appended before h.output) after fault → Breaks
      by f.Memory e fails = absurd cc
      by Unread e fails = absurd cc
      by Unwritten e fails =
          record { rose = fails.2; output = h.output ++ fails.0; means = means fails.0 fails.1; written_so = prefix_more before after h.output fails.0 fails.3 }

  pub memory_it : Run → status ≡ Memory → StopsShort words told before after
  memory_it (no_memory e w) is = at_once w
  memory_it (not_asked none (whole e w)) is = let k = sym e ∙ is in absurd cc
  memory_it (not_asked none (broken e rose p)) is = let k = sym e ∙ is in absurd cc
  memory_it (of_script script word named (out_of_memory e w)) is = at_once w
  memory_it (of_script script word named (refuses answer output r (whole e w))) is = absurd (subst IsAnswer (sym e ∙ is) (refuses_answer r))
  memory_it (of_script script word named (refuses answer output r (broken e rose p))) is = let k = sym e ∙ is in absurd cc
  memory_it (of_script script word named (unread rose (whole e w))) is = let k = sym e ∙ is in absurd cc
  memory_it (of_script script word named (unread rose (broken e also p))) is = let k = sym e ∙ is in absurd cc
  memory_it (of_script script word named (carries bytes requests r i (done e output held give w))) is = let k = sym e ∙ is in absurd cc
  memory_it (of_script script word named (carries bytes requests r i (ends h))) is = by h.fault (sym h.status_so ∙ is) h.is
    where
      by : (fault : SessionFault) → status_at (suc (length h.first)) fault ≡ Memory → LineFails told h.held h.request reads now first last (appended before h.output) after fault → StopsShort words told before after
      by f.Memory e fails = at_line h.first (h.request ∷ h.rest) h.output (carries_first script word bytes requests named r i h) fails
      by Unread e fails = absurd cc
      by Unwritten e fails = absurd cc

  refuses_possible : (script : List ℕ) (word : ℕ) (answer : RunStatus) (output : List ℕ) → NamesScript words script word → RefusesScript told script word answer output → IsPossible words answer
  refuses_possible script word answer output named (not_held a b c) = subst (IsPossible words) (sym a) (of_missing word (among_words words script word named) refl)
  refuses_possible script word answer output named (too_many_bytes bytes a b c d) = subst (IsPossible words) (sym a) (of_length word (among_words words script word named) refl)
  refuses_possible script word answer output named (line_is_bad bytes number a b c d) =
      subst (IsPossible words) (sym a) (of_line word number (among_words words script word named) (omega (arith, d.counted)) refl)

  said_possible : (answer : RunStatus) (output : List ℕ) → IsSaid answer output first last before after status → IsPossible words answer → IsPossible words status
  said_possible answer output (whole e w) is = subst (IsPossible words) (sym e) is
  said_possible answer output (broken e rose p) is = subst (IsPossible words) (sym e) tt

  pub possible_it : Run → IsPossible words status
  possible_it (no_memory e w) = subst (IsPossible words) (sym e) tt
  possible_it (not_asked none s) = said_possible Usage _ s tt
  possible_it (of_script script word named (out_of_memory e w)) = subst (IsPossible words) (sym e) tt
  possible_it (of_script script word named (refuses answer output r s)) = said_possible answer output s (refuses_possible script word answer output named r)
  possible_it (of_script script word named (unread rose s)) = said_possible (DeviceFault (Read word)) (read_fault_line script) s tt
  possible_it (of_script script word named (carries bytes requests r i (done e output held give w))) = subst (IsPossible words) (sym e) tt
  possible_it (of_script script word named (carries bytes requests r i (ends h))) = subst (IsPossible words) (sym h.status_so) (by h.fault)
    where
      by : (fault : SessionFault) → IsPossible words (status_at (suc (length h.first)) fault)
      by f.Memory = tt
      by Unread = tt
      by Unwritten = tt

  -- ---- causes

  usage_so : (output : List ℕ) → Outcome words told status output → (status ≡ Usage) ↔ IsNoCommand words
  usage_so output o = (λ e. to o e, λ none. from o none)
    where
      to : Outcome words told status output → status ≡ Usage → IsNoCommand words
      to (declined (no_command a b c)) e = c
      to (declined (no_script script word named (not_held a b c))) e = absurd (omega (arith, ap kind (sym a ∙ e)))
      to (declined (no_script script word named (too_many_bytes bytes a b c d))) e = absurd (omega (arith, ap kind (sym a ∙ e)))
      to (declined (no_script script word named (line_is_bad bytes number a b c d))) e = absurd (omega (arith, ap kind (sym a ∙ e)))
      to (carried a h) e = absurd (omega (arith, ap kind (sym a ∙ e)))

      from : Outcome words told status output → IsNoCommand words → status ≡ Usage
      from (declined (no_command a b c)) none = a
      from (declined (no_script script word named r)) none = absurd (none script word named)
      from (carried a h) none = absurd (none h.asked.script h.asked.word h.asked.named)

  pub usage_it : Run → IsAnswer status → (status ≡ Usage) ↔ IsNoCommand words
  usage_it run is = let h = answered run is in usage_so h.output h.outcome

-- ---- causes, where contracts see what is held

module _ (words : List (List ℕ)) (held : Files) (status : RunStatus) (output : List ℕ) where
  abbrev Out : Type 0
  Out = Outcome words (Some held) status output

  -- one name holds one text, and none where it holds none
  one_text : (name bytes other : List ℕ) → Holds (Some held) name bytes → Holds (Some held) name other → bytes ≡ other
  one_text name bytes other h k = let e = sym h ∙ k in cc

  no_text : (name bytes : List ℕ) → Holds (Some held) name bytes → Lacks (Some held) name → ⊥
  no_text name bytes h k = let e = sym h ∙ k in absurd cc

  missing_so : Out → (word : ℕ) → (status ≡ refused word missing) ↔ LacksScript words held word
  missing_so o word = (λ e. to o e, λ h. from o h)
    where
      to : Out → status ≡ refused word missing → LacksScript words held word
      to (declined (no_command a b c)) e = absurd (omega (arith, ap kind (sym a ∙ e)))
      to (declined (no_script script at named (not_held a b c))) e =
          let same : at ≡ word = ap (λ v. (refusal_of v).word) (sym a ∙ e) in record { script = script; named = subst (NamesScript words script) same named; absent = c }
      to (declined (no_script script at named (too_many_bytes bytes a b c d))) e = absurd (omega (arith, ap kind (sym a ∙ e)))
      to (declined (no_script script at named (line_is_bad bytes number a b c d))) e = absurd (omega (arith, ap kind (sym a ∙ e)))
      to (carried a h) e = absurd (omega (arith, ap kind (sym a ∙ e)))

      from : Out → LacksScript words held word → status ≡ refused word missing
      from (declined (no_command a b c)) h = absurd (c h.script word h.named)
      from (declined (no_script script at named (not_held a b c))) h = a ∙ ap (λ w. refused w missing) (one_script words script h.script at word named h.named).1
      from (declined (no_script script at named (too_many_bytes bytes a b c d))) h =
          absurd (no_text h.script bytes (subst (λ n. Holds (Some held) n bytes) (one_script words script h.script at word named h.named).0 c) h.absent)
      from (declined (no_script script at named (line_is_bad bytes number a b c d))) h =
          absurd (no_text h.script bytes (subst (λ n. Holds (Some held) n bytes) (one_script words script h.script at word named h.named).0 c.held_so) h.absent)
      from (carried a k) h =
          absurd (no_text h.script k.asked.bytes (subst (λ n. Holds (Some held) n k.asked.bytes) (one_script words k.asked.script h.script k.asked.word word k.asked.named h.named).0 k.asked.read.held_so) h.absent)

  long_so : Out → (word : ℕ) → (status ≡ refused word (of_the_whole TooLong)) ↔ HasLongScript words held word
  long_so o word = (λ e. to o e, λ h. from o h)
    where
      to : Out → status ≡ refused word (of_the_whole TooLong) → HasLongScript words held word
      to (declined (no_command a b c)) e = absurd (omega (arith, ap kind (sym a ∙ e)))
      to (declined (no_script script at named (not_held a b c))) e = absurd (omega (arith, ap kind (sym a ∙ e)))
      to (declined (no_script script at named (too_many_bytes bytes a b c d))) e =
          let same : at ≡ word = ap (λ v. (refusal_of v).word) (sym a ∙ e) in
          record { script = script; bytes = bytes; named = subst (NamesScript words script) same named; held_so = c; long = d }
      to (declined (no_script script at named (line_is_bad bytes number a b c d))) e = absurd (omega (arith, ap kind (sym a ∙ e)))
      to (carried a h) e = absurd (omega (arith, ap kind (sym a ∙ e)))

      short : (script bytes : List ℕ) (at : ℕ) → NamesScript words script at → ReadsScript (Some held) script bytes → HasLongScript words held word → ⊥
      short script bytes at named r h =
          let same = one_text h.script bytes h.bytes (subst (λ n. Holds (Some held) n bytes) (one_script words script h.script at word named h.named).0 r.held_so) h.held_so in
          let l : length bytes ≡ length h.bytes = ap (λ t. length t) same in
          omega (arith, l, r.short, h.long)

      from : Out → HasLongScript words held word → status ≡ refused word (of_the_whole TooLong)
      from (declined (no_command a b c)) h = absurd (c h.script word h.named)
      from (declined (no_script script at named (not_held a b c))) h =
          absurd (no_text script h.bytes (subst (λ n. Holds (Some held) n h.bytes) (sym (one_script words script h.script at word named h.named).0) h.held_so) c)
      from (declined (no_script script at named (too_many_bytes bytes a b c d))) h = a ∙ ap (λ w. refused w (of_the_whole TooLong)) (one_script words script h.script at word named h.named).1
      from (declined (no_script script at named (line_is_bad bytes number a b c d))) h = absurd (short script bytes at named c h)
      from (carried a k) h = absurd (short k.asked.script k.asked.bytes k.asked.word k.asked.named k.asked.read h)

  bad_so : Out → (word number : ℕ) → (status ≡ bad_line word number) ↔ HasBadLine words held word number
  bad_so o word number = (λ e. to o e, λ h. from o h)
    where
      to : Out → status ≡ bad_line word number → HasBadLine words held word number
      to (declined (no_command a b c)) e = absurd (omega (arith, ap kind (sym a ∙ e)))
      to (declined (no_script script at named (not_held a b c))) e = absurd (omega (arith, ap kind (sym a ∙ e)))
      to (declined (no_script script at named (too_many_bytes bytes a b c d))) e = absurd (omega (arith, ap kind (sym a ∙ e)))
      to (declined (no_script script at named (line_is_bad bytes other a b c d))) e =
          let same : at ≡ word = ap (λ v. (refusal_of v).word) (sym a ∙ e) in
          let one : other ≡ number = ap (λ v. (refusal_of v).line) (sym a ∙ e) in
          record { script = script; bytes = bytes; named = subst (NamesScript words script) same named; read = c; is = subst (IsBadLine bytes) one d }
      to (carried a h) e = absurd (omega (arith, ap kind (sym a ∙ e)))

      same_bytes : (script bytes : List ℕ) (at : ℕ) → NamesScript words script at → Holds (Some held) script bytes → (h : HasBadLine words held word number) → h.bytes ≡ bytes
      same_bytes script bytes at named r h =
          one_text h.script h.bytes bytes h.read.held_so (subst (λ n. Holds (Some held) n bytes) (one_script words script h.script at word named h.named).0 r)

      from : Out → HasBadLine words held word number → status ≡ bad_line word number
      from (declined (no_command a b c)) h = absurd (c h.script word h.named)
      from (declined (no_script script at named (not_held a b c))) h =
          absurd (no_text script h.bytes (subst (λ n. Holds (Some held) n h.bytes) (sym (one_script words script h.script at word named h.named).0) h.read.held_so) c)
      from (declined (no_script script at named (too_many_bytes bytes a b c d))) h =
          let l : length h.bytes ≡ length bytes = ap (λ t. length t) (same_bytes script bytes at named c h) in absurd (omega (arith, l, d, h.read.short))
      from (declined (no_script script at named (line_is_bad bytes other a b c d))) h =
          a ∙ ap (λ w. bad_line w other) (one_script words script h.script at word named h.named).1
          ∙ ap (bad_line word) (one_bad_line bytes other number d (subst (λ t. IsBadLine t number) (same_bytes script bytes at named c.held_so h) h.is))
      from (carried a k) h =
          absurd (script_or_bad k.asked.bytes k.requests number k.asked.is (subst (λ t. IsBadLine t number) (same_bytes k.asked.script k.asked.bytes k.asked.word k.asked.named k.asked.read.held_so h) h.is))

  done_so : Out → (status ≡ Done) ↔ HasGoodScript words held
  done_so o = (λ e. to o e, λ h. from o h)
    where
      to : Out → status ≡ Done → HasGoodScript words held
      to (declined (no_command a b c)) e = absurd (omega (arith, ap kind (sym a ∙ e)))
      to (declined (no_script script at named (not_held a b c))) e = absurd (omega (arith, ap kind (sym a ∙ e)))
      to (declined (no_script script at named (too_many_bytes bytes a b c d))) e = absurd (omega (arith, ap kind (sym a ∙ e)))
      to (declined (no_script script at named (line_is_bad bytes number a b c d))) e = absurd (omega (arith, ap kind (sym a ∙ e)))
      to (carried a h) e = (h.requests, h.asked)

      from : Out → HasGoodScript words held → status ≡ Done
      from (declined (no_command a b c)) h = absurd (c h.1.script h.1.word h.1.named)
      from (declined (no_script script at named (not_held a b c))) h =
          absurd (no_text script h.1.bytes (subst (λ n. Holds (Some held) n h.1.bytes) (sym (one_script words script h.1.script at h.1.word named h.1.named).0) h.1.read.held_so) c)
      from (declined (no_script script at named (too_many_bytes bytes a b c d))) h =
          let same = one_text script bytes h.1.bytes c (subst (λ n. Holds (Some held) n h.1.bytes) (sym (one_script words script h.1.script at h.1.word named h.1.named).0) h.1.read.held_so) in
          let l : length bytes ≡ length h.1.bytes = ap (λ t. length t) same in
          absurd (omega (arith, l, d, h.1.read.short))
      from (declined (no_script script at named (line_is_bad bytes number a b c d))) h =
          let same = one_text script bytes h.1.bytes c.held_so (subst (λ n. Holds (Some held) n h.1.bytes) (sym (one_script words script h.1.script at h.1.word named h.1.named).0) h.1.read.held_so) in
          absurd (script_or_bad h.1.bytes h.0 number h.1.is (subst (λ t. IsBadLine t number) same d))
      from (carried a k) h = a

module _ (words : List (List ℕ)) (told : Option Files) (reads now first last : ℕ) (before after : Option (List ℕ)) (status : RunStatus) (run : Ends words told reads now first last before after status) (is : IsAnswer status) where
  the : Answered words told before after status
  the = answered words told reads now first last before after status run is

  pub missing_it : IfSome told (λ held. (word : ℕ) → (status ≡ refused word missing) ↔ LacksScript words held word)
  missing_it = where_told words told before after status (λ held. (word : ℕ) → (status ≡ refused word missing) ↔ LacksScript words held word) the (λ held output o. missing_so words held status output o)

  pub long_it : IfSome told (λ held. (word : ℕ) → (status ≡ refused word (of_the_whole TooLong)) ↔ HasLongScript words held word)
  long_it =
      where_told words told before after status (λ held. (word : ℕ) → (status ≡ refused word (of_the_whole TooLong)) ↔ HasLongScript words held word) the (λ held output o. long_so words held status output o)

  pub bad_it : IfSome told (λ held. (word number : ℕ) → (status ≡ bad_line word number) ↔ HasBadLine words held word number)
  bad_it = where_told words told before after status (λ held. (word number : ℕ) → (status ≡ bad_line word number) ↔ HasBadLine words held word number) the (λ held output o. bad_so words held status output o)

  pub done_it : IfSome told (λ held. (status ≡ Done) ↔ HasGoodScript words held)
  done_it = where_told words told before after status (λ held. (status ≡ Done) ↔ HasGoodScript words held) the (λ held output o. done_so words held status output o)
