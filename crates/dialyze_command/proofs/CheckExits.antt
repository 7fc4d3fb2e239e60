-- From what a run means to answer to what it answers, once all is written.
use Rattle.std.proofs.Common.{◌≡◌, ◌↔◌, ◌⊎◌, inl, inr, ◌≤◌, ◌<◌, ℕ, ◌+◌, List, length, refl, sym, ◌∙◌, ap, subst, Option, Some, None, arith}
use Rattle.std.specs.Prelude.{IfSome}
use Rattle.da_shelf.specs.Counts.{Rose}
use Rattle.da_shelf.specs.Told.{Files, appended, IsPrefixAppended}
use Rattle.analysis_sources.specs.declared.refusals.Device.TheVariants.{Read, Replace, Write}
use Rattle.analysis_answers.proofs.TableFaults.{table_number}
use Rattle.dialyze_command.specs.declared.status.Status.{Status}
use Rattle.dialyze_command.specs.declared.status.Status.TheVariants.{Clean, DeviceFault, Memory, Refused, TableFault, Usage, Warnings}
use Rattle.dialyze_command.specs.declared.words.Command.{Command}
use Rattle.dialyze_command.specs.Lines.{too_long, too_many}
use Rattle.analysis_sources.specs.Refusals.{missing}
use Rattle.dialyze_command.specs.Making.{IsSummary, PutsFirst}
use Rattle.dialyze_command.specs.Words.{AsksForCheck, IsMake, IsNoCommand, IsNoMake}
use Rattle.dialyze_command.proofs.Numbers.{mark, mark_of}
use Rattle.dialyze_command.proofs.Places.{start_late, plt_before, out_before}
use Rattle.dialyze_command.proofs.WordExits.{one_check, one_command}
use Rattle.dialyze_command.specs.Outcome.{Checks, ChecksTooMany, NamesTable, SaysWhether, says_no, says_yes, Outcome, usage, many, no_table, bad_table, faulty, duplicate_module, long_table, passed, made}
use Rattle.dialyze_command.specs.Outcome.{IsUnread, of_table, of_file, IsUnreplaced, of_new_table, of_generated, Intended, answered, unread, unreplaced, Answers, FailsToRead, FailsToReplace, FailsToWrite}
use Rattle.dialyze_command.specs.Outcome.{IsAnswer, IsPassed, IsPossible, StoresNothing, of_word, of_many, of_two}
use Rattle.dialyze_command.specs.Laws.{Passed}

says_answer : {status : Status} {output : List ℕ} → SaysWhether status output → IsAnswer status
says_answer (says_no a b) = subst IsAnswer (sym a) tt
says_answer (says_yes a b) = subst IsAnswer (sym a) tt

summary_answer : {n : ℕ} {status : Status} {output : List ℕ} → IsSummary n status output → IsAnswer status
summary_answer h = subst IsAnswer (sym h.status_so) tt

-- every outcome is an answer
answers : {words : List (List ℕ)} {told after : Option Files} {status : Status} {output : List ℕ} → Outcome words told status output after → IsAnswer status
answers (usage a b c d) = subst IsAnswer (sym a) tt
answers (many a b c d) = subst IsAnswer (sym a) tt
answers (no_table at name a b c names lacks) = subst IsAnswer (sym a) tt
answers (bad_table at name bytes fault a b c names holds is) = subst IsAnswer (sym a) tt
answers (faulty command files at file fault a b c d f g) = subst IsAnswer (sym a) tt
answers (duplicate_module command files first second file other a b c d f g h) = subst IsAnswer (sym a) tt
answers (long_table command reports new at name a b c d names long) = subst IsAnswer (sym a) tt
answers (passed command reports new says c d f) = says_answer says
answers (made count asks is c) = summary_answer is

pub outcome_of : {words : List (List ℕ)} {told after : Option Files} {rb rn n k : ℕ} {status : Status} {output : List ℕ} → IsAnswer status → Intended words told rb rn n k status output after
    → Outcome words told status output after
outcome_of h (answered o) = o
outcome_of h (unread word name a b c d rose) = absurd (subst IsAnswer a h)
outcome_of h (unreplaced word name a b d rose) = absurd (subst IsAnswer a h)

-- the headline
pub answers_it : (words : List (List ℕ)) (told after : Option Files) (rb rn n k : ℕ) (status : Status) (output : List ℕ) (before now : Option (List ℕ))
    → Intended words told rb rn n k status output after → now ≡ appended before output → IsAnswer status → IfSome told (λ held. Answers words held after status before now)
answers_it words None after rb rn n k status output before now h w a = tt
answers_it words (Some held) after rb rn n k status output before now h w a = record { output = output; outcome = outcome_of a h; written = w }

-- ---- a check that passed

passed_mark : (status : Status) → IsPassed status → (100 ≤ mark status) × (mark status ≤ 101)
passed_mark Clean h = (omega arith, omega arith)
passed_mark Warnings h = (omega arith, omega arith)
passed_mark (Refused refusal) h = absurd h
passed_mark (TableFault number) h = absurd h
passed_mark (DeviceFault device) h = absurd h
passed_mark Memory h = absurd h
passed_mark Usage h = absurd h

passed_answer : (status : Status) → IsPassed status → IsAnswer status
passed_answer Clean h = tt
passed_answer Warnings h = tt
passed_answer (Refused refusal) h = absurd h
passed_answer (TableFault number) h = absurd h
passed_answer (DeviceFault device) h = absurd h
passed_answer Memory h = absurd h
passed_answer Usage h = absurd h

pub passed_so : {words : List (List ℕ)} {held : Files} {after : Option Files} {status : Status} {output : List ℕ} {before now : Option (List ℕ)} → AsksForCheck words → 100 ≤ mark status
    → mark status ≤ 101 → Outcome words (Some held) status output after
    → now ≡ appended before output → Passed words held after before now
passed_so asks h k (usage a b c d) w = absurd (omega (arith, k, ap mark a))
passed_so asks h k (many a b c d) w = absurd (omega (arith, h, ap mark a))
passed_so asks h k (no_table at name a b c names lacks) w = absurd (omega (arith, h, ap mark a))
passed_so asks h k (bad_table at name bytes fault a b c names holds is) w = absurd (omega (arith, k, ap mark a))
passed_so asks h k (faulty command files at file fault a b c d f g) w = absurd (omega (arith, h, ap mark a, (mark_of fault.name).0))
passed_so asks h k (duplicate_module command files first second file other a b c d f g i) w = absurd (omega (arith, h, ap mark a))
passed_so asks h k (long_table command reports new at name a b c d names long) w = absurd (omega (arith, h, ap mark a))
passed_so {before = before} asks h k (passed command reports new says c d f) w =
    record { command = command; reports = reports; new = new; analyses = d; written = w ∙ ap (appended before) c; stored = f }
passed_so asks h k (made count make is c) w = absurd (one_command asks.2 make)

pub passed_it : (words : List (List ℕ)) (held : Files) (after : Option Files) (rb rn n k : ℕ) (status : Status) (output : List ℕ) (before now : Option (List ℕ))
    → Intended words (Some held) rb rn n k status output after → now ≡ appended before output → AsksForCheck words → IsPassed status → Passed words held after before now
passed_it words held after rb rn n k status output before now h w asks is =
    let m = passed_mark status is in
    passed_so asks m.0 m.1 (outcome_of (passed_answer status is) h) w

-- ---- by the words alone, also where the shelf doesn't tell what it holds

no_command : {words files : List (List ℕ)} {command : Command} → IsNoCommand words → Checks words command files → ⊥
no_command {files = files} {command = command} none h = none (inl (command, files, h.check))

few_files : {words files : List (List ℕ)} {command : Command} → ChecksTooMany words → Checks words command files → ⊥
few_files h k = let few = k.few in let e = ap length (one_check h.check k.check).1 in let long = h.many in absurd (omega arith)

-- a make is answered by no status of a table, of too many files or of no command
pub summary_mark : {n : ℕ} {status : Status} {output : List ℕ} → IsSummary n status output → (mark status ≡ 24) ⊎ (102 ≤ mark status) → ⊥
summary_mark h (inl e) = absurd (omega (arith, e, ap mark h.status_so))
summary_mark h (inr e) = absurd (omega (arith, e, ap mark h.status_so))

usage_to : {words : List (List ℕ)} {told after : Option Files} {status : Status} {output : List ℕ} → Outcome words told status output after → status ≡ Usage → IsNoCommand words
usage_to (usage a b c d) e = d
usage_to (many a b c d) e = absurd (omega (arith, ap mark (sym a ∙ e)))
usage_to (no_table at name a b c names lacks) e = absurd (omega (arith, ap mark (sym a ∙ e)))
usage_to (bad_table at name bytes fault a b c names holds is) e = absurd (omega (arith, ap mark (sym a ∙ e)))
usage_to (faulty command files at file fault a b c d f g) e = absurd (omega (arith, ap mark (sym a ∙ e), (mark_of fault.name).0))
usage_to (duplicate_module command files first second file other a b c d f g h) e = absurd (omega (arith, ap mark (sym a ∙ e)))
usage_to (long_table command reports new at name a b c d names long) e = absurd (omega (arith, ap mark (sym a ∙ e)))
usage_to (passed command reports new (says_no a b) c d f) e = absurd (omega (arith, ap mark (sym a ∙ e)))
usage_to (passed command reports new (says_yes a b) c d f) e = absurd (omega (arith, ap mark (sym a ∙ e)))
usage_to (made count asks is c) e = absurd (summary_mark is (inr (omega (arith, ap mark e))))

usage_from : {words : List (List ℕ)} {told after : Option Files} {status : Status} {output : List ℕ} → Outcome words told status output after → IsNoCommand words → status ≡ Usage
usage_from (usage a b c d) none = a
usage_from (many a b c d) none = absurd (none (inl (d.command, d.files, d.check)))
usage_from (no_table at name a b c names lacks) none = absurd (no_command none names.checks)
usage_from (bad_table at name bytes fault a b c names holds is) none = absurd (no_command none names.checks)
usage_from (faulty command files at file fault a b c d f g) none = absurd (no_command none d.checks)
usage_from (duplicate_module command files first second file other a b c d f g h) none = absurd (no_command none d.checks)
usage_from (long_table command reports new at name a b c d names long) none = absurd (no_command none d.begins.checks)
usage_from (passed command reports new says c d f) none = absurd (no_command none d.begins.checks)
usage_from (made count asks is c) none = absurd (none (inr (count, asks)))

pub usage_it : (words : List (List ℕ)) (told after : Option Files) (rb rn n k : ℕ) (status : Status) (output : List ℕ) → Intended words told rb rn n k status output after → IsAnswer status
    → (status ≡ Usage) ↔ IsNoCommand words
usage_it words told after rb rn n k status output h answer = (usage_to (outcome_of answer h), usage_from (outcome_of answer h))

many_to : {words : List (List ℕ)} {told after : Option Files} {status : Status} {output : List ℕ} → Outcome words told status output after → status ≡ too_many → ChecksTooMany words
many_to (usage a b c d) e = absurd (omega (arith, ap mark (sym a ∙ e)))
many_to (many a b c d) e = d
many_to (no_table at name a b c names lacks) e = absurd (omega (arith, ap mark (sym a ∙ e)))
many_to (bad_table at name bytes fault a b c names holds is) e = absurd (omega (arith, ap mark (sym a ∙ e)))
many_to (faulty command files at file fault a b c d f g) e = absurd ((mark_of fault.name).2 (ap mark (sym a ∙ e)))
many_to (duplicate_module command files first second file other a b c d f g h) e = absurd (omega (arith, ap mark (sym a ∙ e)))
many_to (long_table command reports new at name a b c d names long) e = absurd (omega (arith, ap mark (sym a ∙ e)))
many_to (passed command reports new (says_no a b) c d f) e = absurd (omega (arith, ap mark (sym a ∙ e)))
many_to (passed command reports new (says_yes a b) c d f) e = absurd (omega (arith, ap mark (sym a ∙ e)))
many_to (made count asks is c) e = absurd (summary_mark is (inl (ap mark e)))

many_from : {words : List (List ℕ)} {told after : Option Files} {status : Status} {output : List ℕ} → Outcome words told status output after → ChecksTooMany words → status ≡ too_many
many_from (usage a b c d) h = absurd (d (inl (h.command, h.files, h.check)))
many_from (many a b c d) h = a
many_from (no_table at name a b c names lacks) h = absurd (few_files h names.checks)
many_from (bad_table at name bytes fault a b c names holds is) h = absurd (few_files h names.checks)
many_from (faulty command files at file fault a b c d f g) h = absurd (few_files h d.checks)
many_from (duplicate_module command files first second file other a b c d f g i) h = absurd (few_files h d.checks)
many_from (long_table command reports new at name a b c d names long) h = absurd (few_files h d.begins.checks)
many_from (passed command reports new says c d f) h = absurd (few_files h d.begins.checks)
many_from (made count asks is c) h = absurd (one_command h.check asks)

pub too_many_it : (words : List (List ℕ)) (told after : Option Files) (rb rn n k : ℕ) (status : Status) (output : List ℕ) → Intended words told rb rn n k status output after → IsAnswer status
    → (status ≡ too_many) ↔ ChecksTooMany words
too_many_it words told after rb rn n k status output h answer = (many_to (outcome_of answer h), many_from (outcome_of answer h))

-- ---- the faults of devices

read_to : {words : List (List ℕ)} {told after : Option Files} {rb rn n k : ℕ} {status : Status} {output : List ℕ} {before now : Option (List ℕ)} (word : ℕ)
    → Intended words told rb rn n k status output after → now ≡ appended before output → status ≡ DeviceFault (Read word) → FailsToRead words told word rb rn before now
read_to word (answered o) w e = absurd (subst IsAnswer e (answers o))
read_to {words} {told} {before = before} word (unread at name a b c d rose) w e =
    let is : at ≡ word = let k = sym a ∙ e in cc in
    record { name = name; unread_so = subst (λ v. IsUnread words told v name) is d; rose = rose; written = w ∙ ap (appended before) b }
read_to word (unreplaced at name a b d rose) w e = let k = sym a ∙ e in absurd cc

pub read_it : (words : List (List ℕ)) (told after : Option Files) (rb rn n k : ℕ) (status : Status) (output : List ℕ) (before now : Option (List ℕ))
    → Intended words told rb rn n k status output after → now ≡ appended before output → (word : ℕ) → status ≡ DeviceFault (Read word) → FailsToRead words told word rb rn before now
read_it words told after rb rn n k status output before now h w word e = read_to word h w e

replace_to : {words : List (List ℕ)} {told after : Option Files} {rb rn n k : ℕ} {status : Status} {output : List ℕ} {before now : Option (List ℕ)} (word : ℕ)
    → Intended words told rb rn n k status output after → now ≡ appended before output → status ≡ DeviceFault (Replace word) → FailsToReplace words told after word n k before now
replace_to word (answered o) w e = absurd (subst IsAnswer e (answers o))
replace_to word (unread at name a b c d rose) w e = let k = sym a ∙ e in absurd cc
replace_to {words} {told} {after} {before = before} word (unreplaced at name a b d rose) w e =
    let is : at ≡ word = let k = sym a ∙ e in cc in
    record { name = name; unreplaced_so = subst (λ v. IsUnreplaced words told v name after) is d; rose = rose; written = w ∙ ap (appended before) b }

pub replace_it : (words : List (List ℕ)) (told after : Option Files) (rb rn n k : ℕ) (status : Status) (output : List ℕ) (before now : Option (List ℕ))
    → Intended words told rb rn n k status output after → now ≡ appended before output → (word : ℕ) → status ≡ DeviceFault (Replace word) → FailsToReplace words told after word n k before now
replace_it words told after rb rn n k status output before now h w word e = replace_to word h w e

no_write : {words : List (List ℕ)} {told after : Option Files} {rb rn n k : ℕ} {status : Status} {output : List ℕ} → Intended words told rb rn n k status output after → status ≡ DeviceFault Write → ⊥
no_write (answered o) e = absurd (subst IsAnswer e (answers o))
no_write (unread word name a b c d rose) e = let k = sym a ∙ e in absurd cc
no_write (unreplaced word name a b d rose) e = let k = sym a ∙ e in absurd cc

pub unwritten_it : (words : List (List ℕ)) (told after : Option Files) (rb rn n k o p : ℕ) (status : Status) (output : List ℕ) (before now : Option (List ℕ))
    → Intended words told rb rn n k status output after → status ≡ DeviceFault Write → FailsToWrite words told after rb rn n k o p before now
unwritten_it words told after rb rn n k o p status output before now h e = absurd (no_write h e)

pub write_it : (words : List (List ℕ)) (told after : Option Files) (rb rn n k o p : ℕ) (status : Status) (output : List ℕ) (before now : Option (List ℕ))
    → Intended words told rb rn n k status output after → Rose o p → IsPrefixAppended before now output → FailsToWrite words told after rb rn n k o p before now
write_it words told after rb rn n k o p status output before now h r w = record { rose = r; status = status; output = output; intended = h; written = w }

no_memory : {words : List (List ℕ)} {told after : Option Files} {rb rn n k : ℕ} {status : Status} {output : List ℕ} → Intended words told rb rn n k status output after → status ≡ Memory → ⊥
no_memory (answered o) e = absurd (subst IsAnswer e (answers o))
no_memory (unread word name a b c d rose) e = let k = sym a ∙ e in absurd cc
no_memory (unreplaced word name a b d rose) e = let k = sym a ∙ e in absurd cc

pub memory_it : (words : List (List ℕ)) (told after : Option Files) (rb rn n k : ℕ) (status : Status) (output : List ℕ) (before now : Option (List ℕ)) → Intended words told rb rn n k status output after → status ≡ Memory
    → now ≡ before
memory_it words told after rb rn n k status output before now h e = absurd (no_memory h e)

-- ---- no other status

says_possible : (words : List (List ℕ)) {status : Status} {output : List ℕ} → SaysWhether status output → IsPossible words status
says_possible words (says_no a b) = subst (IsPossible words) (sym a) tt
says_possible words (says_yes a b) = subst (IsPossible words) (sym a) tt

table_late : {words : List (List ℕ)} {word : ℕ} {name : List ℕ} → NamesTable words word name → 1 ≤ word
table_late {word = word} h = (plt_before h.checks.check word h.plt.given).0

summary_possible : (words : List (List ℕ)) {count : ℕ} {status : Status} {output : List ℕ} → IsSummary count status output → IsPossible words status
summary_possible words h = subst (IsPossible words) (sym h.status_so) tt

possible_outcome : {words : List (List ℕ)} {told after : Option Files} {status : Status} {output : List ℕ} → Outcome words told status output after → IsPossible words status
possible_outcome {words} (usage a b c d) = subst (IsPossible words) (sym a) tt
possible_outcome {words} (many a b c d) = subst (IsPossible words) (sym a) (of_many refl)
possible_outcome {words} (no_table at name a b c names lacks) = subst (IsPossible words) (sym a) (of_word at missing (table_late names) refl)
possible_outcome {words} (bad_table at name bytes fault a b c names holds is) = subst (IsPossible words) (sym a) (table_number fault is.some)
possible_outcome {words} (faulty command files at file fault a b c d f g) = subst (IsPossible words) (sym a) (of_word (command.start + at) fault (omega (arith, start_late d.checks.check)) refl)
possible_outcome {words} (duplicate_module command files first second file other a b c d f g h) =
    subst (IsPossible words) (sym a) (of_two (command.start + second) (command.start + first) (omega (arith, start_late d.checks.check)) (omega (arith, h.is.before)) refl)
possible_outcome {words} (long_table command reports new at name a b c d names long) = subst (IsPossible words) (sym a) (of_word at too_long (out_before d.begins.checks.check at names.given).0 refl)
possible_outcome {words} (passed command reports new says c d f) = says_possible words says
possible_outcome {words} (made count asks is c) = summary_possible words is

unread_late : {words : List (List ℕ)} {told : Option Files} {word : ℕ} {name : List ℕ} → IsUnread words told word name → 1 ≤ word
unread_late (of_table h) = table_late h
unread_late (of_file command files at before e begins reached) = omega (arith, e, start_late begins.checks.check)

unreplaced_late : {words : List (List ℕ)} {told after : Option Files} {word : ℕ} {name : List ℕ} → IsUnreplaced words told word name after → (1 ≤ word) ⊎ ((count : ℕ) × IsMake words count × (word < count))
unreplaced_late {word = word} (of_new_table h) = inl (out_before h.analyses.begins.checks.check word h.out.given).0
unreplaced_late (of_generated h) = inr (h.count, h.make, h.within)

possible : {words : List (List ℕ)} {told after : Option Files} {rb rn n k : ℕ} {status : Status} {output : List ℕ} → Intended words told rb rn n k status output after → IsPossible words status
possible (answered o) = possible_outcome o
possible {words} (unread word name a b c d rose) = subst (IsPossible words) (sym a) (unread_late d)
possible {words} (unreplaced word name a b d rose) = subst (IsPossible words) (sym a) (unreplaced_late d)

pub possible_it : (words : List (List ℕ)) (told after : Option Files) (rb rn n k : ℕ) (status : Status) (output : List ℕ) → Intended words told rb rn n k status output after → IsPossible words status
possible_it words told after rb rn n k status output h = possible h

-- ---- a make

make_outcome : {words : List (List ℕ)} {told after : Option Files} {status : Status} {output : List ℕ} {count : ℕ} → Outcome words told status output after → IsMake words count → status ≡ Warnings
make_outcome {count = count} (usage a b c d) asks = absurd (d (inr (count, asks)))
make_outcome (many a b c d) asks = absurd (one_command d.check asks)
make_outcome (no_table at name a b c names lacks) asks = absurd (one_command names.checks.check asks)
make_outcome (bad_table at name bytes fault a b c names holds is) asks = absurd (one_command names.checks.check asks)
make_outcome (faulty command files at file fault a b c d f g) asks = absurd (one_command d.checks.check asks)
make_outcome (duplicate_module command files first second file other a b c d f g h) asks = absurd (one_command d.checks.check asks)
make_outcome (long_table command reports new at name a b c d names long) asks = absurd (one_command d.begins.checks.check asks)
make_outcome (passed command reports new says c d f) asks = absurd (one_command d.begins.checks.check asks)
make_outcome (made count asks is c) also = is.status_so

pub makes_it : (words : List (List ℕ)) (told after : Option Files) (rb rn n k : ℕ) (status : Status) (output : List ℕ) → Intended words told rb rn n k status output after → IsAnswer status
    → (count : ℕ) → IsMake words count → status ≡ Warnings
makes_it words told after rb rn n k status output (answered o) a count asks = make_outcome o asks
makes_it words told after rb rn n k status output (unread word name b c d f rose) a count asks = absurd (subst IsAnswer b a)
makes_it words told after rb rn n k status output (unreplaced word name b c f rose) a count asks = absurd (subst IsAnswer b a)

-- ---- what stays

says_stores : {status : Status} {output : List ℕ} → SaysWhether status output → StoresNothing status → ⊥
says_stores (says_no a b) h = subst StoresNothing a h
says_stores (says_yes a b) h = subst StoresNothing a h

stays_outcome : {words : List (List ℕ)} {told after : Option Files} {status : Status} {output : List ℕ} → Outcome words told status output after → IsNoMake words → StoresNothing status → after ≡ told
stays_outcome (usage a b c d) none h = c
stays_outcome (many a b c d) none h = c
stays_outcome (no_table at name a b c names lacks) none h = c
stays_outcome (bad_table at name bytes fault a b c names holds is) none h = c
stays_outcome (faulty command files at file fault a b c d f g) none h = c
stays_outcome (duplicate_module command files first second file other a b c d f g i) none h = c
stays_outcome (long_table command reports new at name a b c d names long) none h = c
stays_outcome (passed command reports new says c d f) none h = absurd (says_stores says h)
stays_outcome (made count asks is c) none h = absurd (none count asks)

stays : {words : List (List ℕ)} {told after : Option Files} {rb rn n k : ℕ} {status : Status} {output : List ℕ} → Intended words told rb rn n k status output after → IsNoMake words → StoresNothing status → after ≡ told
stays (answered o) none h = stays_outcome o none h
stays (unread word name a b c d rose) none h = c
stays (unreplaced word name a b d rose) none h = absurd (subst StoresNothing a h)

pub stays_it : (words : List (List ℕ)) (told after : Option Files) (rb rn n k : ℕ) (status : Status) (output : List ℕ) → Intended words told rb rn n k status output after → IsNoMake words → StoresNothing status
    → after ≡ told
stays_it words told after rb rn n k status output h none is = stays h none is

-- ---- a make without memory left

pub unfinished_it : (words : List (List ℕ)) (told after : Option Files) (rb rn n k : ℕ) (status : Status) (output : List ℕ) → Intended words told rb rn n k status output after → (count : ℕ)
    → IsMake words count → status ≡ Memory → PutsFirst count told after
unfinished_it words told after rb rn n k status output h count asks e = absurd (no_memory h e)

pub ruleset check_exits = (answers_it, usage_it, too_many_it, read_it, replace_it, unwritten_it, write_it, memory_it, possible_it, stays_it, unfinished_it)
