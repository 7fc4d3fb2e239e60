-- Two outcomes of the same words, where the same is held, are one: step after step the second can be no other.
use Rattle.std.proofs.Common.{◌≡◌, inl, inr, ℕ, ◌+◌, List, [], sym, ◌∙◌, ap, ap₂, subst, Option, Some, None, true, false}
use Rattle.std.proofs.Common.{length as list_length}
use Rattle.std.specs.Prelude.{slice_get, map}
use Rattle.std.specs.List.{concat}
use Rattle.call_graph.specs.Calls.{functions_of}
use Rattle.da_shelf.specs.Told.{Files, Holds, Lacks, replaced}
use Rattle.table_file.specs.declared.tables.Table.{Table}
use Rattle.table_file.specs.declared.faults.TableFault.{TableFault as FaultOfTable}
use Rattle.table_file.specs.Lengths.{is_short_table}
use Rattle.table_keep.specs.Model.{Source, trees, entry_so, entries_so}
use Rattle.sound_laws_kept.proofs.Names.{none_some, some_is}
use Rattle.sound_laws_kept.specs.Laws.{OneAnalysisLaw, UseCalled}
use Rattle.sound_laws_kept.specs.Solving.{IsWritten}
use Rattle.analysis_sources.specs.declared.refusals.SourceFault.{SourceFault}
use Rattle.analysis_sources.specs.Reading.{RefusedAt}
use Rattle.analysis_sources.specs.Refusals.{refusal_line, missing}
use Rattle.analysis_answers.proofs.HeldOnce.{NoFault, NoneRefused, OnceSpelled, OneFault, OneList, OneRefusal}
use Rattle.analysis_answers.proofs.HeldOnce.{not_both_held, not_read, not_repeated, one_fault, one_reading, one_repeated, one_table}
use Rattle.analysis_answers.proofs.TableModels.{same_bytes, same_short}
use Rattle.analysis_answers.specs.ReadFiles.{IsDuplicate, ReadsAll}
use Rattle.analysis_answers.specs.Tables.{IsFaultOf}
use Rattle.dialyze_command.specs.declared.status.Status.{Status}
use Rattle.dialyze_command.specs.declared.status.Status.TheVariants.{Usage}
use Rattle.dialyze_command.specs.declared.words.Command.{Command}
use Rattle.dialyze_command.specs.Lines.{usage_line, refused, too_long, too_many, too_many_line, duplicate, duplicate_line, faulty_table, table_fault_line}
use Rattle.dialyze_command.specs.Making.{with_first, line_count, summary_line, IsSummary}
use Rattle.dialyze_command.specs.OneOutcome.{BeginsFitly, OneOutcomeLaw}
use Rattle.dialyze_command.specs.Outcome.{ChecksTooMany, Names, NamesTable, IsBegun, empty, named, Begins, Analyses, Stores, nowhere, under}
use Rattle.dialyze_command.specs.Outcome.{SaysWhether, says_no, says_yes, Outcome, usage, many, no_table, bad_table, faulty, duplicate_module, long_table, passed, made}
use Rattle.dialyze_command.specs.Words.{IsMake, IsNoCommand}
use Rattle.dialyze_command.proofs.Causes as causes
use Rattle.dialyze_command.proofs.Causes.{no_command_checks, not_many, no_make, one_word_there, one_name, lacking_begins}
use Rattle.dialyze_command.proofs.KeptExits.{are_sources}
use Rattle.dialyze_command.proofs.UsedByEntries.{table_uses_called}
use Rattle.dialyze_command.proofs.WordExits.{one_check, one_command, one_make}

abbrev IsOne : (status other : Status) (output that : List ℕ) (after then : Option Files) → Type 0
IsOne status other output that after then = (status ≡ other) × (output ≡ that) × (after ≡ then)

-- both are this
both : {status other is : Status} {output that line : List ℕ} {after then held : Option Files} → status ≡ is → output ≡ line → after ≡ held → other ≡ is → that ≡ line → then ≡ held
    → IsOne status other output that after then
both a b c d e f = (a ∙ sym d, b ∙ sym e, c ∙ sym f)

-- ---- what a check answers once its table is read

-- how a check ends whose files are all read, as modules with names of their own
data Ends (words : List (List ℕ)) (held : Files) (command : Command) (reports : List (List ℕ)) (new : Table) (status : Status) (output : List ℕ) (after : Option Files) : Type 0 where
  ends_long : (word : ℕ) (name : List ℕ) → status ≡ refused word too_long → output ≡ refusal_line name too_long → after ≡ Some held → Names words command.out word name
      → is_short_table new ≡ false → Ends words held command reports new status output after
  ends_passed : SaysWhether status output → output ≡ concat reports → Stores words command new (Some held) after → Ends words held command reports new status output after

data Begun (words : List (List ℕ)) (held : Files) (command : Command) (files : List (List ℕ)) (status : Status) (output : List ℕ) (after : Option Files) : Type 0 where
  file_refused : (at : ℕ) (file : List ℕ) (fault : SourceFault) → status ≡ refused (command.start + at) fault → output ≡ refusal_line file fault → after ≡ Some held
      → slice_get files at ≡ Some file → RefusedAt (Some held) files at fault → Begun words held command files status output after
  name_twice : (first second : ℕ) (file other : List ℕ) → status ≡ duplicate (command.start + second) (command.start + first) → output ≡ duplicate_line file other → after ≡ Some held
      → slice_get files second ≡ Some file → slice_get files first ≡ Some other → IsDuplicate (Some held) files first second → Begun words held command files status output after
  analysed : (reports : List (List ℕ)) (new : Table) → (a : Analyses words (Some held) command reports new) → ReadsAll (Some held) files a.sources
      → Ends words held command reports new status output after → Begun words held command files status output after

one_says : {status other : Status} {output that : List ℕ} → SaysWhether status output → SaysWhether other that → output ≡ that → status ≡ other
one_says (says_no a b) (says_no c d) e = a ∙ sym c
one_says (says_no a b) (says_yes c d) e = absurd (d (sym e ∙ b))
one_says (says_yes a b) (says_no c d) e = absurd (b (e ∙ d))
one_says (says_yes a b) (says_yes c d) e = a ∙ sym c

pub given_none : {words : List (List ℕ)} {option : Option ℕ} {word : ℕ} {name : List ℕ} {X : Type 0} → option ≡ None → Names words option word name → X
given_none none is = none_some (sym none ∙ is.given)

one_stored : {words : List (List ℕ)} {command : Command} {new other : Table} {told after then : Option Files} → entries_so new ≡ entries_so other → Stores words command new told after → Stores words command other told then
    → after ≡ then
one_stored e (nowhere a b) (nowhere c d) = b ∙ sym d
one_stored e (nowhere a b) (under word name c d f) = given_none a c
one_stored e (under word name a b c) (nowhere d f) = given_none d a
one_stored {words} {command} {new} {other} {told} e (under word name a b c) (under word2 name2 d f g) =
    c ∙ ap₂ (replaced told) (one_word_there words command.out word word2 name name2 a d).1 (same_bytes new other e) ∙ sym g

-- a table that is held fits
long_stores : {words : List (List ℕ)} {command : Command} {told after : Option Files} {word : ℕ} {name : List ℕ} (new next : Table) → entries_so new ≡ entries_so next → Names words command.out word name
    → is_short_table new ≡ false → Stores words command next told after → ⊥
long_stores new next e names long (nowhere a b) = given_none a names
long_stores new next e names long (under word name a short c) = false_true (sym long ∙ same_short new next e ∙ short)
  where
    false_true : false ≡ true → ⊥
    false_true k = absurd cc

one_end : {words : List (List ℕ)} {held : Files} {command : Command} {reports others : List (List ℕ)} {new next : Table} {status other : Status} {output that : List ℕ} {after then : Option Files}
    → reports ≡ others → entries_so new ≡ entries_so next → Ends words held command reports new status output after → Ends words held command others next other that then → IsOne status other output that after then
one_end {words} {command = command} r e (ends_long word name a b c names long) (ends_long word2 name2 d f g names2 long2) =
    let same = one_word_there words command.out word word2 name name2 names names2 in
    both a b c (d ∙ ap (λ w. refused w too_long) (sym same.0)) (f ∙ ap (λ n. refusal_line n too_long) (sym same.1)) g
one_end {new = new} {next = next} r e (ends_long word name a b c names long) (ends_passed says d stores) = absurd (long_stores new next e names long stores)
one_end {new = new} {next = next} r e (ends_passed says d stores) (ends_long word name a b c names long) = absurd (long_stores next new (sym e) names long stores)
one_end r e (ends_passed says d stores) (ends_passed says2 f stores2) =
    let lines = d ∙ ap concat r ∙ sym f in
    (one_says says says2 lines, lines, one_stored e stores stores2)

-- ---- the files of a make

module _ (one_list : OneList) (one_refusal : OneRefusal) (none_refused : NoneRefused) (once : OnceSpelled) (fault_once : OneFault) (no_fault : NoFault) (one_analysis : OneAnalysisLaw) where
  nothing_used : (M : List Source) → UseCalled [] M
  nothing_used M h e u at = none_some at

  one_summary : {n : ℕ} {status other : Status} {output that : List ℕ} → IsSummary n status output → IsSummary n other that → (status ≡ other) × (output ≡ that)
  one_summary {n} h k =
      let same : h.sources ≡ k.sources = one_reading one_list h.read k.read in
      let written : IsWritten [] h.sources k.reports k.new = subst (λ M. IsWritten [] M k.reports k.new) (sym same) k.written in
      let one = one_analysis [] h.sources h.reports k.reports h.new k.new (are_sources h.sources h.accepted h.names) (nothing_used h.sources) h.written written in
      (h.status_so ∙ sym k.status_so, h.output_so ∙ ap₂ (λ M rs. summary_line n (list_length (functions_of (trees M))) (line_count (concat rs))) same one.0 ∙ sym k.output_so)

  -- ---- a check whose table is read

  one_begun : {words : List (List ℕ)} {held : Files} {plt : Option ℕ} {s u : Table} → IsBegun words (Some held) plt s → IsBegun words (Some held) plt u → entries_so s ≡ entries_so u
  one_begun (empty a b) (empty c d) = ap (map entry_so) (b ∙ sym d)
  one_begun (empty a b) (named word name is read) = given_none a is
  one_begun (named word name is read) (empty a b) = given_none a is
  one_begun {words} {held} {plt} (named word name is read) (named word2 name2 is2 read2) =
      ap entries_so (one_table once held (one_word_there words plt word word2 name name2 is is2).1 read read2)

  analysed_once : {words : List (List ℕ)} {held : Files} {command : Command} {reports others : List (List ℕ)} {new next : Table} → BeginsFitly words held
      → (a : Analyses words (Some held) command reports new) → (b : Analyses words (Some held) command others next) → (reports ≡ others) × (entries_so new ≡ entries_so next)
  analysed_once {words} {held} {command} {reports} {others} {new} {next} fit a b =
      let files = (one_check a.begins.checks.check b.begins.checks.check).1 in
      let same : a.sources ≡ b.sources = one_reading one_list a.read (subst (λ fs. ReadsAll (Some held) fs b.sources) (sym files) b.read) in
      let table : entries_so a.begins.table ≡ entries_so b.begins.table = one_begun a.begins.begun b.begins.begun in
      let written = subst (λ T. IsWritten T a.sources others (entries_so next)) (sym table) (subst (λ M. IsWritten (entries_so b.begins.table) M others (entries_so next)) (sym same) b.written) in
      one_analysis (entries_so a.begins.table) a.sources reports others (entries_so new) (entries_so next) (are_sources a.sources a.accepted a.names)
      (table_uses_called a.begins.table a.sources (fit command a.files a.begins a.sources a.read)) a.written written

  ended : (words files : List (List ℕ)) (held : Files) (command : Command) (status : Status) (output : List ℕ) (after : Option Files) (other : Command) (reports : List (List ℕ)) (new : Table)
      → Begins words (Some held) command files → Analyses words (Some held) other reports new → Ends words held other reports new status output after → Begun words held command files status output after
  ended words files held command status output after other reports new h d ends =
      let one = one_check d.begins.checks.check h.checks.check in
      let a : Analyses words (Some held) command reports new = subst (λ k. Analyses words (Some held) k reports new) one.0 d in
      analysed reports new a (subst (λ fs. ReadsAll (Some held) fs a.sources) (one_check a.begins.checks.check h.checks.check).1 a.read)
      (subst (λ k. Ends words held k reports new status output after) one.0 ends)

  begun : {words files : List (List ℕ)} {held : Files} {command : Command} {status : Status} {output : List ℕ} {after : Option Files} → Outcome words (Some held) status output after → Begins words (Some held) command files
      → Begun words held command files status output after
  begun (usage a b c d) h = absurd (no_command_checks h.checks d)
  begun (many a b c d) h = absurd (not_many h.checks d)
  begun (no_table at name a b c names lacks) h = absurd (lacking_begins names lacks h)
  begun (bad_table at name bytes fault a b c names holds is) h = absurd (causes.faulty_begins one_list one_refusal none_refused fault_once no_fault names holds is h)
  begun {held = held} (faulty other those at file fault a b c d f g) h =
      let one = one_check d.checks.check h.checks.check in
      file_refused at file fault (a ∙ ap (λ k. refused (k.start + at) fault) one.0) b c (subst (λ fs. slice_get fs at ≡ Some file) one.1 f) (subst (λ fs. RefusedAt (Some held) fs at fault) one.1 g)
  begun {held = held} (duplicate_module other those first second file that a b c d f g i) h =
      let one = one_check d.checks.check h.checks.check in
      name_twice first second file that (a ∙ ap (λ k. duplicate (k.start + second) (k.start + first)) one.0) b c (subst (λ fs. slice_get fs second ≡ Some file) one.1 f)
      (subst (λ fs. slice_get fs first ≡ Some that) one.1 g) (subst (λ fs. IsDuplicate (Some held) fs first second) one.1 i)
  begun {words} {files} {held} {command} {status} {output} {after} (long_table other reports new at name a b c d names long) h =
      ended words files held command status output after other reports new h d (ends_long at name a b c names long)
  begun {words} {files} {held} {command} {status} {output} {after} (passed other reports new says c d f) h =
      ended words files held command status output after other reports new h d (ends_passed says c f)
  begun (made count asks is c) h = absurd (no_make h.checks asks)

  one_of_begun : {words files : List (List ℕ)} {held : Files} {command : Command} {status other : Status} {output that : List ℕ} {after then : Option Files} → BeginsFitly words held
      → Begun words held command files status output after → Begun words held command files other that then → IsOne status other output that after then
  one_of_begun {files = files} {held = held} {command = command} fit (file_refused at file fault a b c there h) (file_refused at2 file2 fault2 d f g there2 k) =
      let same = one_refusal held files at at2 fault fault2 h k in
      let name : file ≡ file2 = some_is (sym there ∙ ap (slice_get files) same.0 ∙ there2) in
      (a ∙ ap₂ (λ i e. refused (command.start + i) e) same.0 same.1 ∙ sym d, b ∙ ap₂ refusal_line name same.1 ∙ sym f, c ∙ sym g)
  one_of_begun fit (file_refused at file fault a b c there h) (name_twice first second file2 that2 d f g i j k) = absurd (not_read none_refused h k.read)
  one_of_begun fit (file_refused at file fault a b c there h) (analysed reports new d read ends) = absurd (not_read none_refused h read)
  one_of_begun fit (name_twice first second file that2 a b c d f h) (file_refused at file2 fault i j k there l) = absurd (not_read none_refused l h.read)
  one_of_begun {files = files} {command = command} fit (name_twice first second file that2 a b c d f h) (name_twice first2 second2 file2 that3 i j k l m n) =
      let same = one_repeated one_list h n in
      let one : file ≡ file2 = some_is (sym d ∙ ap (slice_get files) same.1 ∙ l) in
      let two : that2 ≡ that3 = some_is (sym f ∙ ap (slice_get files) same.0 ∙ m) in
      (a ∙ ap₂ (λ v w. duplicate (command.start + w) (command.start + v)) same.0 same.1 ∙ sym i, b ∙ ap₂ duplicate_line one two ∙ sym j, c ∙ sym k)
  one_of_begun fit (name_twice first second file that2 a b c d f h) (analysed reports new i read ends) = absurd (not_repeated one_list h read i.names)
  one_of_begun fit (analysed reports new a read ends) (file_refused at file fault b c d there h) = absurd (not_read none_refused h read)
  one_of_begun fit (analysed reports new a read ends) (name_twice first second file that2 b c d f g h) = absurd (not_repeated one_list h read a.names)
  one_of_begun fit (analysed reports new a read ends) (analysed others next b read2 ends2) =
      let same = analysed_once fit a b in
      one_end same.0 same.1 ends ends2

  one_check_outcome : {words files : List (List ℕ)} {held : Files} {command : Command} {status other : Status} {output that : List ℕ} {after then : Option Files} → BeginsFitly words held → Begins words (Some held) command files
      → Outcome words (Some held) status output after → Outcome words (Some held) other that then → IsOne status other output that after then
  one_check_outcome fit h o p = one_of_begun fit (begun o h) (begun p h)

  -- ---- each outcome

  only_usage : {words : List (List ℕ)} {held : Files} {status : Status} {output : List ℕ} {after : Option Files} → IsNoCommand words → Outcome words (Some held) status output after
      → IsOne status Usage output usage_line after (Some held)
  only_usage none (usage a b c d) = (a, b, c)
  only_usage none (many a b c d) = absurd (none (inl (d.command, d.files, d.check)))
  only_usage none (no_table at name a b c names lacks) = absurd (no_command_checks names.checks none)
  only_usage none (bad_table at name bytes fault a b c names holds is) = absurd (no_command_checks names.checks none)
  only_usage none (faulty command files at file fault a b c d f g) = absurd (no_command_checks d.checks none)
  only_usage none (duplicate_module command files first second file other a b c d f g h) = absurd (no_command_checks d.checks none)
  only_usage none (long_table command reports new at name a b c d names long) = absurd (no_command_checks d.begins.checks none)
  only_usage none (passed command reports new says c d f) = absurd (no_command_checks d.begins.checks none)
  only_usage none (made count asks is c) = absurd (none (inr (count, asks)))

  only_many : {words : List (List ℕ)} {held : Files} {status : Status} {output : List ℕ} {after : Option Files} → ChecksTooMany words → Outcome words (Some held) status output after
      → IsOne status too_many output too_many_line after (Some held)
  only_many h (usage a b c d) = absurd (d (inl (h.command, h.files, h.check)))
  only_many h (many a b c d) = (a, b, c)
  only_many h (no_table at name a b c names lacks) = absurd (not_many names.checks h)
  only_many h (bad_table at name bytes fault a b c names holds is) = absurd (not_many names.checks h)
  only_many h (faulty command files at file fault a b c d f g) = absurd (not_many d.checks h)
  only_many h (duplicate_module command files first second file other a b c d f g i) = absurd (not_many d.checks h)
  only_many h (long_table command reports new at name a b c d names long) = absurd (not_many d.begins.checks h)
  only_many h (passed command reports new says c d f) = absurd (not_many d.begins.checks h)
  only_many h (made count asks is c) = absurd (one_command h.check asks)

  only_missing : {words : List (List ℕ)} {held : Files} {status : Status} {output : List ℕ} {after : Option Files} (word : ℕ) (name : List ℕ) → NamesTable words word name → Lacks (Some held) name
      → Outcome words (Some held) status output after → IsOne status (refused word missing) output (refusal_line name missing) after (Some held)
  only_missing word name h lacks (usage a b c d) = absurd (no_command_checks h.checks d)
  only_missing word name h lacks (many a b c d) = absurd (not_many h.checks d)
  only_missing word name h lacks (no_table at other a b c names k) =
      let same = one_name names h in
      (a ∙ ap (λ w. refused w missing) same.0, b ∙ ap (λ n. refusal_line n missing) same.1, c)
  only_missing {held = held} word name h lacks (bad_table at other bytes fault a b c names holds is) = absurd (not_both_held held (one_name names h).1 holds lacks)
  only_missing word name h lacks (faulty command files at file fault a b c d f g) = absurd (lacking_begins h lacks d)
  only_missing word name h lacks (duplicate_module command files first second file other a b c d f g i) = absurd (lacking_begins h lacks d)
  only_missing word name h lacks (long_table command reports new at other a b c d names long) = absurd (lacking_begins h lacks d.begins)
  only_missing word name h lacks (passed command reports new says c d f) = absurd (lacking_begins h lacks d.begins)
  only_missing word name h lacks (made count asks is c) = absurd (no_make h.checks asks)

  begins_not : {words files : List (List ℕ)} {held : Files} {command : Command} {w : ℕ} {n bytes : List ℕ} {fault : FaultOfTable} → NamesTable words w n → Holds (Some held) n bytes → IsFaultOf bytes fault
      → Begins words (Some held) command files → ⊥
  begins_not = causes.faulty_begins one_list one_refusal none_refused fault_once no_fault

  only_faulty : {words : List (List ℕ)} {held : Files} {status : Status} {output : List ℕ} {after : Option Files} (word : ℕ) (name bytes : List ℕ) (fault : FaultOfTable) → NamesTable words word name
      → Holds (Some held) name bytes
      → IsFaultOf bytes fault → Outcome words (Some held) status output after → IsOne status (faulty_table fault) output (table_fault_line name fault) after (Some held)
  only_faulty word name bytes fault h holds is (usage a b c d) = absurd (no_command_checks h.checks d)
  only_faulty word name bytes fault h holds is (many a b c d) = absurd (not_many h.checks d)
  only_faulty {held = held} word name bytes fault h holds is (no_table at other a b c names k) = absurd (not_both_held held (sym (one_name names h).1) holds k)
  only_faulty {held = held} word name bytes fault h holds is (bad_table at name2 bytes2 fault2 a b c names holds2 is2) =
      let same = one_name names h in
      let one : fault2 ≡ fault = one_fault fault_once held same.1 holds2 is2 holds is in
      (a ∙ ap faulty_table one, b ∙ ap₂ table_fault_line same.1 one, c)
  only_faulty word name bytes fault h holds is (faulty command files at file other a b c d f g) = absurd (begins_not h holds is d)
  only_faulty word name bytes fault h holds is (duplicate_module command files first second file other a b c d f g i) = absurd (begins_not h holds is d)
  only_faulty word name bytes fault h holds is (long_table command reports new at other a b c d names long) = absurd (begins_not h holds is d.begins)
  only_faulty word name bytes fault h holds is (passed command reports new says c d f) = absurd (begins_not h holds is d.begins)
  only_faulty word name bytes fault h holds is (made count asks said c) = absurd (no_make h.checks asks)

  only_made : {words : List (List ℕ)} {held : Files} {status other : Status} {output that : List ℕ} {after : Option Files} (count : ℕ) → IsMake words count → IsSummary count other that
      → Outcome words (Some held) status output after
      → IsOne status other output that after (with_first count count (Some held))
  only_made count asks is (usage a b c d) = absurd (d (inr (count, asks)))
  only_made count asks is (many a b c d) = absurd (one_command d.check asks)
  only_made count asks is (no_table at name a b c names lacks) = absurd (no_make names.checks asks)
  only_made count asks is (bad_table at name bytes fault a b c names holds k) = absurd (no_make names.checks asks)
  only_made count asks is (faulty command files at file fault a b c d f g) = absurd (no_make d.checks asks)
  only_made count asks is (duplicate_module command files first second file other a b c d f g i) = absurd (no_make d.checks asks)
  only_made count asks is (long_table command reports new at name a b c d names long) = absurd (no_make d.begins.checks asks)
  only_made count asks is (passed command reports new says c d f) = absurd (no_make d.begins.checks asks)
  only_made {held = held} {status = status} {output = output} count asks is (made number also said c) =
      let same : number ≡ count = one_make also asks in
      let one = one_summary (subst (λ n. IsSummary n status output) same said) is in
      (one.0, one.1, c ∙ ap (λ n. with_first n n (Some held)) same)

  turned : {status other : Status} {output that : List ℕ} {after then : Option Files} → IsOne other status that output then after → IsOne status other output that after then
  turned h = (sym h.0, sym h.1, sym h.2)

  -- the first is this, and so is the second
  after_this : {status other is : Status} {output that line : List ℕ} {after then held : Option Files} → status ≡ is → output ≡ line → after ≡ held → IsOne other is that line then held
      → IsOne status other output that after then
  after_this a b c h = both a b c h.0 h.1 h.2

  pub one_outcome : OneOutcomeLaw
  one_outcome words held status other output that after then fit (usage a b c d) p = after_this a b c (only_usage d p)
  one_outcome words held status other output that after then fit (many a b c d) p = after_this a b c (only_many d p)
  one_outcome words held status other output that after then fit (no_table at name a b c names lacks) p = after_this a b c (only_missing at name names lacks p)
  one_outcome words held status other output that after then fit (bad_table at name bytes fault a b c names holds is) p = after_this a b c (only_faulty at name bytes fault names holds is p)
  one_outcome words held status other output that after then fit (faulty command files at file fault a b c d f g) p = one_check_outcome fit d (faulty command files at file fault a b c d f g) p
  one_outcome words held status other output that after then fit (duplicate_module command files first second file twin a b c d f g h) p =
      one_check_outcome fit d (duplicate_module command files first second file twin a b c d f g h) p
  one_outcome words held status other output that after then fit (long_table command reports new at name a b c d names long) p =
      one_check_outcome fit d.begins (long_table command reports new at name a b c d names long) p
  one_outcome words held status other output that after then fit (passed command reports new says c d f) p = one_check_outcome fit d.begins (passed command reports new says c d f) p
  one_outcome words held status other output that after then fit (made count asks is c) p = let h = only_made count asks is p in turned (h.0, h.1, h.2 ∙ sym c)
