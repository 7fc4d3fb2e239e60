-- What the steps of a run give by what their reads told: each way out.
use Rattle.std.proofs.Common.{◌≡◌, ℕ, zero, suc, ◌+◌, ◌<◌, ◌≤◌, List, [], ◌∷◌, ◌++◌, length, take, drop, get_or, Option, Some, None, Result, Ok, Err, inl, refl, sym, ap, ◌∙◌, subst}
use Rattle.std.specs.Prelude.{IfOk, IfSome, slice_get}
use Rattle.std.specs.Borrow.{Bor}
use Rattle.type_kinds.specs.declared.memory.Memory.{Memory}
use Rattle.da_shelf.specs.declared.shelf.ShelfFault.TheVariants as sf
use Rattle.da_shelf.specs.Counts.{Rose}
use Rattle.da_shelf.specs.Reads.{ToldRead, gave, gave_none, IsTold}
use Rattle.da_shelf.specs.Told.{Files, replaced, appended}
use Rattle.da_shelf.proofs.ToldReads.{nothing_fits, nothing_told, one_told, told_so, told_then, told_first}
use Rattle.table_file.specs.declared.tables.Table.{Table}
use Rattle.table_keep.specs.declared.source.Source.{Source as HandedIn}
use Rattle.table_keep.specs.Model.{Source, Entry, sources_so, entries_so}
use Rattle.sound_laws_kept.proofs.Names.{accepted_sources}
use Rattle.analysis_sources.specs.declared.refusals.SourceFault.{SourceFault}
use Rattle.analysis_sources.specs.declared.refusals.Device.TheVariants.{Read, Replace}
use Rattle.analysis_sources.specs.declared.reading.ReadFault.TheVariants as read
use Rattle.analysis_sources.specs.Reading.{AreRead, AreUpTo, Fails, bytes_of}
use Rattle.analysis_sources.specs.Refusals.{refusal_line, missing}
use Rattle.analysis_sources.specs.Words.{texts}
use Rattle.analysis_answers.proofs.Texts.{texts_at}
use Rattle.dialyze_command.specs.declared.answer.Answer.{Answer}
use Rattle.dialyze_command.specs.declared.begin.Begun.{Begun}
use Rattle.dialyze_command.specs.declared.begin.Begun.TheVariants.{Reads, Says}
use Rattle.dialyze_command.specs.declared.plan.NewTable.{NewTable}
use Rattle.dialyze_command.specs.declared.plan.CheckPlan.{CheckPlan}
use Rattle.dialyze_command.specs.declared.status.Status.{Status}
use Rattle.dialyze_command.specs.declared.status.Status.TheVariants.{Usage, DeviceFault}
use Rattle.dialyze_command.specs.declared.words.Command.{Command}
use Rattle.dialyze_command.specs.Lines.{usage_line, refused, too_many, too_many_line, read_fault_line}
use Rattle.dialyze_command.specs.Making.{with_first}
use Rattle.dialyze_command.specs.Outcome.{Checks, IsAnswer, IsPassed, SaysWhether, says_no, says_yes, Intended}
use Rattle.dialyze_command.specs.Outcome as outcome
use Rattle.dialyze_command.specs.Reads.{table_named, is_refused, is_unread, GoesThrough, passing, twins, long, untaken, up_to, all, AreCheckReads, of_check, of_make, AnswersAsTold}
use Rattle.dialyze_command.specs.Reads as rd
use Rattle.dialyze_command.specs.Words.{IsCheck, IsMake, IsNoCheck, IsNoMake, most_files}
use Rattle.dialyze_command.specs.steps.Plans as p
use Rattle.dialyze_command.specs.steps.Puts as puts
use Rattle.dialyze_command.specs.steps.ToldPlans.{FilesPlanned, CheckPlanned, RunIntended}
use Rattle.dialyze_command.proofs.BeginExits.{bytes_read, begun_named}
use Rattle.dialyze_command.proofs.CheckExits.{outcome_of}
use Rattle.dialyze_command.proofs.MakeExits.{made_intended}
use Rattle.dialyze_command.proofs.PlanExits as plans
use Rattle.dialyze_command.proofs.StoreExits.{carried}

-- ---- statuses

passes : {status : Status} {output : List ℕ} → SaysWhether status output → IsPassed status
passes (says_no s o) = subst IsPassed (sym s) tt
passes (says_yes s o) = subst IsPassed (sym s) tt

-- an analysis comes where all was read
goes_through : (ws : List (List ℕ)) (command : Command) (T : List Entry) (M : List Source) (status : Status) (output : List ℕ) (made : Option NewTable)
    → p.IsJudged ws command T M status output made → GoesThrough ws command status
goes_through ws command T M status output made (p.names_one first second file other s f none g h k) = twins (command.start + second) (command.start + first) s
goes_through ws command T M status output made (p.analysed reports new names written h) = by h
  where
    by : p.IsMade ws command.out reports new status output made → GoesThrough ws command status
    by (p.long word name s f none named big) = long word name named s
    by (p.alone says f none no_name) = passing (passes says)
    by (p.stored table says f some is) = passing (passes says)

-- the word at a place, alone
at_word : (xs : List (List ℕ)) (i : ℕ) (x : List ℕ) → slice_get xs i ≡ Some x → take 1 (drop i xs) ≡ x ∷ []
at_word [] i x e = absurd cc
at_word (y ∷ ys) zero x e = let k : y ≡ x = cc in ap (λ z. z ∷ []) k
at_word (y ∷ ys) (suc i) x e = at_word ys i x e

module _ {S : Type 0} (told : S → S → ToldRead → Type 0) where
  -- ---- the table to begin with

  pub bytes_told : (a b : S) (word : ℕ) (name bytes items : List ℕ) (rb rn : ℕ) (x : Result Begun Memory) → told a b (gave name bytes) → items ≡ bytes
      → IfOk x (λ g. p.IsOfBytes name items g) → IfOk x (λ g. IsTold told a b (name ∷ []) (λ held. p.IsReadAs held word name rb rn g))
  bytes_told a b word name bytes items rb rn (Err e) step same h = tt
  bytes_told a b word name bytes items rb rn (Ok g) step same h =
      one_told told a b (gave name bytes) (λ held. p.IsReadAs held word name rb rn g) step (λ held fit. bytes_read held word name bytes items rb rn (Ok g) same fit h)

  pub lacking_told : (a b : S) (word : ℕ) (name : List ℕ) (rb rn : ℕ) (answer : Answer) → told a b (gave_none name sf.Missing) → answer.status ≡ refused word missing
      → answer.output ≡ refusal_line name missing → IsTold told a b (name ∷ []) (λ held. p.IsReadAs held word name rb rn (Says answer))
  lacking_told a b word name rb rn answer step st out =
      one_told told a b (gave_none name sf.Missing) (λ held. p.IsReadAs held word name rb rn (Says answer)) step (λ held fit. p.lacking st out fit)

  pub failing_told : (a b : S) (word : ℕ) (name : List ℕ) (rb rn : ℕ) (answer : Answer) → told a b (gave_none name sf.Failed) → answer.status ≡ DeviceFault (Read word)
      → answer.output ≡ read_fault_line name → Rose rb rn → IsTold told a b (name ∷ []) (λ held. p.IsReadAs held word name rb rn (Says answer))
  failing_told a b word name rb rn answer step st out rose =
      one_told told a b (gave_none name sf.Failed) (λ held. p.IsReadAs held word name rb rn (Says answer)) step (λ held fit. p.failing st out rose)

  pub named_told : (a b : S) (ws : List (Bor (List ℕ))) (plt : Option ℕ) (word : ℕ) (rb rn : ℕ) (d : Bor (List ℕ)) (x : Result Begun Memory) → plt ≡ Some word → IfSome plt (λ w. w < length ws)
      → IfOk x (λ g. IsTold told a b ((get_or ws word d).now ∷ []) (λ held. p.IsReadAs held word (get_or ws word d).now rb rn g))
      → IfOk x (λ g. IsTold told a b (table_named (texts ws) plt) (λ held. p.IsBegunAs (texts ws) held plt rb rn g))
  named_told a b ws plt word rb rn d (Err e) is h t = tt
  named_told a b ws plt word rb rn d (Ok g) is h t =
      subst (λ names. IsTold told a b names (λ held. p.IsBegunAs (texts ws) held plt rb rn g))
      (sym (ap (table_named (texts ws)) is ∙ at_word (texts ws) word (get_or ws word d).now (texts_at ws word d (subst (λ q. IfSome q (λ w. w < length ws)) is h))))
      (told_so told a b ((get_or ws word d).now ∷ []) _ _ t (λ held read. begun_named ws held plt word rb rn d (Ok g) is h read))

  pub no_name_told : (a : S) (ws : List (List ℕ)) (plt : Option ℕ) (rb rn : ℕ) (table : Table) → plt ≡ None → table.entries ≡ []
      → IsTold told a a (table_named ws plt) (λ held. p.IsBegunAs ws held plt rb rn (Reads table))
  no_name_told a ws plt rb rn table is empty =
      subst (λ names. IsTold told a a names (λ held. p.IsBegunAs ws held plt rb rn (Reads table))) (sym (ap (table_named ws) is))
      (nothing_told told a _ (λ held. outcome.empty is empty))

  -- ---- words that are no check of files

  pub usage_told : (a : S) (ws : List (List ℕ)) (rb rn : ℕ) (status : Status) (output : List ℕ) → IsNoCheck ws → IsNoMake ws → status ≡ Usage → output ≡ usage_line
      → CheckPlanned told a a ws rb rn status output None
  usage_told a ws rb rn status output none also st out =
      record { names = []; names_read = rd.of_no_command st refl; plan = nothing_told told a _ (λ held. plans.usage_plan ws held rb rn status output none also st out) }

  pub many_told : (a : S) (ws : List (List ℕ)) (rb rn : ℕ) (command : Command) (files : List (List ℕ)) (status : Status) (output : List ℕ) → IsCheck ws command files → most_files < length files
      → status ≡ too_many → output ≡ too_many_line → CheckPlanned told a a ws rb rn status output None
  many_told a ws rb rn command files status output check big st out =
      record { names = []; names_read = rd.of_too_many st refl; plan = nothing_told told a _ (λ held. plans.many_plan ws held rb rn command files status output check big st out) }

  -- ---- the files

  module _ (a b : S) (words : List (Bor (List ℕ))) (command : Command) (checks : Checks (texts words) command (drop command.start (texts words))) (table : Table) (rb rn : ℕ) where
    abbrev passed : List (List ℕ)
    passed = drop command.start (texts words)

    pub judged_told : (sources : List HandedIn) (x : Result CheckPlan Memory) → IsTold told a b passed (λ held. AreRead held 0 passed (sources_so sources) (bytes_of sources))
        → IfOk x (λ q. p.IsJudged (texts words) command (entries_so table) (sources_so sources) q.answer.status q.answer.output q.table)
        → IfOk x (λ q. FilesPlanned told a b (texts words) command passed table rb rn q.answer.status q.answer.output q.table)
    judged_told sources (Err e) t judged = tt
    judged_told sources (Ok q) t judged = record {
      names = passed;
      files_read = all (goes_through (texts words) command _ _ _ _ _ judged) refl;
      plan =
          told_so told a b passed _ _ t
          (λ held read begun. plans.judged_plan (texts words) held rb rn command passed checks table begun (sources_so sources) q.answer.status q.answer.output q.table (bytes_of sources) read (accepted_sources sources) refl judged);
    }

    pub refused_told : (word : ℕ) (fault : SourceFault) (v : ℕ) (f : SourceFault) (d : Bor (List ℕ)) (status : Status) (output : List ℕ)
        → ((names : List (List ℕ)) × AreUpTo command.start passed names (read.Refused word fault) × IsTold told a b names (λ held. Fails held passed command.start rb rn (read.Refused word fault)))
        → v ≡ word → f ≡ fault → status ≡ refused v f → output ≡ refusal_line (get_or words v d).now f
        → FilesPlanned told a b (texts words) command passed table rb rn status output None
    refused_told word fault v f d status output t is same st out = record {
      names = t.0;
      files_read = up_to t.1.0 (is_refused f (st ∙ ap (λ w. refused w f) (is ∙ t.1.1))) t.1.2;
      plan =
          told_so told a b t.0 _ _ t.2
          (λ held fails begun. plans.refused_words words command checks held rb rn table begun word fault v f d status output fails is same st out);
    }

    pub unread_told : (word v : ℕ) (d : Bor (List ℕ)) (status : Status) (output : List ℕ)
        → ((names : List (List ℕ)) × AreUpTo command.start passed names (read.Failed word) × IsTold told a b names (λ held. Fails held passed command.start rb rn (read.Failed word)))
        → v ≡ word → status ≡ DeviceFault (Read v) → output ≡ read_fault_line (get_or words v d).now
        → FilesPlanned told a b (texts words) command passed table rb rn status output None
    unread_told word v d status output t is st out = record {
      names = t.0;
      files_read = up_to t.1.0 (is_unread (st ∙ ap (λ w. DeviceFault (Read w)) (is ∙ t.1.1))) t.1.2;
      plan =
          told_so told a b t.0 _ _ t.2
          (λ held fails begun. plans.unread_words words command checks held rb rn table begun word v d status output fails is st out);
    }

  -- ---- the table, and then the files

  pub reads_told : (a b c : S) (ws : List (List ℕ)) (command : Command) (files : List (List ℕ)) (rb rm rn : ℕ) (g : Begun) (table : Table) (x : Result CheckPlan Memory) → Checks ws command files → rb ≤ rm → g ≡ Reads table
      → IsTold told a b (table_named ws command.plt) (λ held. p.IsBegunAs ws held command.plt rb rm g)
      → IfOk x (λ q. FilesPlanned told b c ws command files table rm rn q.answer.status q.answer.output q.table)
      → IfOk x (λ q. CheckPlanned told a c ws rb rn q.answer.status q.answer.output q.table)
  reads_told a b c ws command files rb rm rn g table (Err e) checks low is t f = tt
  reads_told a b c ws command files rb rm rn g table (Ok q) checks low is t f = record {
    names = table_named ws command.plt ++ f.names;
    names_read = rd.of_files command files f.names checks f.files_read refl;
    plan =
        told_then told a b c (table_named ws command.plt) f.names _ _ _ t f.plan
        (λ held begun plan. plans.plan_since low (plan (subst (p.IsBegunAs ws held command.plt rb rm) is begun)));
  }

  pub says_told : (a b : S) (ws : List (List ℕ)) (command : Command) (files : List (List ℕ)) (rb rn : ℕ) (g : Begun) (answer : Answer) → Checks ws command files → g ≡ Says answer
      → IsTold told a b (table_named ws command.plt) (λ held. p.IsBegunAs ws held command.plt rb rn g) → CheckPlanned told a b ws rb rn answer.status answer.output None
  says_told a b ws command files rb rn g answer checks is t = record {
    names = table_named ws command.plt;
    names_read = let k = subst (p.IsBegunAs ws None command.plt rb rn) is (t.so None (nothing_fits t.reads)) in by k.0 k.2.given k.3;
    plan = told_so told a b (table_named ws command.plt) _ _ t (λ held h. plans.says_plan ws held rb rn command files g answer checks is h);
  }
    where
      by : (word : ℕ) {name : List ℕ} → command.plt ≡ Some word → p.IsTableFault None word name rb rn answer.status answer.output
          → AreCheckReads ws answer.status (table_named ws command.plt)
      by word given (p.lacking st out lacks) = rd.of_unread_table command files word checks given (is_refused missing st) refl
      by word given (p.faulty bytes fault st out held h) = rd.of_faulty_table command files fault checks st refl
      by word given (p.failing st out rose) = rd.of_unread_table command files word checks given (is_unread st) refl

  -- ---- what is put onto the shelf

  module _ (count : S → ℕ) (a b c : S) (ws : List (List ℕ)) where
    -- the shelf could hold something else
    held_elsewhere : (T U held : Option Files) (n k : ℕ) (plan : Answer) (made : Option NewTable) (x : Answer) → p.IsStored ws T U n k plan made x
        → (after : Option Files) × p.IsStored ws held after n k plan made x
    held_elsewhere T U held n k plan made x (p.as_planned none same is) = (held, p.as_planned none same refl)
    held_elsewhere T U held n k plan made x (p.put table name some there same is) = (replaced held name table.bytes, p.put table name some there same refl)
    held_elsewhere T U held n k plan made x (p.failed table name some there st out rose whole) = (held, p.failed table name some there st out rose (inl refl))

    -- a plan with a table to put is that of a check that passed
    puts_passed : {held : Option Files} {rb rn : ℕ} {status : Status} {output : List ℕ} {made : Option NewTable} {table : NewTable} → made ≡ Some table → p.IsPlan ws held rb rn status output made → IsPassed status
    puts_passed some (p.answers none means) = let k = sym none ∙ some in absurd cc
    puts_passed some (p.stores command reports new table also analyses says out is) = passes says

    still_read : (status now : Status) (word : ℕ) (names : List (List ℕ)) → IsPassed status → now ≡ DeviceFault (Replace word) → AreCheckReads ws status names → AreCheckReads ws now names
    still_read status now word names pass st (rd.of_no_command e none) = absurd (subst IsPassed e pass)
    still_read status now word names pass st (rd.of_too_many e none) = absurd (subst IsPassed e pass)
    still_read status now word names pass st (rd.of_unread_table command files at checks given (is_refused f e) is) = absurd (subst IsPassed e pass)
    still_read status now word names pass st (rd.of_unread_table command files at checks given (is_unread e) is) = absurd (subst IsPassed e pass)
    still_read status now word names pass st (rd.of_faulty_table command files fault checks e is) = absurd (subst IsPassed e pass)
    still_read status now word names pass st (rd.of_files command files more checks (up_to at (is_refused f e) same) is) = absurd (subst IsPassed e pass)
    still_read status now word names pass st (rd.of_files command files more checks (up_to at (is_unread e) same) is) = absurd (subst IsPassed e pass)
    still_read status now word names pass st (rd.of_files command files more checks (all through same) is) = rd.of_files command files more checks (all (untaken word st) same) is

    names_stored : (T U held : Option Files) (rb rm n k : ℕ) (plan : Answer) (made : Option NewTable) (x : Answer) (names : List (List ℕ)) → p.IsPlan ws held rb rm plan.status plan.output made
        → p.IsStored ws T U n k plan made x → AreCheckReads ws plan.status names → AreCheckReads ws x.status names
    names_stored T U held rb rm n k plan made x names means (p.as_planned none same is) reads = subst (λ y. AreCheckReads ws y.status names) (sym same) reads
    names_stored T U held rb rm n k plan made x names means (p.put table name some there same is) reads = subst (λ y. AreCheckReads ws y.status names) (sym same) reads
    names_stored T U held rb rm n k plan made x names means (p.failed table name some there st out rose whole) reads = still_read plan.status x.status table.word names (puts_passed some means) st reads

    pub stored_told : (T U : Option Files) (rb rm rn n m k : ℕ) (plan : CheckPlan) (x : Result Answer Memory) → CheckPlanned told a b ws rb rm plan.answer.status plan.answer.output plan.table → count c ≡ count b
        → m ≡ n → rn ≡ rm → IfOk x (λ y. p.IsStored ws T U m k plan.answer plan.table y) → IfOk x (λ y. RunIntended told count a c ws rb rn n k y.status y.output)
    stored_told T U rb rm rn n m k plan (Err e) planned same_count also reads stored = tt
    stored_told T U rb rm rn n m k plan (Ok y) planned same_count also reads stored =
        let done : p.IsStored ws T U n k plan.answer plan.table y = subst (λ q. p.IsStored ws T U q k plan.answer plan.table y) also stored in
        let untold = planned.plan.so None (nothing_fits planned.plan.reads) in
        record {
          names = planned.names;
          names_read = of_check (names_stored T U None rb rm n k plan.answer plan.table y planned.names untold done planned.names_read);
          intended =
              told_first told count a b c planned.names _ _ planned.plan same_count
              (λ held means.
              let there = held_elsewhere T U held n k plan.answer plan.table y done in
              (there.0, subst (λ q. Intended ws held rb q n k y.status y.output there.0) (sym reads) (carried ws held there.0 rb rm n k plan.answer plan.table y means there.1)));
        }

    made_elsewhere : (T U held : Option Files) (number n k : ℕ) (y : Answer) → puts.IsMadeAs number T U n k y → (after : Option Files) × puts.IsMadeAs number held after n k y
    made_elsewhere T U held number n k y (puts.all_put is sum) = (with_first number number held, puts.all_put refl sum)
    made_elsewhere T U held number n k y (puts.one_failed at within u) = (
      with_first number at held,
      puts.one_failed at within (record { status_so = u.status_so; output_so = u.output_so; rose = u.rose; whole = inl refl }),
    )

    pub made_told : (T U : Option Files) (rb rn n k number : ℕ) (x : Result Answer Memory) → IsMake ws number → count c ≡ count a → IfOk x (λ y. puts.IsMadeAs number T U n k y)
        → IfOk x (λ y. RunIntended told count a c ws rb rn n k y.status y.output)
    made_told T U rb rn n k number (Err e) asks same is = tt
    made_told T U rb rn n k number (Ok y) asks same is =
        record {
          names = [];
          names_read = of_make number asks refl;
          intended =
              told_first told count a a c [] (λ held. Unit {0}) _ (nothing_told told a (λ held. Unit {0}) (λ held. tt)) same
              (λ held any.
              let there = made_elsewhere T U held number n k y is in
              (there.0, made_intended ws held there.0 rb rn n k number (Ok y) asks there.1));
        }

    -- ---- the answer

    pub answers_told : (rb rn n k : ℕ) (status : Status) (output : List ℕ) (before now : Option (List ℕ)) → RunIntended told count a c ws rb rn n k status output → now ≡ appended before output
        → IsAnswer status → AnswersAsTold told count a c ws status before now
    answers_told rb rn n k status output before now t written answer = record {
      names = t.names;
      reads = t.names_read;
      output = output;
      outcome = record {
        behind = t.intended.behind;
        first = told_so told a t.intended.behind t.names _ _ t.intended.first (λ held h. (h.0, outcome_of answer h.1));
        no_more = t.intended.no_more;
      };
      written = written;
    }
