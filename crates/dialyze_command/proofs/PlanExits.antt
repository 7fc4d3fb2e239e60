-- What a run means to answer, and to put onto the shelf: each way out.
use Rattle.std.proofs.Common.{◌≡◌, ℕ, ◌+◌, ◌<◌, ◌≤◌, ◌^◌, List, [], length, map, drop, get_or, Option, Some, None, Result, Ok, Err, inl, inr, refl, sym, ap, ◌∙◌, subst, arith}
use Rattle.std.specs.Prelude.{IfOk, IfSome, slice_get}
use Rattle.std.specs.List.{concat}
use Rattle.std.specs.Borrow.{Bor}
use Rattle.std.proofs.lemmas.List.{length-map, length-drop}
use Rattle.std.proofs.lemmas.Option.{slice_get-get_or}
use Rattle.type_kinds.specs.declared.memory.Memory.{Memory}
use Rattle.core_ast.specs.Model as m
use Rattle.core_scope.specs.Checked.{module_of}
use Rattle.core_scope.specs.declared.fault.SetFault.{SetFault}
use Rattle.analysis.specs.declared.analysing.Fault.TheVariants.{Set}
use Rattle.analysis.specs.Reports.{IsSetFault}
use Rattle.core_scope.specs.Sets.{StandsEarlier, FirstDuplicate}
use Rattle.da_shelf.proofs.CountLaws.{rose_since}
use Rattle.da_shelf.specs.Counts.{Rose}
use Rattle.da_shelf.specs.Told.{Files}
use Rattle.table_file.specs.declared.tables.Table.{Table}
use Rattle.table_keep.specs.declared.source.Source.{Source as HandedIn}
use Rattle.table_keep.specs.Model.{Source, trees, source_so, sources_so, entries_so}
use Rattle.sound_laws.specs.Accepted.{AreAccepted}
use Rattle.sound_laws_kept.specs.Solving.{IsWritten}
use Rattle.analysis_sources.proofs.FilesRead.{read_length}
use Rattle.analysis_sources.specs.declared.refusals.SourceFault.{SourceFault}
use Rattle.analysis_sources.specs.declared.refusals.Device.TheVariants.{Read}
use Rattle.analysis_sources.specs.declared.reading.ReadFault.TheVariants as read
use Rattle.analysis_sources.specs.Reading.{AreRead, IsReached, RefusedAt, Fails}
use Rattle.analysis_sources.specs.Words.{texts}
use Rattle.analysis_sources.specs.Refusals.{refusal_line}
use Rattle.sound_laws_kept.proofs.Names.{some_is, accepted_sources}
use Rattle.analysis_summaries.specs.Known.{module_names}
use Rattle.analysis_answers.proofs.AnswerExits.{names_so, own_so}
use Rattle.analysis_answers.proofs.FileWords.{failed_word, refused_name, refused_word}
use Rattle.dialyze_command.specs.declared.answer.Answer.{Answer}
use Rattle.dialyze_command.specs.declared.begin.Begun.{Begun}
use Rattle.dialyze_command.specs.declared.begin.Begun.TheVariants.{Reads, Says}
use Rattle.dialyze_command.specs.declared.plan.NewTable.{NewTable}
use Rattle.dialyze_command.specs.declared.plan.CheckPlan.{CheckPlan}
use Rattle.dialyze_command.specs.declared.status.Status.{Status}
use Rattle.dialyze_command.specs.declared.status.Status.TheVariants.{Usage, DeviceFault}
use Rattle.dialyze_command.specs.declared.words.Command.{Command}
use Rattle.dialyze_command.specs.Lines.{usage_line, refused, too_many, too_many_line, duplicate, duplicate_line, read_fault_line}
use Rattle.dialyze_command.specs.Outcome.{Checks, Names, NamesTable, IsBegun, Begins, nowhere, SaysWhether, Analyses, usage, many, no_table, bad_table, faulty, duplicate_module, long_table, passed, Intended}
use Rattle.dialyze_command.specs.Outcome.{answered, unread, unreplaced, of_table, of_file}
use Rattle.dialyze_command.specs.Words.{IsCheck, IsNoCheck, IsNoCommand, IsNoMake, most_files}
use Rattle.dialyze_command.specs.steps.Plans as p
use Rattle.dialyze_command.proofs.Places.{start_small, files_there, plt_within, out_within, plt_small, out_small}
use Rattle.analysis_answers.proofs.Texts.{texts_long, texts_at, word_of}

-- ---- words that are no check of files

no_command : (ws : List (List ℕ)) → IsNoCheck ws → IsNoMake ws → IsNoCommand ws
no_command ws none also (inl h) = none h
no_command ws none also (inr h) = also h.0 h.1

pub usage_plan : (ws : List (List ℕ)) (told : Option Files) (rb rn : ℕ) (status : Status) (output : List ℕ) → IsNoCheck ws → IsNoMake ws → status ≡ Usage → output ≡ usage_line → p.IsPlan ws told rb rn status output None
usage_plan ws told rb rn status output none also s o = p.answers refl (λ n k. answered (usage s o refl (no_command ws none also)))

pub many_plan : (ws : List (List ℕ)) (told : Option Files) (rb rn : ℕ) (command : Command) (files : List (List ℕ)) (status : Status) (output : List ℕ) → IsCheck ws command files → most_files < length files
    → status ≡ too_many → output ≡ too_many_line → p.IsPlan ws told rb rn status output None
many_plan ws told rb rn command files status output check long s o =
    p.answers refl (λ n k. answered (many s o refl (record { command = command; files = files; check = check; many = long })))

-- ---- a check

module _ (ws : List (List ℕ)) (told : Option Files) (rb rn : ℕ) (command : Command) (files : List (List ℕ)) (checks : Checks ws command files) where
  names_table : (word : ℕ) (name : List ℕ) → Names ws command.plt word name → NamesTable ws word name
  names_table word name names = record { command = command; files = files; checks = checks; plt = names }

  pub table_plan : (word : ℕ) (name : List ℕ) (status : Status) (output : List ℕ) → Names ws command.plt word name → p.IsTableFault told word name rb rn status output → p.IsPlan ws told rb rn status output None
  table_plan word name status output names (p.lacking s o lacks) = p.answers refl (λ n k. answered (no_table word name s o refl (names_table word name names) lacks))
  table_plan word name status output names (p.faulty bytes fault s o held is) = p.answers refl (λ n k. answered (bad_table word name bytes fault s o refl (names_table word name names) held is))
  table_plan word name status output names (p.failing s o rose) = p.answers refl (λ n k. unread word name s o refl (of_table (names_table word name names)) rose)

  module _ (table : Table) (begun : IsBegun ws told command.plt table) where
    abbrev begins_so : Begins ws told command files
    begins_so = record { checks = checks; table = table; begun = begun }

    pub refused_plan : (at : ℕ) (file : List ℕ) (fault : SourceFault) (status : Status) (output : List ℕ) → RefusedAt told files at fault → slice_get files at ≡ Some file
        → status ≡ refused (command.start + at) fault → output ≡ refusal_line file fault → p.IsPlan ws told rb rn status output None
    refused_plan at file fault status output h there s o =
        p.answers refl (λ n k. answered (faulty command files at file fault s o refl begins_so there h))

    pub unread_plan : (at before : ℕ) (file : List ℕ) (status : Status) (output : List ℕ) → IsReached told files at file before → Rose rb rn
        → status ≡ DeviceFault (Read (command.start + at)) → output ≡ read_fault_line file → p.IsPlan ws told rb rn status output None
    unread_plan at before file status output reached rose s o =
        p.answers refl (λ n k. unread (command.start + at) file s o refl (of_file command files at before refl begins_so reached) rose)

    pub judged_plan : (M : List Source) (status : Status) (output : List ℕ) (made : Option NewTable) (after : ℕ) → AreRead told 0 files M after → AreAccepted (trees M) → files ≡ drop command.start ws
        → p.IsJudged ws command (entries_so table) M status output made → p.IsPlan ws told rb rn status output made
    judged_plan M status output made after read accepted same (p.names_one first second file other s o none f g h) =
        p.answers none (λ n k. answered (duplicate_module command files first second file other s o refl begins_so (ap (λ fs. slice_get fs second) same ∙ f)
        (ap (λ fs. slice_get fs first) same ∙ g) (record { sources = M; read = record { after = after; read = read }; is = h })))
    judged_plan M status output made after read accepted same (p.analysed reports new names written h) = by h
      where
        analyses : Analyses ws told command reports new
        analyses = record { files = files; begins = begins_so; sources = M; read = record { after = after; read = read }; names = names; accepted = accepted; written = written }

        by : p.IsMade ws command.out reports new status output made → p.IsPlan ws told rb rn status output made
        by (p.long word name s o none named big) = p.answers none (λ n k. answered (long_table command reports new word name s o refl analyses named big))
        by (p.alone says o none no_name) = p.answers none (λ n k. answered (passed command reports new says o analyses (nowhere no_name refl)))
        by (p.stored new_one says o some is) = p.stores command reports new new_one some analyses says o is

-- a failed read is one of a longer time too
pub plan_since : {ws : List (List ℕ)} {told : Option Files} {early rb rn : ℕ} {status : Status} {output : List ℕ} {made : Option NewTable} → early ≤ rb
    → p.IsPlan ws told rb rn status output made → p.IsPlan ws told early rn status output made
plan_since h (p.stores command reports new table some analyses says o is) = p.stores command reports new table some analyses says o is
plan_since {ws} {told} {early} {rb} {rn} {status} {output} h (p.answers none means) = p.answers none (λ n k. since n k (means n k))
  where
    since : (n k : ℕ) → Intended ws told rb rn n k status output told → Intended ws told early rn n k status output told
    since n k (answered o) = answered o
    since n k (unread word name s o e is rose) = unread word name s o e is (rose_since early rb rn h rose)
    since n k (unreplaced word name s o is rose) = unreplaced word name s o is rose

-- ---- files that aren't read

-- the words of a check, as the code has them
module _ (words : List (Bor (List ℕ))) (command : Command) (checks : Checks (texts words) command (drop command.start (texts words))) where
  abbrev files : List (List ℕ)
  files = drop command.start (texts words)

  pub start_within : command.start < length words
  start_within = omega (arith, files_there checks.check, texts_long words)

  pub few_words : length words < 2 ^ 32
  few_words = omega (arith, checks.few, length-drop command.start (texts words), texts_long words, start_small checks.check)

  pub plt_word : IfSome command.plt (λ word. word < length words)
  plt_word = plt_within (texts words) command (length words) (sym (texts_long words)) checks.check

  pub out_word : IfSome command.out (λ word. word < length words)
  out_word = out_within (texts words) command (length words) (sym (texts_long words)) checks.check

  pub plt_few : IfSome command.plt (λ word. word < 2 ^ 32)
  plt_few = plt_small (texts words) command (length words) (sym (texts_long words)) checks.check

  pub out_few : IfSome command.out (λ word. word < 2 ^ 32)
  out_few = out_small (texts words) command (length words) (sym (texts_long words)) checks.check

  -- as many sources as files
  pub whole_words : (told : Option Files) (sources : List HandedIn) → ((after : ℕ) × AreRead told 0 files (sources_so sources) after) → command.start + length sources ≡ length words
  whole_words told sources h =
      omega (arith, read_length told 0 files (sources_so sources) h.0 h.1, length-map sources source_so, length-drop command.start (texts words), texts_long words, files_there checks.check)

  module _ (told : Option Files) (rb rn : ℕ) where
    module _ (table : Table) (begun : IsBegun (texts words) told command.plt table) where
      -- the word and the fault as the code names them
      pub refused_words : (word : ℕ) (fault : SourceFault) (v : ℕ) (f : SourceFault) (d : Bor (List ℕ)) (status : Status) (output : List ℕ) → Fails told files command.start rb rn (read.Refused word fault) → v ≡ word
          → f ≡ fault
          → status ≡ refused v f → output ≡ refusal_line (get_or words v d).now f → p.IsPlan (texts words) told rb rn status output None
      refused_words word fault v f d status output fails is same s o =
          let file = refused_name fails.2 in
          let called = refused_word words command.start told rb rn word fault d fails in
          refused_plan (texts words) told rb rn command files checks table begun fails.0 file.0 fault status output fails.2 file.1
          (s ∙ ap (λ w. refused w f) (is ∙ fails.1) ∙ ap (refused (command.start + fails.0)) same)
          (o ∙ ap (λ w. refusal_line (get_or words w d).now f) is ∙ ap (λ n. refusal_line n f) called ∙ ap (refusal_line file.0) same)

      pub unread_words : (word v : ℕ) (d : Bor (List ℕ)) (status : Status) (output : List ℕ) → Fails told files command.start rb rn (read.Failed word) → v ≡ word
          → status ≡ DeviceFault (Read v) → output ≡ read_fault_line (get_or words v d).now → p.IsPlan (texts words) told rb rn status output None
      unread_words word v d status output fails is s o =
          unread_plan (texts words) told rb rn command files checks table begun fails.0 fails.2.1 fails.2.0 status output fails.2.2 fails.3
          (s ∙ ap (λ w. DeviceFault (Read w)) (is ∙ fails.1))
          (o ∙ ap (λ w. read_fault_line (get_or words w d).now) is ∙ ap read_fault_line (failed_word words command.start told rb rn word d fails))

      pub judged_words : (sources : List HandedIn) (r : Result CheckPlan Memory) → ((after : ℕ) × AreRead told 0 files (sources_so sources) after)
          → IfOk r (λ q. p.IsJudged (texts words) command (entries_so table) (sources_so sources) q.answer.status q.answer.output q.table)
          → IfOk r (λ q. p.IsPlan (texts words) told rb rn q.answer.status q.answer.output q.table)
      judged_words sources (Ok q) h judged =
          judged_plan (texts words) told rb rn command files checks table begun (sources_so sources) q.answer.status q.answer.output q.table h.0 h.1 (accepted_sources sources) refl judged
      judged_words sources (Err e) h judged = tt

-- ---- what the analysis says of the modules of sources

pub analysed_it : (ws : List (List ℕ)) (command : Command) (table new : Table) (sources : List HandedIn) (reports : List (List ℕ)) (r : Result CheckPlan Memory)
    → ((j : ℕ) → j < length sources → StandsEarlier (map (λ (s : HandedIn). (module_of s.checked).name) sources) j → ⊥) → IsWritten (entries_so table) (sources_so sources) reports (entries_so new)
    → IfOk r (λ q. p.IsMade ws command.out reports new q.answer.status q.answer.output q.table)
    → IfOk r (λ q. p.IsJudged ws command (entries_so table) (sources_so sources) q.answer.status q.answer.output q.table)
analysed_it ws command table new sources reports (Ok q) own written made = p.analysed reports new (own_so sources own) written made
analysed_it ws command table new sources reports (Err e) own written made = tt

pub set_told : (sources : List HandedIn) (fault : SetFault) (first second : ℕ) → IsSetFault (map (λ (s : HandedIn). (module_of s.checked).name) sources) (Set fault)
    → first ≡ p.first_of fault → second ≡ p.second_of fault → FirstDuplicate (module_names (trees (sources_so sources))) first second
set_told sources fault first second h e g =
    subst (λ ns. FirstDuplicate ns first second) (names_so sources)
    (subst (λ i. FirstDuplicate (map (λ (s : HandedIn). (module_of s.checked).name) sources) i second) (sym (e ∙ ap p.first_of h.2))
    (subst (FirstDuplicate (map (λ (s : HandedIn). (module_of s.checked).name) sources) h.0) (sym (g ∙ ap p.second_of h.2)) h.3))

pub set_within : (start total : ℕ) (sources : List HandedIn) (fault : SetFault) (first second : ℕ) → start + length sources ≡ total
    → IsSetFault (map (λ (s : HandedIn). (module_of s.checked).name) sources) (Set fault) → first ≡ p.first_of fault → second ≡ p.second_of fault → (start + first < total) × (start + second < total)
set_within start total sources fault first second long h e g =
    let is = set_told sources fault first second h e g in
    let k = length-map (trees (sources_so sources)) (λ (x : m.Module). x.name) ∙ length-map (sources_so sources) (λ (s : Source). s.tree) ∙ length-map sources source_so in
    (omega (arith, k, is.within, is.before, long), omega (arith, k, is.within, long))

pub twins_it : (words : List (Bor (List ℕ))) (command : Command) (table : Table) (sources : List HandedIn) (fault : SetFault) (first second : ℕ) (r : Result CheckPlan Memory) → command.start + length sources ≡ length words
    → IsSetFault (map (λ (s : HandedIn). (module_of s.checked).name) sources) (Set fault) → first ≡ p.first_of fault → second ≡ p.second_of fault
    → IfOk r (λ q. q.answer.status ≡ duplicate (command.start + second) (command.start + first))
    → IfOk r (λ q. (file other : List ℕ) → slice_get (drop command.start (texts words)) second ≡ Some file → slice_get (drop command.start (texts words)) first ≡ Some other → q.answer.output ≡ duplicate_line file other)
    → IfOk r (λ q. q.table ≡ None)
    → IfOk r (λ q. p.IsJudged (texts words) command (entries_so table) (sources_so sources) q.answer.status q.answer.output q.table)
twins_it words command table sources fault first second (Err x) long h e g s o n = tt
twins_it words command table sources fault first second (Ok q) long h e g s o n =
    let fs = drop command.start (texts words) in
    let within = set_within command.start (length words) sources fault first second long h e g in
    let k = length-drop command.start (texts words) in
    let file = slice_get-get_or fs second [] (omega (arith, within.1, k, texts_long words)) in
    let other = slice_get-get_or fs first [] (omega (arith, within.0, k, texts_long words)) in
    p.names_one first second (get_or fs second []) (get_or fs first []) s (o (get_or fs second []) (get_or fs first []) file other) n file other (set_told sources fault first second h e g)

-- the files of two positions, where they are read from the words
pub twins_output : (words : List (Bor (List ℕ))) (start first second : ℕ) (d e : Bor (List ℕ)) (output : List ℕ) → start + first < length words → start + second < length words
    → output ≡ duplicate_line (get_or words (start + second) d).now (get_or words (start + first) e).now → (file other : List ℕ)
    → slice_get (drop start (texts words)) second ≡ Some file → slice_get (drop start (texts words)) first ≡ Some other → output ≡ duplicate_line file other
twins_output words start first second d e output h k o file other x y =
    let f : (get_or words (start + second) d).now ≡ file = some_is (sym (texts_at words (start + second) d k) ∙ word_of (texts words) start second ∙ x) in
    let g : (get_or words (start + first) e).now ≡ other = some_is (sym (texts_at words (start + first) e h) ∙ word_of (texts words) start first ∙ y) in
    o ∙ ap (λ w. duplicate_line w (get_or words (start + first) e).now) f ∙ ap (duplicate_line file) g

-- ---- the table that is to be written

pub made_named : (words : List (Bor (List ℕ))) (out : Option ℕ) (word : ℕ) (d : Bor (List ℕ)) (reports : List (List ℕ)) (new : Table) (answer : Answer) (r : Result CheckPlan Memory) → out ≡ Some word
    → IfSome out (λ w. w < length words)
    → SaysWhether answer.status answer.output → answer.output ≡ concat reports → IfOk r (λ q. p.IsNewAs (get_or words word d).now word answer new q.answer.status q.answer.output q.table)
    → IfOk r (λ q. p.IsMade (texts words) out reports new q.answer.status q.answer.output q.table)
made_named words out word d reports new answer (Err e) given h says o is = tt
made_named words out word d reports new answer (Ok q) given h says o is = by is
  where
    inside : word < length words
    inside = subst (λ o. IfSome o (λ w. w < length words)) given h

    by : p.IsNewAs (get_or words word d).now word answer new q.answer.status q.answer.output q.table → p.IsMade (texts words) out reports new q.answer.status q.answer.output q.table
    by (p.too_big s f none big) = p.long word (get_or words word d).now s f none (record { given = given; there = texts_at words word d inside }) big
    by (p.new_table table s f some at short bytes line) =
        p.stored table (subst (λ x. SaysWhether x q.answer.output) (sym s) (subst (SaysWhether answer.status) (sym f) says)) (f ∙ o) some
        (record {
          name = (get_or words word d).now;
          names = record { given = given ∙ ap Some (sym at); there = ap (slice_get (texts words)) at ∙ texts_at words word d inside };
          short = short;
          bytes_so = bytes;
          line_so = line;
        })

pub made_within : (name : List ℕ) (word total : ℕ) (answer : Answer) (new : Table) (r : Result CheckPlan Memory) → word < total → IfOk r (λ q. p.IsNewAs name word answer new q.answer.status q.answer.output q.table)
    → IfOk r (λ q. IfSome q.table (λ t. t.word < total))
made_within name word total answer new (Err e) h is = tt
made_within name word total answer new (Ok q) h is = by is
  where
    by : p.IsNewAs name word answer new q.answer.status q.answer.output q.table → IfSome q.table (λ t. t.word < total)
    by (p.too_big s f none big) = subst (λ t. IfSome t (λ u. u.word < total)) (sym none) tt
    by (p.new_table table s f some at short bytes line) = subst (λ t. IfSome t (λ u. u.word < total)) (sym some) (omega (arith, at, h))

-- ---- the table to begin with comes first

pub reads_plan : (ws : List (List ℕ)) (told mid : Option Files) (early rb rn : ℕ) (r : Result CheckPlan Memory) → mid ≡ told → early ≤ rb → IfOk r (λ q. p.IsPlan ws mid rb rn q.answer.status q.answer.output q.table)
    → IfOk r (λ q. p.IsPlan ws told early rn q.answer.status q.answer.output q.table)
reads_plan ws told mid early rb rn (Err e) same h is = tt
reads_plan ws told mid early rb rn (Ok q) same h is = plan_since h (subst (λ t. p.IsPlan ws t rb rn q.answer.status q.answer.output q.table) same is)

pub begun_table : (ws : List (List ℕ)) (told mid : Option Files) (plt : Option ℕ) (rb rn : ℕ) (b : Begun) (table : Table) → mid ≡ told → b ≡ Reads table → p.IsBegunAs ws told plt rb rn b → IsBegun ws mid plt table
begun_table ws told mid plt rb rn b table same is h = subst (λ t. IsBegun ws t plt table) (sym same) (subst (p.IsBegunAs ws told plt rb rn) is h)

pub says_plan : (ws : List (List ℕ)) (told : Option Files) (rb rn : ℕ) (command : Command) (files : List (List ℕ)) (b : Begun) (answer : Answer) → Checks ws command files → b ≡ Says answer
    → p.IsBegunAs ws told command.plt rb rn b
    → p.IsPlan ws told rb rn answer.status answer.output None
says_plan ws told rb rn command files b answer checks is h =
    let k = subst (p.IsBegunAs ws told command.plt rb rn) is h in
    table_plan ws told rb rn command files checks k.0 k.1 answer.status answer.output k.2 k.3
