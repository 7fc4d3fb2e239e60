-- A line is carried out: each way out.
use Rattle.std.proofs.Common.{◌≡◌, ℕ, ◌<◌, true, false, List, [], ◌∷◌, ◌++◌, map, length, slice_get, Option, Some, Result, Ok, Err, refl, sym, ap, ◌∙◌, subst, arith, true≢false, add-zero}
use Rattle.std.specs.Prelude.{IfOk}
use Rattle.std.specs.List.{concat}
use Rattle.std.proofs.lemmas.List.{length-map}
use Rattle.std.proofs.lemmas.Option.{slice_get_within}
use Rattle.std.proofs.lemmas.Simd.{map-map}
use Rattle.type_kinds.specs.declared.atom.Atom.{Atom}
use Rattle.type_kinds.specs.declared.memory.Memory.{Memory}
use Rattle.core_ast.specs.Model as m
use Rattle.core_scope.specs.Sets.{FirstDuplicate}
use Rattle.core_scope.specs.declared.fault.SetFault.{SetFault}
use Rattle.core_scope.specs.declared.fault.SetFault.TheVariants.{DuplicateModule}
use Rattle.da_shelf.specs.Counts.{Rose}
use Rattle.da_shelf.specs.Told.{Files, appended}
use Rattle.table_keep.specs.declared.source.Source.{Source as HandedIn}
use Rattle.table_keep.specs.Model.{Source, source_so, sources_so}
use Rattle.analysis.specs.Reports.{IsSetFault}
use Rattle.analysis.specs.declared.analysing.Fault.TheVariants.{Set}
use Rattle.analysis_sources.specs.declared.reading.ReadFault.TheVariants as read
use Rattle.analysis_sources.specs.declared.refusals.RefusalName.TheVariants.{TooLong}
use Rattle.analysis_sources.specs.declared.refusals.SourceFault.{SourceFault}
use Rattle.analysis_sources.specs.Reading.{AreRead, RefusedAt, not_held, at_fault, Fails, bytes_of}
use Rattle.analysis_sources.specs.Refusals.{refusal_line}
use Rattle.analysis_sources.specs.Sources.{of_the_whole}
use Rattle.analysis_answers.specs.Lines.{duplicate_line, read_fault_line, too_many_line}
use Rattle.dia_session_engine.specs.Held.{Held, files_in, held_by, held_file, is_held, sources_in, with_file, without, IsOneTooMany, IsTooLong, MayHold, HoldsOwnNames, AreReportsOn}
use Rattle.dia_session_command.specs.declared.carrying.LineAnswer.{LineAnswer}
use Rattle.dia_session_command.specs.Lines.{ok_line, asked_line, not_there_line}
use Rattle.dia_session_command.specs.Script.{Request}
use Rattle.dia_session_command.specs.Script.Request.{to_replace}
use Rattle.dia_session_command.specs.Session.{Replaces, replaced, not_read, one_too_many, too_long, ReadsFile, Drops, dropped, not_there, Asks, reported, same_name, Gives}
use Rattle.dia_session_command.specs.steps.Carrying.{IsLineAnswer, gives, fails, IsCarriedOut, MeansLine, of_line, of_fault}

-- ---- a line that drops a file

pub is_dropped : (before after : Held) (file : List ℕ) (r : Result (List ℕ) Memory) → is_held before file ≡ true → after ≡ without before file → IfOk r (λ found. found ≡ ok_line)
    → IfOk r (λ output. Drops before file output after)
is_dropped before after file (Ok output) there e o = dropped there o e
is_dropped before after file (Err fault) there e o = tt

pub is_not_there : (before after : Held) (file : List ℕ) (r : Result (List ℕ) Memory) → is_held before file ≡ false → after ≡ before → IfOk r (λ found. found ≡ not_there_line file)
    → IfOk r (λ output. Drops before file output after)
is_not_there before after file (Ok output) none e o = not_there none o e
is_not_there before after file (Err fault) none e o = tt

-- ---- a line that replaces a file, which is read as this source

module _ (before after : Held) (file : List ℕ) (source : HandedIn) (r : Result (List ℕ) Memory) where
  abbrev Puts : Type 0
  Puts = IfOk r (λ output. (told : Option Files) → ReadsFile told (held_file file source) → Replaces told before file output after)

  pub is_put : MayHold before file source.length → after ≡ with_file before (held_file file source) → IfOk r (λ found. found ≡ ok_line) → Puts
  is_put may e o = by r o
    where
      by : (q : Result (List ℕ) Memory) → IfOk q (λ found. found ≡ ok_line) → IfOk q (λ output. (told : Option Files) → ReadsFile told (held_file file source) → Replaces told before file output after)
      by (Ok output) h = λ told is. replaced (held_file file source) refl is may h e
      by (Err fault) h = tt

  pub is_one_too_many : IsOneTooMany before file → after ≡ before → IfOk r (λ found. found ≡ too_many_line) → Puts
  is_one_too_many many e o = by r o
    where
      by : (q : Result (List ℕ) Memory) → IfOk q (λ found. found ≡ too_many_line) → IfOk q (λ output. (told : Option Files) → ReadsFile told (held_file file source) → Replaces told before file output after)
      by (Ok output) h = λ told is. one_too_many (held_file file source) refl is many h e
      by (Err fault) h = tt

  pub is_too_long : (IsOneTooMany before file → ⊥) × IsTooLong before file source.length → after ≡ before → IfOk r (λ found. found ≡ refusal_line file (of_the_whole TooLong)) → Puts
  is_too_long long e o = by r o
    where
      by : (q : Result (List ℕ) Memory) → IfOk q (λ found. found ≡ refusal_line file (of_the_whole TooLong))
          → IfOk q (λ output. (told : Option Files) → ReadsFile told (held_file file source) → Replaces told before file output after)
      by (Ok output) h = λ told is. too_long (held_file file source) refl is long.0 long.1 h e
      by (Err fault) h = tt

-- the file is read as the one source that there is
pub reads_file : (told : Option Files) (file : List ℕ) (sources : List HandedIn) (source : HandedIn) → sources ≡ source ∷ [] → AreRead told 0 (file ∷ []) (sources_so sources) (bytes_of sources)
    → ReadsFile told (held_file file source)
reads_file told file sources source e h =
    subst (λ (n : ℕ). AreRead told 0 (file ∷ []) (source_so source ∷ []) n) (add-zero source.length) (subst (λ (ss : List HandedIn). AreRead told 0 (file ∷ []) (sources_so ss) (bytes_of ss)) e h)

pub one_source : (told : Option Files) (file : List ℕ) (sources : List HandedIn) (after : ℕ) → AreRead told 0 (file ∷ []) (sources_so sources) after → length sources ≡ 1
one_source told file [] after h = absurd h
one_source told file (s ∷ []) after h = refl
one_source told file (s ∷ t ∷ ss) after h = absurd h.3

-- it is the first word that is refused
pub refused_first : (told : Option Files) (file : List ℕ) (reads now word : ℕ) (fault : SourceFault) → Fails told (file ∷ []) 0 reads now (read.Refused word fault) → RefusedAt told (file ∷ []) 0 fault
refused_first told file reads now word fault h = subst (λ (i : ℕ). RefusedAt told (file ∷ []) i fault) (first h.2) h.2
  where
    within : (at : ℕ) (name : List ℕ) → slice_get (file ∷ []) at ≡ Some name → at ≡ 0
    within at name there = let low = slice_get_within (file ∷ []) at name there in omega arith

    first : {at : ℕ} → RefusedAt told (file ∷ []) at fault → at ≡ 0
    first (not_held e g) = within _ g.file g.reached.there
    first (at_fault g) = within _ g.file g.reached.there

-- the line of one that isn't read
pub is_not_read : (told : Option Files) (before : Held) (file : List ℕ) (reads now word : ℕ) (fault : SourceFault) (output : List ℕ) (answer : LineAnswer) → Fails told (file ∷ []) 0 reads now (read.Refused word fault)
    → output ≡ refusal_line file fault → answer ≡ record { output = output; unread = false } → IsLineAnswer told before (to_replace file) reads now before answer
is_not_read told before file reads now word fault output answer h o e =
    subst (IsLineAnswer told before (to_replace file) reads now before) (sym e) (gives refl (not_read fault (refused_first told file reads now word fault h) o refl))

-- ---- a line that asks

module _ (before : List (List ℕ × HandedIn)) where
  abbrev pub names : List Atom
  names = map (λ (s : Source). s.tree.name) (sources_in (held_by before))

  -- the positions that a fault of a set names, as the code has them
  pub twins : (fault : SetFault) (first second : ℕ) → IsSetFault names (Set fault) → ((i j : ℕ) → fault ≡ DuplicateModule i j → (first ≡ i) × (second ≡ j)) → FirstDuplicate names first second
  twins fault first second h is =
      let same = is h.0 h.1 h.2 in
      subst (λ i. FirstDuplicate names i second) (sym same.0) (subst (FirstDuplicate names h.0) (sym same.1) h.3)

  long : length names ≡ length before
  long = length-map (sources_in (held_by before)) (λ (s : Source). s.tree.name) ∙ length-map (held_by before) (λ h. h.source) ∙ length-map before (λ (p : List ℕ × HandedIn). held_file p.0 p.1)

  module _ (after : List (List ℕ × HandedIn)) (fault : SetFault) (same : after ≡ before) (set : IsSetFault names (Set fault)) where
    longer : length after ≡ length names
    longer = ap (λ v. length v) same ∙ sym long

    pub first_within : (first : ℕ) → ((i j : ℕ) → fault ≡ DuplicateModule i j → first ≡ i) → first < length after
    first_within first is = let e = is set.0 set.1 set.2 in let l = longer in omega (arith, set.3.within, set.3.before)

    pub second_within : (second : ℕ) → ((i j : ℕ) → fault ≡ DuplicateModule i j → second ≡ j) → second < length after
    second_within second is = let e = is set.0 set.1 set.2 in let l = longer in omega (arith, set.3.within)

  pub is_reported : (after : List (List ℕ × HandedIn)) (reports shown : List (List ℕ)) (r : Result (List ℕ) Memory) → after ≡ before → HoldsOwnNames (held_by before) → AreReportsOn (held_by before) reports
      → shown ≡ reports
      → IfOk r (λ found. found ≡ concat shown ++ asked_line) → IfOk r (λ output. Asks (held_by before) output (held_by after))
  is_reported after reports shown (Ok output) e own are same o = reported reports own are (o ∙ ap (λ ls. concat ls ++ asked_line) same) (ap held_by e)
  is_reported after reports shown (Err fault) e own are same o = tt

  pub is_same_name : (after : List (List ℕ × HandedIn)) (first second : ℕ) (file other : List ℕ) (r : Result (List ℕ) Memory) → after ≡ before → FirstDuplicate names first second
      → slice_get (files_in (held_by after)) second ≡ Some file → slice_get (files_in (held_by after)) first ≡ Some other → IfOk r (λ found. found ≡ duplicate_line file other)
      → IfOk r (λ output. Asks (held_by before) output (held_by after))
  is_same_name after first second file other (Ok output) e h f g o =
      same_name file other
      (record {
        first = first;
        second = second;
        is = subst (λ ns. FirstDuplicate ns first second) (sym (map-map (λ (x : m.Module). x.name) (λ (s : Source). s.tree) (sources_in (held_by before)))) h;
        file_so = subst (λ v. slice_get (files_in (held_by v)) second ≡ Some file) e f;
        other_so = subst (λ v. slice_get (files_in (held_by v)) first ≡ Some other) e g;
      })
      o (ap held_by e)
  is_same_name after first second file other (Err fault) e h f g o = tt

-- ---- what a line gives, and what is written of it

pub goes_on_so : (told : Option Files) (before after : Held) (request : Request) (reads now : ℕ) (output : List ℕ) (answer : LineAnswer) → answer ≡ record { output = output; unread = false }
    → Gives told before request output after → IsLineAnswer told before request reads now after answer
goes_on_so told before after request reads now output answer e g = subst (IsLineAnswer told before request reads now after) (sym e) (gives refl g)

module _ (told : Option Files) (before after : Held) (request : Request) (reads now : ℕ) (answer : LineAnswer) where
  pub means_line : IsLineAnswer told before request reads now after answer → MeansLine told before request reads now answer.output
  means_line (gives u g) = of_line after g
  means_line (fails file u e o rose) = of_fault file e o rose

  pub ends_unread : IsLineAnswer told before request reads now after answer → answer.unread ≡ true → (written written_now : Option (List ℕ)) → written_now ≡ appended written answer.output
      → (file : List ℕ) × (request ≡ to_replace file) × Rose reads now × (written_now ≡ appended written (read_fault_line file))
  ends_unread (gives u g) is written written_now w = absurd (true≢false (sym is ∙ u))
  ends_unread (fails file u e o rose) is written written_now w = (file, e, rose, w ∙ ap (appended written) o)

  pub carried_out : IsLineAnswer told before request reads now after answer → answer.unread ≡ false → (written written_now : Option (List ℕ)) → written_now ≡ appended written answer.output
      → IsCarriedOut told before request after written written_now
  carried_out (gives u g) is written written_now w = record { output = answer.output; gives = g; written_so = w }
  carried_out (fails file u e o rose) is written written_now w = absurd (true≢false (sym u ∙ is))
