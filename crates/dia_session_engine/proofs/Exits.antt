-- What an engine keeps after each edit, and what is told of it.
use Rattle.std.proofs.Common.{◌≡◌, ℕ, zero, suc, ◌+◌, ◌-◌, ◌<◌, ◌≤◌, ◌||◌, inl, inr, Bool, true, false, cond, not, List, []}
use Rattle.std.proofs.Common.{◌∷◌, ◌++◌, map, length, get_or, slice_get, slice_set, position, nat_lt, refl, sym, ap, ap₂, ◌∙◌, subst, arith, length-append, true≢false, if◌then◌else◌}
use Rattle.std.specs.Prelude.{Option, Some, None, option_map}
use Rattle.std.specs.List.{list_any, position_or_len, remove, zip}
use Rattle.std.specs.Str.{bytes_eq}
use Rattle.std.proofs.lemmas.Bool.{cases_lt}
use Rattle.std.proofs.lemmas.List.{length-map, length-set, map-append}
use Rattle.std.proofs.lemmas.List.Edits.{length-remove}
use Rattle.std.proofs.lemmas.Option.{slice_get-get_or, slice_get-map}
use Rattle.indexmap.specs.IndexSet.{insert_key}
use Rattle.core_ast.specs.Model as m
use Rattle.core_scope.specs.Checked.{module_of}
use Rattle.core_scope.specs.Sets.{StandsEarlier}
use Rattle.table_keep.specs.declared.source.Source.{Source as HandedIn}
use Rattle.table_keep.specs.Model.{Source, Entry, source_so, sources_so, trees}
use Rattle.sound_laws_kept.specs.Solving.{IsWritten}
use Rattle.analysis.specs.declared.analysing.Fault.{Fault}
use Rattle.analysis.specs.Reports.{IsSetFault}
use Rattle.analysis_sources.specs.declared.source.TheConstants.{MOST_BYTES}
use Rattle.analysis_answers.specs.Words.{most_files}
use Rattle.dia_session_engine.specs.Held.{AreReportsOn, HoldsOwnNames, IsOneTooMany, MayHold, bytes_in, files_in, held_by, held_file, is_held, sources_in, with_file, without, Held, IsTooLong}
use Rattle.dia_session_engine.specs.steps.Holding.{held_of, HasPlace, IsKept}
use Rattle.dia_session_engine.proofs.Places.{files_so, sources_are, held_length, is_at, at_within, at_held, with_at, without_at, without_bytes, with_new, without_new, held_added, with_bytes}

-- ---- names, as texts

module _ {K : Type 0} (f : K → List ℕ) (p : List ℕ → Bool) where
  pub any_named : (ks : List K) → list_any (λ k. p (f k)) ks ≡ list_any p (map f ks)
  any_named [] = refl
  any_named (k ∷ ks) = ap (λ b. p (f k) || b) (any_named ks)

  first_named : (ks : List K) → position_or_len (λ k. p (f k)) ks ≡ position_or_len p (map f ks)
  first_named [] = refl
  first_named (k ∷ ks) = ap (λ n. cond (not (p (f k))) (1 + n) 0) (first_named ks)

  pub place_named : (ks : List K) → position (λ k. p (f k)) ks ≡ position p (map f ks)
  place_named ks = ap₂ (λ n l. cond (nat_lt n l) (Some n) None) (first_named ks) (sym (length-map ks f))

pub map_removed : {K X : Type 0} (f : K → X) (ks : List K) (i : ℕ) → map f (remove ks i) ≡ remove (map f ks) i
map_removed f [] zero = refl
map_removed f [] (suc i) = refl
map_removed f (k ∷ ks) zero = refl
map_removed f (k ∷ ks) (suc i) = ap (λ xs. f k ∷ xs) (map_removed f ks i)

-- ---- numbers

at_most : (n most : ℕ) → (most < n → ⊥) → n ≤ most
at_most n most h = elim (cases_lt most n) [ inl l ↦ absurd (h l) | inr r ↦ r ]

equal : (n m : ℕ) → n ≤ m → m ≤ n → n ≡ m
equal n m low high = omega (arith, low, high)

below : (n most : ℕ) → n ≤ most → (n ≡ most → ⊥) → n < most
below n most low other = elim (cases_lt n most) [ inl l ↦ l | inr r ↦ absurd (other (equal n most low r)) ]

-- ---- what is kept

pub kept_none : IsKept [] [] 0
kept_none = record { same_length = refl; counted = refl; short = omega arith; few = omega arith }

module _ (xs : List (List ℕ)) (ss : List HandedIn) (b : ℕ) (kept : IsKept xs ss b) where
  pub got : (i : ℕ) (s : HandedIn) → i < length ss → s ≡ get_or ss i s → slice_get ss i ≡ Some s
  got i s low e = slice_get-get_or ss i s low ∙ ap Some (sym e)

  -- a file at its place
  module _ (file : List ℕ) (i : ℕ) (place : position (bytes_eq file) xs ≡ Some i) where
    pub place_within : i < length ss
    place_within = omega (arith, at_within file xs i (is_at file xs i place), kept.same_length)

    pub others_at : (s : HandedIn) → slice_get ss i ≡ Some s → (s.length ≤ b) × (b - s.length ≡ bytes_in (without (held_of xs ss) file))
    others_at s e =
        let so = without_bytes file xs ss i s (is_at file xs i place) kept.same_length e in
        let c = kept.counted in
        (omega (arith, so, c), omega (arith, so, c))

    pub replaced_so : (s : HandedIn) → held_of xs (slice_set ss i s) ≡ with_file (held_of xs ss) (held_file file s)
    replaced_so s = sym (with_at file xs ss i s (is_at file xs i place) kept.same_length)

    pub kept_replaced : (s t : HandedIn) (now : ℕ) → slice_get ss i ≡ Some t → MayHold (held_of xs ss) file s.length → now ≡ (b - t.length) + s.length → IsKept xs (slice_set ss i s) now
    kept_replaced s t now e fits n =
        let o = (others_at t e).1 in
        let w : bytes_in (held_of xs (slice_set ss i s)) ≡ bytes_in (without (held_of xs ss) file) + s.length = ap bytes_in (replaced_so s) ∙ with_bytes (held_of xs ss) (held_file file s) in
        let short = at_most (bytes_in (without (held_of xs ss) file) + s.length) MOST_BYTES fits.short in
        record {
          same_length = kept.same_length ∙ sym (length-set ss i s);
          counted = omega (arith, n, o, w);
          short = omega (arith, n, o, short);
          few = subst (λ l. l ≤ most_files) (sym (length-set ss i s)) kept.few;
        }

    pub dropped_so : held_of (remove xs i) (remove ss i) ≡ without (held_of xs ss) file
    dropped_so = sym (without_at file xs ss i (is_at file xs i place) kept.same_length)

    pub kept_dropped : (s : HandedIn) → slice_get ss i ≡ Some s → IsKept (remove xs i) (remove ss i) (b - s.length)
    kept_dropped s e =
        let o = others_at s e in
        let low = place_within in
        let l = length-remove xs i (omega (arith, low, kept.same_length)) in
        let r = length-remove ss i low in
        record {
          same_length = omega (arith, l, r, kept.same_length);
          counted = o.1 ∙ ap bytes_in (sym dropped_so);
          short = omega (arith, kept.short);
          few = omega (arith, r, kept.few);
        }

    pub held_at : is_held (held_of xs ss) file ≡ true
    held_at = ap (list_any (bytes_eq file)) (files_so xs ss kept.same_length) ∙ at_held file xs i (is_at file xs i place)

  -- a file that isn't held
  module _ (file : List ℕ) (none : list_any (bytes_eq file) xs ≡ false) where
    pub held_none : is_held (held_of xs ss) file ≡ false
    held_none = ap (list_any (bytes_eq file)) (files_so xs ss kept.same_length) ∙ none

    pub others_none : b ≡ bytes_in (without (held_of xs ss) file)
    others_none = kept.counted ∙ ap bytes_in (sym (without_new (held_of xs ss) file held_none))

    pub added_so : (s : HandedIn) → held_of (xs ++ file ∷ []) (ss ++ s ∷ []) ≡ with_file (held_of xs ss) (held_file file s)
    added_so s = held_added xs ss file s kept.same_length ∙ sym (with_new (held_of xs ss) (held_file file s) held_none)

    pub kept_added : (s : HandedIn) → MayHold (held_of xs ss) file s.length → IsKept (xs ++ file ∷ []) (ss ++ s ∷ []) (b + s.length)
    kept_added s fits =
        let w : bytes_in (held_of (xs ++ file ∷ []) (ss ++ s ∷ [])) ≡ bytes_in (without (held_of xs ss) file) + s.length = ap bytes_in (added_so s) ∙ with_bytes (held_of xs ss) (held_file file s) in
        let o = others_none in
        let short = at_most (bytes_in (without (held_of xs ss) file) + s.length) MOST_BYTES fits.short in
        let few = below (length ss) most_files kept.few (λ e. fits.few (held_none, held_length xs ss kept.same_length ∙ e)) in
        let l : length (xs ++ file ∷ []) ≡ length xs + 1 = length-append xs (file ∷ []) in
        let r : length (ss ++ s ∷ []) ≡ length ss + 1 = length-append ss (s ∷ []) in
        record {
          same_length = omega (arith, l, r, kept.same_length);
          counted = omega (arith, w, o);
          short = omega (arith, o, short);
          few = omega (arith, r, few);
        }

    pub too_many_so : most_files ≤ length ss → IsOneTooMany (held_of xs ss) file
    too_many_so many = (held_none, held_length xs ss kept.same_length ∙ equal (length ss) most_files kept.few many)

    pub few_so : length ss < most_files → IsOneTooMany (held_of xs ss) file → ⊥
    few_so few h = let l = held_length xs ss kept.same_length in omega (arith, few, l, h.1)

  -- what is told
  pub file_so : (i : ℕ) (name : List ℕ) → slice_get xs i ≡ Some name → slice_get (files_in (held_of xs ss)) i ≡ Some name
  file_so i name e = ap (λ fs. slice_get fs i) (files_so xs ss kept.same_length) ∙ e

  pub reports_so : (reports : List (List ℕ)) (T new : List Entry) → T ≡ [] → IsWritten T (sources_so ss) reports new → AreReportsOn (held_of xs ss) reports
  reports_so reports T new e h = record {
    table = new;
    written = subst (λ M. IsWritten [] M reports new) (sym (sources_are xs ss kept.same_length)) (subst (λ t. IsWritten t (sources_so ss) reports new) e h);
  }

  names_so : (ts : List HandedIn) → map (λ (s : HandedIn). (module_of s.checked).name) ts ≡ map (λ (s : Source). s.tree.name) (sources_so ts)
  names_so [] = refl
  names_so (s ∷ ts) = ap (λ ns. (module_of s.checked).name ∷ ns) (names_so ts)

  pub own_so : ((j : ℕ) → j < length ss → StandsEarlier (map (λ (s : HandedIn). (module_of s.checked).name) ss) j → ⊥) → HoldsOwnNames (held_of xs ss)
  own_so own j low e =
      own j (subst (λ n. j < n) (length-map (sources_in (held_of xs ss)) (λ (s : Source). s.tree) ∙ ap (λ ts. length ts) (sources_are xs ss kept.same_length) ∙ length-map ss source_so) low)
      (subst (λ ns. StandsEarlier ns j) (names_two (sources_in (held_of xs ss)) ∙ ap (map (λ (s : Source). s.tree.name)) (sources_are xs ss kept.same_length) ∙ sym (names_so ss)) e)
    where
      names_two : (M : List Source) → map (λ (x : m.Module). x.name) (trees M) ≡ map (λ (s : Source). s.tree.name) M
      names_two [] = refl
      names_two (s ∷ M) = ap (λ ns. s.tree.name ∷ ns) (names_two M)

  pub set_so : (fault : Fault) → IsSetFault (map (λ (s : HandedIn). (module_of s.checked).name) ss) fault → IsSetFault (map (λ (s : Source). s.tree.name) (sources_in (held_of xs ss))) fault
  set_so fault h = subst (λ ns. IsSetFault ns fault) (names_so ss ∙ ap (map (λ (s : Source). s.tree.name)) (sym (sources_are xs ss kept.same_length))) h

-- ---- told of an engine: of its files `v`, which are these names and sources

module _ {K : Type 0} (f : K → List ℕ) (keys : List K) (ss : List HandedIn) (b : ℕ) (kept : IsKept (map f keys) ss b) (v : List (List ℕ × HandedIn)) (seen : zip (map f keys) ss ≡ v) where
  held_told : held_of (map f keys) ss ≡ held_by v
  held_told = ap held_by seen

  pub place_told : (file : List ℕ) (i : ℕ) → position (bytes_eq file) (files_in (held_by v)) ≡ Some i → position (bytes_eq file) (map f keys) ≡ Some i
  place_told file i e = ap (position (bytes_eq file)) (sym (files_so (map f keys) ss kept.same_length) ∙ ap files_in held_told) ∙ e

  pub place_shown : (file : List ℕ) (place : Option ℕ) → place ≡ position (λ k. bytes_eq file (f k)) keys → place ≡ position (bytes_eq file) (files_in (held_by v))
  place_shown file place e = e ∙ place_named f (bytes_eq file) keys ∙ ap (position (bytes_eq file)) (sym (files_so (map f keys) ss kept.same_length) ∙ ap files_in held_told)

  pub found_at : (file : List ℕ) (i : ℕ) → Some i ≡ position (λ k. bytes_eq file (f k)) keys → position (bytes_eq file) (map f keys) ≡ Some i
  found_at file i e = sym (e ∙ place_named f (bytes_eq file) keys)

  pub none_named : (file : List ℕ) → false ≡ list_any (λ k. bytes_eq file (f k)) keys → list_any (bytes_eq file) (map f keys) ≡ false
  none_named file e = sym (e ∙ any_named f (bytes_eq file) keys)

  pub none_held : (file : List ℕ) → list_any (bytes_eq file) (map f keys) ≡ false → is_held (held_by v) file ≡ false
  none_held file none = subst (λ h. is_held h file ≡ false) held_told (held_none (map f keys) ss b kept file none)

  pub held_nowhere : (file : List ℕ) → is_held (held_by v) file ≡ false → list_any (bytes_eq file) (map f keys) ≡ false
  held_nowhere file e = ap (list_any (bytes_eq file)) (sym (files_so (map f keys) ss kept.same_length) ∙ ap files_in held_told) ∙ e

  -- putting
  pub many_told : (file : List ℕ) → list_any (bytes_eq file) (map f keys) ≡ false → most_files ≤ length ss → IsOneTooMany (held_by v) file
  many_told file none many = subst (λ h. IsOneTooMany h file) held_told (too_many_so (map f keys) ss b kept file none many)

  pub long_at : (file : List ℕ) (i : ℕ) (s : HandedIn) (n : ℕ) → position (bytes_eq file) (map f keys) ≡ Some i → slice_get ss i ≡ Some s → MOST_BYTES - (b - s.length) < n
      → (IsOneTooMany (held_by v) file → ⊥) × IsTooLong (held_by v) file n
  long_at file i s n place got long =
      let o = others_at (map f keys) ss b kept file i place s got in
      subst (λ h. (IsOneTooMany h file → ⊥) × IsTooLong h file n) held_told
      ((λ m. true≢false (sym (held_at (map f keys) ss b kept file i place) ∙ m.0)), subst (λ k. MOST_BYTES < k + n) o.1 (omega (arith, long)))

  pub may_at : (file : List ℕ) (i : ℕ) (s : HandedIn) (n : ℕ) → position (bytes_eq file) (map f keys) ≡ Some i → slice_get ss i ≡ Some s → n ≤ MOST_BYTES - (b - s.length) → MayHold (held_by v) file n
  may_at file i s n place got fits =
      let o = others_at (map f keys) ss b kept file i place s got in
      subst (λ h. MayHold h file n) held_told
      (record {
        few = λ m. true≢false (sym (held_at (map f keys) ss b kept file i place) ∙ m.0);
        short = subst (λ k. MOST_BYTES < k + n → ⊥) o.1 (λ l. absurd (omega (arith, l, fits, kept.short)));
      })

  pub long_new : (file : List ℕ) (n : ℕ) → list_any (bytes_eq file) (map f keys) ≡ false → length ss < most_files → MOST_BYTES - b < n → (IsOneTooMany (held_by v) file → ⊥) × IsTooLong (held_by v) file n
  long_new file n none few long =
      subst (λ h. (IsOneTooMany h file → ⊥) × IsTooLong h file n) held_told
      (few_so (map f keys) ss b kept file none few, subst (λ k. MOST_BYTES < k + n) (others_none (map f keys) ss b kept file none) (omega (arith, long)))

  pub may_new : (file : List ℕ) (n : ℕ) → list_any (bytes_eq file) (map f keys) ≡ false → length ss < most_files → n ≤ MOST_BYTES - b → MayHold (held_by v) file n
  may_new file n none few fits =
      subst (λ h. MayHold h file n) held_told
      (record {
        few = few_so (map f keys) ss b kept file none few;
        short = subst (λ k. MOST_BYTES < k + n → ⊥) (others_none (map f keys) ss b kept file none) (λ l. absurd (omega (arith, l, fits, kept.short)));
      })

  -- replacing
  pub replaced_within : (at n : ℕ) → HasPlace (held_by v) at n → at < length ss
  replaced_within at n h = place_within (map f keys) ss b kept h.file at (place_told h.file at h.place)

  pub replaced_less : (at n : ℕ) (t : HandedIn) → HasPlace (held_by v) at n → slice_get ss at ≡ Some t → t.length ≤ b
  replaced_less at n t h got = (others_at (map f keys) ss b kept h.file at (place_told h.file at h.place) t got).0

  pub replaced_kept : (at : ℕ) (s t : HandedIn) (now : ℕ) → HasPlace (held_by v) at s.length → slice_get ss at ≡ Some t → now ≡ (b - t.length) + s.length → IsKept (map f keys) (slice_set ss at s) now
  replaced_kept at s t now h got n =
      kept_replaced (map f keys) ss b kept h.file at (place_told h.file at h.place) s t now got (subst (λ g. MayHold g h.file s.length) (sym held_told) h.fits) n

  pub replaced_told : (at : ℕ) (s : HandedIn) (file : List ℕ) → position (bytes_eq file) (files_in (held_by v)) ≡ Some at → held_of (map f keys) (slice_set ss at s) ≡ with_file (held_by v) (held_file file s)
  replaced_told at s file place = replaced_so (map f keys) ss b kept file at (place_told file at place) s ∙ ap (λ h. with_file h (held_file file s)) held_told

  -- adding
  pub added_kept : (file : List ℕ) (s : HandedIn) (xs : List (List ℕ)) (ts : List HandedIn) → is_held (held_by v) file ≡ false → MayHold (held_by v) file s.length → xs ≡ map f keys ++ file ∷ [] → ts ≡ ss ++ s ∷ []
      → IsKept xs ts (b + s.length)
  added_kept file s xs ts none fits x t =
      subst (λ ys. IsKept ys ts (b + s.length)) (sym x) (subst (λ us. IsKept (map f keys ++ file ∷ []) us (b + s.length)) (sym t)
      (kept_added (map f keys) ss b kept file (held_nowhere file none) s (subst (λ g. MayHold g file s.length) (sym held_told) fits)))

  pub added_told : (file : List ℕ) (s : HandedIn) (xs : List (List ℕ)) (ts : List HandedIn) → is_held (held_by v) file ≡ false → xs ≡ map f keys ++ file ∷ [] → ts ≡ ss ++ s ∷ []
      → held_of xs ts ≡ with_file (held_by v) (held_file file s)
  added_told file s xs ts none x t =
      ap₂ held_of x t ∙ added_so (map f keys) ss b kept file (held_nowhere file none) s ∙ ap (λ h. with_file h (held_file file s)) held_told

  -- dropping
  pub dropped_less : (file : List ℕ) (i : ℕ) (s : HandedIn) → Some i ≡ position (λ k. bytes_eq file (f k)) keys → s ≡ get_or ss i s → s.length ≤ b
  dropped_less file i s e is =
      let place = found_at file i e in (others_at (map f keys) ss b kept file i place s (got (map f keys) ss b kept i s (place_within (map f keys) ss b kept file i place) is)).0

  pub dropped_kept : (file : List ℕ) (i : ℕ) (s : HandedIn) (more : List K) (ts : List HandedIn) → Some i ≡ position (λ k. bytes_eq file (f k)) keys → s ≡ get_or ss i s → more ≡ remove keys i → ts ≡ remove ss i
      → IsKept (map f more) ts (b - s.length)
  dropped_kept file i s more ts e is m t =
      let place = found_at file i e in
      subst (λ xs. IsKept xs ts (b - s.length)) (sym (ap (map f) m ∙ map_removed f keys i))
      (subst (λ us. IsKept (remove (map f keys) i) us (b - s.length)) (sym t)
      (kept_dropped (map f keys) ss b kept file i place s (got (map f keys) ss b kept i s (place_within (map f keys) ss b kept file i place) is)))

  pub dropped_told : (file : List ℕ) (i : ℕ) (more : List K) (ts : List HandedIn) → Some i ≡ position (λ k. bytes_eq file (f k)) keys → more ≡ remove keys i → ts ≡ remove ss i
      → held_of (map f more) ts ≡ without (held_by v) file
  dropped_told file i more ts e m t =
      ap₂ held_of (ap (map f) m ∙ map_removed f keys i) t ∙ dropped_so (map f keys) ss b kept file i (found_at file i e) ∙ ap (λ h. without h file) held_told

  pub dropped_held : (file : List ℕ) (i : ℕ) → Some i ≡ position (λ k. bytes_eq file (f k)) keys → true ≡ is_held (held_by v) file
  dropped_held file i e = sym (subst (λ h. is_held h file ≡ true) held_told (held_at (map f keys) ss b kept file i (found_at file i e)))

  pub not_dropped : (file : List ℕ) → list_any (bytes_eq file) (map f keys) ≡ false → held_by v ≡ without (held_by v) file
  not_dropped file none = sym (without_new (held_by v) file (none_held file none))

  -- asking
  pub asked_reports : (reports : List (List ℕ)) (T new : List Entry) (handed : List HandedIn) → handed ≡ ss → T ≡ [] → IsWritten T (sources_so handed) reports new → AreReportsOn (held_by v) reports
  asked_reports reports T new handed same e h =
      subst (λ g. AreReportsOn g reports) held_told (reports_so (map f keys) ss b kept reports T new e (subst (λ ts. IsWritten T (sources_so ts) reports new) same h))

  pub asked_own : (handed : List HandedIn) → handed ≡ ss → ((j : ℕ) → j < length handed → StandsEarlier (map (λ (s : HandedIn). (module_of s.checked).name) handed) j → ⊥) → HoldsOwnNames (held_by v)
  asked_own handed same own =
      subst HoldsOwnNames held_told
      (own_so (map f keys) ss b kept (subst (λ ts. (j : ℕ) → j < length ts → StandsEarlier (map (λ (s : HandedIn). (module_of s.checked).name) ts) j → ⊥) same own))

  pub asked_set : (handed : List HandedIn) (fault : Fault) → handed ≡ ss → IsSetFault (map (λ (s : HandedIn). (module_of s.checked).name) handed) fault
      → IsSetFault (map (λ (s : Source). s.tree.name) (sources_in (held_by v))) fault
  asked_set handed fault same h =
      subst (λ g. IsSetFault (map (λ (s : Source). s.tree.name) (sources_in g)) fault) held_told
      (set_so (map f keys) ss b kept fault (subst (λ ts. IsSetFault (map (λ (s : HandedIn). (module_of s.checked).name) ts) fault) same h))

  -- showing
  pub shown_within : (i : ℕ) (shown : List K) → i < length v → shown ≡ keys → i < length shown
  shown_within i shown low same =
      let n = length-map v (λ (p : List ℕ × HandedIn). held_file p.0 p.1) in
      let h : length (held_by v) ≡ length ss = ap (λ (g : Held). length g) (sym held_told) ∙ held_length (map f keys) ss kept.same_length in
      let m = length-map keys f in
      let k : length shown ≡ length keys = ap (λ ks. length ks) same in
      omega (arith, low, n, h, m, k, kept.same_length)

  pub shown_name : (i : ℕ) (shown : List K) (name : K) (text : List ℕ) → shown ≡ keys → i < length shown → name ≡ get_or shown i name → text ≡ f name → slice_get (files_in (held_by v)) i ≡ Some text
  shown_name i shown name text same low is t =
      subst (λ g. slice_get (files_in g) i ≡ Some text) held_told
      (file_so (map f keys) ss b kept i text
      (slice_get-map f keys i
      ∙ ap (option_map f) (ap (λ ks. slice_get ks i) (sym same) ∙ slice_get-get_or shown i name low ∙ ap Some (sym is))
      ∙ ap Some (sym t)))

-- ---- a name that is added

pub name_added : {K : Type 0} (eq : K → K → Bool) (f : K → List ℕ) (keys more : List K) (name : K) (file : List ℕ) → ((k : K) → eq name k ≡ bytes_eq (f name) (f k)) → f name ≡ file
    → list_any (bytes_eq file) (map f keys) ≡ false → more ≡ insert_key eq keys name → map f more ≡ map f keys ++ file ∷ []
name_added {K} eq f keys more name file tells same none m =
    ap (map f) (m ∙ ap (λ b. if b then keys else keys ++ name ∷ []) (any keys ∙ ap (λ n. list_any (bytes_eq n) (map f keys)) same ∙ none)) ∙ map-append f keys (name ∷ []) ∙ ap (λ n. map f keys ++ n ∷ []) same
  where
    any : (ks : List K) → list_any (eq name) ks ≡ list_any (bytes_eq (f name)) (map f ks)
    any [] = refl
    any (k ∷ ks) = ap₂ (λ a c. a || c) (tells k) (any ks)
