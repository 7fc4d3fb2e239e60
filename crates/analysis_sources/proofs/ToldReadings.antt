-- Files that are read one after another, by what their reads tell.
use Rattle.std.proofs.Common.{◌≡◌, ℕ, ◌+◌, ◌<◌, ◌≤◌, List, [], ◌∷◌, ◌++◌, length, take, refl, sym, ap, ◌∙◌, subst, None, Ok, Err, Result, get_or}
use Rattle.std.specs.Prelude.{Option, IfOk, IfErr}
use Rattle.std.specs.Borrow.{Bor}
use Rattle.std.proofs.lemmas.List.{length-map}
use Rattle.da_shelf.specs.declared.shelf.ShelfFault.TheVariants as s
use Rattle.da_shelf.specs.Reads.{ToldRead, gave, gave_none, IsTold}
use Rattle.da_shelf.specs.Told.{Files}
use Rattle.da_shelf.proofs.ToldReads.{nothing_fits, one_told, told_so, told_then}
use Rattle.table_keep.specs.declared.source.Source.{Source as HandedIn}
use Rattle.table_keep.specs.Model.{Source, source_so, sources_so}
use Rattle.analysis_sources.specs.declared.reading.ReadFault.{ReadFault}
use Rattle.analysis_sources.specs.declared.reading.ReadFault.TheVariants.{Refused, Failed, Memory}
use Rattle.analysis_sources.specs.Reading.{AreRead, AreUpTo, Fails, bytes_of}
use Rattle.analysis_sources.specs.Refusals.{missing}
use Rattle.analysis_sources.specs.Sources.{room, IsTextOf}
use Rattle.analysis_sources.specs.Words.{texts}
use Rattle.analysis_sources.specs.steps.ReadingSteps.{lacking, FailsOne, FailsBytes, IsReadAs}
use Rattle.analysis_sources.proofs.Readings.{all_read, bytes_fail, fails_at, source_read, take_more, take_whole, text_at}
use Rattle.da_shelf.specs.Counts.{Rose}

module _ {S : Type 0} (told : S → S → ToldRead → Type 0) where
  -- ---- one file

  pub source_told : (a b : S) (file bytes more : List ℕ) (before : ℕ) (r : Result HandedIn ReadFault) → told a b (gave file bytes) → more ≡ bytes
      → IfOk r (λ s. IsTextOf (room before) more (source_so s)) → IfOk r (λ s. s.length ≡ length more)
      → IfOk r (λ s. IsTold told a b (file ∷ []) (λ held. IsReadAs held file before s))
  source_told a b file bytes more before (Ok s) step same is count =
      one_told told a b (gave file bytes) (λ held. IsReadAs held file before s) step
      (λ held fit. record { bytes = bytes; held_so = fit; is = subst (λ bs. IsTextOf (room before) bs (source_so s)) same is; counted = count ∙ ap length same })
  source_told a b file bytes more before (Err fault) step same is count = tt

  pub bytes_fail_told : (a b : S) (file bytes more : List ℕ) (word before x n : ℕ) (r : Result HandedIn ReadFault) → told a b (gave file bytes) → more ≡ bytes
      → IfErr r (FailsBytes more word before) → IfErr r (λ fault. IsTold told a b (file ∷ []) (λ held. FailsOne held file word before x n fault))
  bytes_fail_told a b file bytes more word before x n (Ok s) step same fails = tt
  bytes_fail_told a b file bytes more word before x n (Err fault) step same fails =
      one_told told a b (gave file bytes) (λ held. FailsOne held file word before x n fault) step
      (λ held fit. bytes_fail {A = HandedIn} held file bytes more word before x n (Err fault) same fit fails)

  pub missing_told : (a b : S) (file : List ℕ) (word before x n : ℕ) → told a b (gave_none file s.Missing)
      → IsTold told a b (file ∷ []) (λ held. FailsOne held file word before x n (Refused word missing))
  missing_told a b file word before x n step =
      one_told told a b (gave_none file s.Missing) (λ held. FailsOne held file word before x n (Refused word missing)) step (λ held fit. (refl, lacking refl fit))

  pub failed_told : (a b : S) (file : List ℕ) (word before x n : ℕ) → told a b (gave_none file s.Failed) → Rose x n
      → IsTold told a b (file ∷ []) (λ held. FailsOne held file word before x n (Failed word))
  failed_told a b file word before x n step rose =
      one_told told a b (gave_none file s.Failed) (λ held. FailsOne held file word before x n (Failed word)) step (λ held fit. (refl, rose))

  pub memory_told : (a b : S) (file : List ℕ) (word before x n : ℕ) → told a b (gave_none file s.Memory)
      → IsTold told a b (file ∷ []) (λ held. FailsOne held file word before x n Memory)
  memory_told a b file word before x n step =
      one_told told a b (gave_none file s.Memory) (λ held. FailsOne held file word before x n Memory) step (λ held fit. tt)

  -- ---- one more file

  -- the files so far, and one more, whatever its read tells
  more_told : (a b c : S) (words : List (Bor (List ℕ))) (i : ℕ) (w d : Bor (List ℕ)) (P Q R : Option Files → Type 0) → i < length words → w ≡ get_or words i d
      → IsTold told a b (take i (texts words)) P → IsTold told b c (w.now ∷ []) Q → ((held : Option Files) → P held → Q held → R held)
      → IsTold told a c (take (i + 1) (texts words)) R
  more_told a b c words i w d P Q R h e front one is =
      subst (λ names. IsTold told a c names R) (sym (take_more (texts words) i w.now (text_at words i w d h e)))
      (told_then told a b c (take i (texts words)) (w.now ∷ []) P Q R front one is)

  -- the file at this place is read to a source
  pub source_read_told : (a b c : S) (words : List (Bor (List ℕ))) (i : ℕ) (w d : Bor (List ℕ)) (ss : List HandedIn) (s : HandedIn) (before after : ℕ)
      → i < length words → w ≡ get_or words i d
      → IsTold told a b (take i (texts words)) (λ held. AreRead held 0 (take i (texts words)) (sources_so ss) before)
      → IsTold told b c (w.now ∷ []) (λ held. IsReadAs held w.now before s) → after ≡ before + s.length
      → IsTold told a c (take (i + 1) (texts words)) (λ held. AreRead held 0 (take (i + 1) (texts words)) (sources_so (ss ++ s ∷ [])) after)
  source_read_told a b c words i w d ss s before after h e front one count =
      more_told a b c words i w d _ _ _ h e front one
      (λ held read is. source_read held held words i w d ss s before after h e refl read is count)

  -- the file at this place can't be read
  pub fails_at_told : (a b c : S) (words : List (Bor (List ℕ))) (first i : ℕ) (w d : Bor (List ℕ)) (xs : List Source) (before x y n : ℕ) (fault : ReadFault) → x ≤ y
      → i < length words → w ≡ get_or words i d → IsTold told a b (take i (texts words)) (λ held. AreRead held 0 (take i (texts words)) xs before)
      → IsTold told b c (w.now ∷ []) (λ held. FailsOne held w.now (first + i) before y n fault)
      → (names : List (List ℕ)) × AreUpTo first (texts words) names fault × IsTold told a c names (λ held. Fails held (texts words) first x n fault)
  fails_at_told a b c words first i w d xs before x y n fault low h e front one = (
    take (i + 1) (texts words),
    up_to fault one,
    more_told a b c words i w d _ _ _ h e front one (λ held read is. fails_at held held words first i w d xs before y n fault x low h e refl read is),
  )
    where
      up_to : (fault : ReadFault) → IsTold told b c (w.now ∷ []) (λ held. FailsOne held w.now (first + i) before y n fault)
          → AreUpTo first (texts words) (take (i + 1) (texts words)) fault
      up_to (Refused word f) t = let is = t.so None (nothing_fits t.reads) in (i, is.0, refl)
      up_to (Failed word) t = let is = t.so None (nothing_fits t.reads) in (i, is.0, refl)
      up_to Memory t = tt

  -- where memory ran out behind a file
  pub memory_behind : (a b c : S) (words : List (Bor (List ℕ))) (first i : ℕ) (w d : Bor (List ℕ)) (P Q : Option Files → Type 0) (x n : ℕ) (fault : ReadFault) → fault ≡ Memory
      → i < length words → w ≡ get_or words i d → IsTold told a b (take i (texts words)) P → IsTold told b c (w.now ∷ []) Q
      → (names : List (List ℕ)) × AreUpTo first (texts words) names fault × IsTold told a c names (λ held. Fails held (texts words) first x n fault)
  memory_behind a b c words first i w d P Q x n fault is h e front one = (
    take (i + 1) (texts words),
    subst (AreUpTo first (texts words) (take (i + 1) (texts words))) (sym is) tt,
    more_told a b c words i w d P Q _ h e front one (λ held p q. subst (Fails held (texts words) first x n) (sym is) tt),
  )

  -- all files are read
  pub all_read_told : (a b : S) (words : List (Bor (List ℕ))) (i : ℕ) (ss : List HandedIn) (before : ℕ) → length words ≤ i → bytes_of ss ≡ before
      → IsTold told a b (take i (texts words)) (λ held. AreRead held 0 (take i (texts words)) (sources_so ss) before)
      → IsTold told a b (texts words) (λ held. AreRead held 0 (texts words) (sources_so ss) (bytes_of ss))
  all_read_told a b words i ss before h count t =
      subst (λ names. IsTold told a b names (λ held. AreRead held 0 (texts words) (sources_so ss) (bytes_of ss)))
      (take_whole (texts words) i (subst (λ n. n ≤ i) (sym (length-map words (λ (w : Bor (List ℕ)). w.now))) h))
      (told_so told a b (take i (texts words)) _ _ t (λ held read. all_read held words i ss before h count read))
