-- Files that are read one after another.
use Rattle.std.proofs.Common.{◌≡◌, ℕ, ◌+◌, ◌<◌, ◌≤◌, List, [], ◌∷◌, ◌++◌, length, take, sym, ap, ◌∙◌, subst, Some, Ok, Err, Result, get_or, add-one, take_all, arith}
use Rattle.std.proofs.lemmas.List.{map-append, length-map}
use Rattle.std.specs.Prelude.{slice_get, Option, option_map, IfErr}
use Rattle.std.specs.Borrow.{Bor}
use Rattle.std.proofs.Math.Seq.{take-suc}
use Rattle.std.proofs.lemmas.Option.{slice_get_within, get_or_from_slice_get, slice_get-map, slice_get-get_or}
use Rattle.da_shelf.proofs.CountLaws.{rose_since}
use Rattle.da_shelf.specs.Told.{Files, Holds, Lacks}
use Rattle.table_keep.specs.declared.source.Source.{Source as HandedIn}
use Rattle.table_keep.specs.Model.{Source, source_so, sources_so}
use Rattle.analysis_sources.specs.declared.reading.ReadFault.{ReadFault}
use Rattle.analysis_sources.specs.declared.reading.ReadFault.TheVariants.{Refused, Failed, Memory}
use Rattle.analysis_sources.specs.Reading.{AreRead, IsReached, RefusedAt, not_held, at_fault, Fails, bytes_of}
use Rattle.analysis_sources.specs.steps.ReadingSteps.{OneRefused, lacking, faulty, FailsOne, FailsBytes, IsReadAs}
use Rattle.analysis_sources.specs.Words.{texts}
use Rattle.analysis_sources.specs.Sources.{room, IsTextOf, IsAtFault}

pub take_whole : (fs : List (List ℕ)) (i : ℕ) → length fs ≤ i → take i fs ≡ fs
take_whole fs i h = take_all i fs h

-- one more file is read
pub read_more : (told : Option Files) (before : ℕ) (fs : List (List ℕ)) (xs : List Source) (k : ℕ) (f bytes : List ℕ) (x : Source)
    → AreRead told before fs xs k → Holds told f bytes → IsTextOf (room k) bytes x
    → AreRead told before (fs ++ f ∷ []) (xs ++ x ∷ []) (k + length bytes)
read_more told before [] [] k f bytes x e h s =
    (bytes, h, subst (λ n. IsTextOf (room n) bytes x) e s, ap (λ n. n + length bytes) e)
read_more told before [] (y ∷ ys) k f bytes x e h s = absurd e
read_more told before (g ∷ gs) [] k f bytes x e h s = absurd e
read_more told before (g ∷ gs) (y ∷ ys) k f bytes x e h s =
    (e.0, e.1, e.2, read_more told (before + length e.0) gs ys k f bytes x e.3 h s)

-- the files up to one, and that one
pub take_more : (fs : List (List ℕ)) (i : ℕ) (f : List ℕ) → slice_get fs i ≡ Some f → take (i + 1) fs ≡ take i fs ++ f ∷ []
take_more fs i f e =
    ap (λ n. take n fs) (add-one i)
    ∙ take-suc fs i [] (slice_get_within fs i f e)
    ∙ ap (λ g. take i fs ++ g ∷ []) (get_or_from_slice_get fs i f [] e)

-- the word at a place, as a text
pub text_at : (words : List (Bor (List ℕ))) (i : ℕ) (w d : Bor (List ℕ)) → i < length words → w ≡ get_or words i d → slice_get (texts words) i ≡ Some w.now
text_at words i w d h e =
    slice_get-map (λ (w : Bor (List ℕ)). w.now) words i
    ∙ ap (option_map (λ (w : Bor (List ℕ)). w.now)) (slice_get-get_or words i d h ∙ ap Some (sym e))

-- the sources so far, and one more
pub sources_more : (ss : List HandedIn) (s : HandedIn) → sources_so (ss ++ s ∷ []) ≡ sources_so ss ++ source_so s ∷ []
sources_more ss s = map-append source_so ss (s ∷ [])

-- the file at this place is read to a source, after those before it
pub source_read : (told now : Option Files) (words : List (Bor (List ℕ))) (i : ℕ) (w d : Bor (List ℕ)) (ss : List HandedIn) (s : HandedIn) (before after : ℕ)
    → i < length words → w ≡ get_or words i d → now ≡ told → AreRead told 0 (take i (texts words)) (sources_so ss) before
    → IsReadAs now w.now before s → after ≡ before + s.length
    → AreRead told 0 (take (i + 1) (texts words)) (sources_so (ss ++ s ∷ [])) after
source_read told now words i w d ss s before after h e n front one count =
    subst (λ fs. AreRead told 0 fs (sources_so (ss ++ s ∷ [])) after) (sym (take_more (texts words) i w.now (text_at words i w d h e)))
    (subst (λ xs. AreRead told 0 (take i (texts words) ++ w.now ∷ []) xs after) (sym (sources_more ss s))
    (subst (λ k. AreRead told 0 (take i (texts words) ++ w.now ∷ []) (sources_so ss ++ source_so s ∷ []) k)
    (ap (λ k. before + k) (sym one.counted) ∙ sym count)
    (read_more told 0 (take i (texts words)) (sources_so ss) before w.now one.bytes (source_so s) front
    (subst (λ t. Holds t w.now one.bytes) n one.held_so) one.is)))

-- what a fault says of the bytes of a file it says of the file
pub bytes_fail : {A : Type 0} (told : Option Files) (file bytes more : List ℕ) (word before a n : ℕ) (r : Result A ReadFault) → more ≡ bytes → Holds told file bytes
    → IfErr r (FailsBytes more word before) → IfErr r (FailsOne told file word before a n)
bytes_fail told file bytes more word before a n (Ok x) is has h = tt
bytes_fail told file bytes more word before a n (Err (Refused at fault)) is has h =
    (h.0, faulty bytes has (subst (λ bs. IsAtFault (room before) bs fault) is h.1))
bytes_fail told file bytes more word before a n (Err (Failed at)) is has h = absurd h
bytes_fail told file bytes more word before a n (Err Memory) is has h = tt

-- their counts, and that of one more
pub bytes_more : (ss : List HandedIn) (s : HandedIn) → bytes_of (ss ++ s ∷ []) ≡ bytes_of ss + s.length
bytes_more [] s = omega arith
bytes_more (t ∷ ss) s = omega (arith, bytes_more ss s)

-- all files are read
pub all_read : (told : Option Files) (words : List (Bor (List ℕ))) (i : ℕ) (ss : List HandedIn) (before : ℕ) → length words ≤ i
    → bytes_of ss ≡ before → AreRead told 0 (take i (texts words)) (sources_so ss) before → AreRead told 0 (texts words) (sources_so ss) (bytes_of ss)
all_read told words i ss before h count front =
    subst (λ n. AreRead told 0 (texts words) (sources_so ss) n) (sym count)
    (subst (λ fs. AreRead told 0 fs (sources_so ss) before) (take_whole (texts words) i (subst (λ n. n ≤ i) (sym (length-map words (λ (w : Bor (List ℕ)). w.now))) h)) front)

-- the file at this place can't be read
pub fails_at : (told now : Option Files) (words : List (Bor (List ℕ))) (first i : ℕ) (w d : Bor (List ℕ)) (xs : List Source) (before b n : ℕ) (fault : ReadFault)
    → (a : ℕ) → a ≤ b → i < length words → w ≡ get_or words i d → now ≡ told → AreRead told 0 (take i (texts words)) xs before
    → FailsOne now w.now (first + i) before b n fault → Fails told (texts words) first a n fault
fails_at told now words first i w d xs before b n (Refused at fault) a low h e same front one =
    (i, one.0, refused_so one.1)
  where
    reached : IsReached told (texts words) i w.now before
    reached = record { there = text_at words i w d h e; sources = xs; read = front }

    refused_so : OneRefused now w.now before fault → RefusedAt told (texts words) i fault
    refused_so (lacking f l) = not_held f (record { file = w.now; before = before; reached = reached; absent = subst (λ t. Lacks t w.now) same l })
    refused_so (faulty bytes k l) =
        at_fault (record { file = w.now; bytes = bytes; before = before; reached = reached; held_so = subst (λ t. Holds t w.now bytes) same k; is = l })
fails_at told now words first i w d xs before b n (Failed at) a low h e same front one =
    (i, one.0, (w.now, before, record { there = text_at words i w d h e; sources = xs; read = front }), rose_since a b n low one.1)
fails_at told now words first i w d xs before b n Memory a low h e same front one = tt

pub ruleset readings = (source_read, bytes_more, all_read, fails_at)
