-- The place of a file among what is held, and what edits there give.
use Rattle.std.proofs.Common.{◌≡◌, ℕ, zero, suc, ◌+◌, ◌<◌, ◌||◌, Bool, true, false, cond, List, [], ◌∷◌, ◌++◌, length}
use Rattle.std.proofs.Common.{get_or, slice_get, slice_set, position, Some, refl, sym, ap, ◌∙◌, arith, true≢false}
use Rattle.std.specs.List.{list_any, remove}
use Rattle.std.specs.Str.{bytes_eq}
use Rattle.std.proofs.lemmas.List.Quantifiers.{position-Some}
use Rattle.std.proofs.lemmas.Slice.Eq.{bytes_eq-Decides}
use Rattle.table_keep.specs.declared.source.Source.{Source as HandedIn}
use Rattle.dia_session_engine.specs.Held.{Held, HeldFile, bytes_in, files_in, held_file, sources_in, with_file, without}
use Rattle.dia_session_engine.specs.steps.Holding.{held_of}
use Rattle.table_keep.specs.Model.{sources_so}

-- ---- what is held, by names and sources

pub files_so : (xs : List (List ℕ)) (ss : List HandedIn) → length xs ≡ length ss → files_in (held_of xs ss) ≡ xs
files_so [] ss long = refl
files_so (x ∷ xs) [] long = absurd (omega (arith, long))
files_so (x ∷ xs) (s ∷ ss) long = ap (λ fs. x ∷ fs) (files_so xs ss (omega (arith, long)))

pub sources_are : (xs : List (List ℕ)) (ss : List HandedIn) → length xs ≡ length ss → sources_in (held_of xs ss) ≡ sources_so ss
sources_are [] [] long = refl
sources_are [] (s ∷ ss) long = absurd (omega (arith, long))
sources_are (x ∷ xs) [] long = absurd (omega (arith, long))
sources_are (x ∷ xs) (s ∷ ss) long = ap (λ ts. (held_file x s).source ∷ ts) (sources_are xs ss (omega (arith, long)))

pub held_length : (xs : List (List ℕ)) (ss : List HandedIn) → length xs ≡ length ss → length (held_of xs ss) ≡ length ss
held_length [] [] long = refl
held_length [] (s ∷ ss) long = absurd (omega (arith, long))
held_length (x ∷ xs) [] long = absurd (omega (arith, long))
held_length (x ∷ xs) (s ∷ ss) long = ap suc (held_length xs ss (omega (arith, long)))

-- ---- the first of the names that is the file's

abbrev pub IsAt : (file : List ℕ) → (names : List (List ℕ)) → ℕ → Type 0
IsAt file [] i = ⊥
IsAt file (x ∷ xs) zero = bytes_eq file x ≡ true
IsAt file (x ∷ xs) (suc i) = (bytes_eq file x ≡ false) × IsAt file xs i

at_so : (file : List ℕ) (xs : List (List ℕ)) (i : ℕ) → i < length xs → bytes_eq file (get_or xs i []) ≡ true → ((k : ℕ) → k < i → bytes_eq file (get_or xs k []) ≡ false) → IsAt file xs i
at_so file [] i low here before = absurd (omega (arith, low))
at_so file (x ∷ xs) zero low here before = here
at_so file (x ∷ xs) (suc i) low here before = (before zero (omega arith), at_so file xs i (omega (arith, low)) here (λ k l. before (suc k) (omega (arith, l))))

pub is_at : (file : List ℕ) (xs : List (List ℕ)) (i : ℕ) → position (bytes_eq file) xs ≡ Some i → IsAt file xs i
is_at file xs i e = let h = position-Some (bytes_eq file) xs i [] e in at_so file xs i h.0 h.1 h.2

pub at_within : (file : List ℕ) (xs : List (List ℕ)) (i : ℕ) → IsAt file xs i → i < length xs
at_within file [] i at = absurd at
at_within file (x ∷ xs) zero at = omega arith
at_within file (x ∷ xs) (suc i) at = omega (arith, at_within file xs i at.1)

pub at_held : (file : List ℕ) (xs : List (List ℕ)) (i : ℕ) → IsAt file xs i → list_any (bytes_eq file) xs ≡ true
at_held file [] i at = absurd at
at_held file (x ∷ xs) zero at = ap (λ b. b || list_any (bytes_eq file) xs) at
at_held file (x ∷ xs) (suc i) at = ap (λ b. b || list_any (bytes_eq file) xs) at.0 ∙ at_held file xs i at.1

-- ---- a source in its place

pub with_at : (file : List ℕ) (xs : List (List ℕ)) (ss : List HandedIn) (i : ℕ) (s : HandedIn) → IsAt file xs i → length xs ≡ length ss → with_file (held_of xs ss) (held_file file s) ≡ held_of xs (slice_set ss i s)
with_at file [] ss i s at long = absurd at
with_at file (x ∷ xs) [] i s at long = absurd (omega (arith, long))
with_at file (x ∷ xs) (t ∷ ss) zero s at long =
    ap (λ b. cond b (held_file file s ∷ held_of xs ss) (held_file x t ∷ with_file (held_of xs ss) (held_file file s))) at ∙ ap (λ f. held_file f s ∷ held_of xs ss) ((bytes_eq-Decides file x).0 at)
with_at file (x ∷ xs) (t ∷ ss) (suc i) s at long =
    ap (λ b. cond b (held_file file s ∷ held_of xs ss) (held_file x t ∷ with_file (held_of xs ss) (held_file file s))) at.0
    ∙ ap (λ hs. held_file x t ∷ hs) (with_at file xs ss i s at.1 (omega (arith, long)))

-- ---- without the file at its place

pub without_at : (file : List ℕ) (xs : List (List ℕ)) (ss : List HandedIn) (i : ℕ) → IsAt file xs i → length xs ≡ length ss → without (held_of xs ss) file ≡ held_of (remove xs i) (remove ss i)
without_at file [] ss i at long = absurd at
without_at file (x ∷ xs) [] i at long = absurd (omega (arith, long))
without_at file (x ∷ xs) (t ∷ ss) zero at long = ap (λ b. cond b (held_of xs ss) (held_file x t ∷ without (held_of xs ss) file)) at
without_at file (x ∷ xs) (t ∷ ss) (suc i) at long =
    ap (λ b. cond b (held_of xs ss) (held_file x t ∷ without (held_of xs ss) file)) at.0 ∙ ap (λ hs. held_file x t ∷ hs) (without_at file xs ss i at.1 (omega (arith, long)))

pub without_bytes : (file : List ℕ) (xs : List (List ℕ)) (ss : List HandedIn) (i : ℕ) (s : HandedIn) → IsAt file xs i → length xs ≡ length ss → slice_get ss i ≡ Some s
    → bytes_in (without (held_of xs ss) file) + s.length ≡ bytes_in (held_of xs ss)
without_bytes file [] ss i s at long got = absurd at
without_bytes file (x ∷ xs) [] i s at long got = absurd (omega (arith, long))
without_bytes file (x ∷ xs) (t ∷ ss) zero s at long got =
    let e : bytes_in (without (held_of (x ∷ xs) (t ∷ ss)) file) ≡ bytes_in (held_of xs ss) = ap (λ b. bytes_in (cond b (held_of xs ss) (held_file x t ∷ without (held_of xs ss) file))) at in
    let k : Some t ≡ Some s = got in
    let same : t ≡ s = cc in
    let l : t.length ≡ s.length = ap (λ (u : HandedIn). u.length) same in
    let sum : bytes_in (held_of xs ss) + s.length ≡ t.length + bytes_in (held_of xs ss) = omega (arith, l) in
    ap (λ n. n + s.length) e ∙ sum
without_bytes file (x ∷ xs) (t ∷ ss) (suc i) s at long got =
    let e : bytes_in (without (held_of (x ∷ xs) (t ∷ ss)) file) ≡ t.length + bytes_in (without (held_of xs ss) file) = ap (λ b. bytes_in (cond b (held_of xs ss) (held_file x t ∷ without (held_of xs ss) file))) at.0 in
    let more = without_bytes file xs ss i s at.1 (omega (arith, long)) got in
    let sum : (t.length + bytes_in (without (held_of xs ss) file)) + s.length ≡ t.length + bytes_in (held_of xs ss) = omega (arith, more) in
    ap (λ n. n + s.length) e ∙ sum

-- ---- a file that isn't held

pub with_new : (held : Held) (new : HeldFile) → list_any (bytes_eq new.file) (files_in held) ≡ false → with_file held new ≡ held ++ new ∷ []
with_new [] new none = refl
with_new (h ∷ held) new none = by (λ n. with_new held new n) (bytes_eq new.file h.file) refl
  where
    by : (list_any (bytes_eq new.file) (files_in held) ≡ false → with_file held new ≡ held ++ new ∷ []) → (b : Bool) → bytes_eq new.file h.file ≡ b
        → with_file (h ∷ held) new ≡ (h ∷ held) ++ new ∷ []
    by more true e = absurd (true≢false (sym (ap (λ b. b || list_any (bytes_eq new.file) (files_in held)) e) ∙ none))
    by more false e =
        ap (λ b. cond b (new ∷ held) (h ∷ with_file held new)) e
        ∙ ap (λ hs. h ∷ hs) (more (sym (ap (λ b. b || list_any (bytes_eq new.file) (files_in held)) e) ∙ none))

pub without_new : (held : Held) (file : List ℕ) → list_any (bytes_eq file) (files_in held) ≡ false → without held file ≡ held
without_new [] file none = refl
without_new (h ∷ held) file none = by (λ n. without_new held file n) (bytes_eq file h.file) refl
  where
    by : (list_any (bytes_eq file) (files_in held) ≡ false → without held file ≡ held) → (b : Bool) → bytes_eq file h.file ≡ b → without (h ∷ held) file ≡ h ∷ held
    by more true e = absurd (true≢false (sym (ap (λ b. b || list_any (bytes_eq file) (files_in held)) e) ∙ none))
    by more false e =
        ap (λ b. cond b held (h ∷ without held file)) e ∙ ap (λ hs. h ∷ hs) (more (sym (ap (λ b. b || list_any (bytes_eq file) (files_in held)) e) ∙ none))

pub held_added : (xs : List (List ℕ)) (ss : List HandedIn) (x : List ℕ) (s : HandedIn) → length xs ≡ length ss → held_of (xs ++ x ∷ []) (ss ++ s ∷ []) ≡ held_of xs ss ++ held_file x s ∷ []
held_added [] [] x s long = refl
held_added [] (t ∷ ss) x s long = absurd (omega (arith, long))
held_added (y ∷ xs) [] x s long = absurd (omega (arith, long))
held_added (y ∷ xs) (t ∷ ss) x s long = ap (λ hs. held_file y t ∷ hs) (held_added xs ss x s (omega (arith, long)))

-- ---- bytes

pub with_bytes : (held : Held) (new : HeldFile) → bytes_in (with_file held new) ≡ bytes_in (without held new.file) + new.length
with_bytes [] new = let sum : new.length + 0 ≡ 0 + new.length = omega arith in sum
with_bytes (h ∷ held) new = by (with_bytes held new) (bytes_eq new.file h.file) refl
  where
    with_so : (b : Bool) → bytes_eq new.file h.file ≡ b → bytes_in (with_file (h ∷ held) new) ≡ bytes_in (cond b (new ∷ held) (h ∷ with_file held new))
    with_so b e = ap (λ c. bytes_in (cond c (new ∷ held) (h ∷ with_file held new))) e

    without_so : (b : Bool) → bytes_eq new.file h.file ≡ b → bytes_in (without (h ∷ held) new.file) ≡ bytes_in (cond b held (h ∷ without held new.file))
    without_so b e = ap (λ c. bytes_in (cond c held (h ∷ without held new.file))) e

    by : bytes_in (with_file held new) ≡ bytes_in (without held new.file) + new.length → (b : Bool) → bytes_eq new.file h.file ≡ b
        → bytes_in (with_file (h ∷ held) new) ≡ bytes_in (without (h ∷ held) new.file) + new.length
    by more true e =
        let sum : new.length + bytes_in held ≡ bytes_in held + new.length = omega arith in
        with_so true e ∙ sum ∙ sym (ap (λ n. n + new.length) (without_so true e))
    by more false e =
        let sum : h.length + bytes_in (with_file held new) ≡ (h.length + bytes_in (without held new.file)) + new.length = omega (arith, more) in
        with_so false e ∙ sum ∙ sym (ap (λ n. n + new.length) (without_so false e))
