-- Escapes: what `escape_of` gives is one, and each is what it gives.
use Rattle.std.proofs.Common.{◌≡◌, ◌≢◌, ℕ, ◌+◌, ◌-◌, ◌<◌, ◌≤◌, List, [], ◌∷◌, ◌++◌, length, take, drop, min, refl, sym, ap, ◌∙◌, subst}
use Rattle.std.proofs.Common.{◌⊎◌, inl, inr, true, false, cond, arith, ◌&&◌, ◌==◌, nat_lt, nat_le, Option, Some, None, option_map}
use Rattle.std.specs.List.{prefix_len}
use Rattle.std.proofs.lemmas.List.{take_at, length-take-le}
use Rattle.std.proofs.lemmas.List.Sums.{prefix_len-le-length}
use Rattle.std.proofs.lemmas.Bool.Decides.{nat_tests}
use Rattle.std.proofs.lemmas.Bool.{cases_lt}
use Rattle.core_scan.specs.declared.escapes.Escaped.{Escaped}
use Rattle.core_scan.specs.Bytes.{is_octal}
use Rattle.type_kinds.specs.Digits.{number}
use Rattle.core_scan.specs.Escapes.{NoneAhead, lettered, Escape, octal, control, letter, NoEscape}
use Rattle.core_scan.specs.steps.Fronts.{octal_of, control_of, marked, escape_of}
use Rattle.core_scan.proofs.RunLemmas.{prefix_len-append, prefix_len-none, take-run, run_ends, cond_cases, eq_from_test}

-- ---- each escape is what `escape_of` gives

-- no letter of the table is an octal digit or `^`
abbrev IsMark : ℕ → Type 0
IsMark b = (is_octal b ≡ false) × ((b == 94) ≡ false)

next_letter : (b k x v : ℕ) (more : Option ℕ) → IsMark k → (more ≡ Some v → IsMark b) → cond (b == k) (Some x) more ≡ Some v → IsMark b
next_letter b k x v more at_k later = cond_cases (IsMark b) (b == k) (Some x) more (Some v) (λ e _. subst IsMark (sym (eq_from_test b k e)) at_k) (λ _ e. later e)

lettered_marks : (b v : ℕ) → lettered b ≡ Some v → IsMark b
lettered_marks b v =
    next_letter b 98 8 v _ (refl, refl) (next_letter b 100 127 v _ (refl, refl) (next_letter b 101 27 v _ (refl, refl) (next_letter b 102 12 v _ (refl, refl)
    (next_letter b 110 10 v _ (refl, refl) (next_letter b 114 13 v _ (refl, refl) (next_letter b 115 32 v _ (refl, refl) (next_letter b 116 9 v _ (refl, refl)
    (next_letter b 118 11 v _ (refl, refl) (next_letter b 34 34 v _ (refl, refl) (next_letter b 39 39 v _ (refl, refl) (next_letter b 92 92 v None (refl, refl) (λ e. cc))))))))))))

pub escape_given : (piece rest : List ℕ) (v : ℕ) → Escape piece v rest → escape_of (piece ++ rest) ≡ Some (record { value = v; len = length piece })
escape_given piece rest v (octal some few all ends is fits) =
    let run : prefix_len is_octal (piece ++ rest) ≡ length piece + prefix_len is_octal rest = prefix_len-append is_octal piece rest all in
    let most : min (prefix_len is_octal (piece ++ rest)) 3 ≡ length piece = ends_at ends run in
    let positive : 0 < length piece = longer piece some in
    let not_none : (prefix_len is_octal (piece ++ rest) == 0) ≡ false = grind (arith, nat_tests) in
    rw (not_none, most, take_at piece rest (length piece) refl) (let small : nat_lt (number 8 piece) 256 ≡ true = grind (arith, nat_tests) in rw (small, ← is) refl)
  where
    longer : (xs : List ℕ) → xs ≢ [] → 0 < length xs
    longer [] h = absurd (h refl)
    longer (x ∷ xs) h = omega arith

    ends_at : (length piece ≡ 3) ⊎ NoneAhead is_octal rest → prefix_len is_octal (piece ++ rest) ≡ length piece + prefix_len is_octal rest → min (prefix_len is_octal (piece ++ rest)) 3 ≡ length piece
    ends_at (inl e) run = omega arith
    ends_at (inr e) run = let none : prefix_len is_octal rest ≡ 0 = prefix_len-none is_octal rest e in omega arith
escape_given piece rest v (control b spelled low high is) =
    rw spelled (let in_range : (nat_le 64 b && nat_le b 95) ≡ true = grind (arith, nat_tests) in rw in_range (let e : b - 64 ≡ v = omega arith in rw e refl))
escape_given piece rest v (letter b spelled is) =
    let marks : IsMark b = lettered_marks b v is in rw spelled (rw (marks.0, marks.1, is) refl)

abbrev record_of : ℕ → ℕ → Escaped
record_of v n = record { value = v; len = n }

abbrev some_record : ℕ → ℕ → Option Escaped
some_record v n = Some (record_of v n)

-- ---- what `escape_of` gives is an escape

abbrev pub IsEscapeAt : List ℕ → Escaped → Type 0
IsEscapeAt bytes e = Escape (take e.len bytes) e.value (drop e.len bytes) × (e.len ≤ length bytes) × (0 < e.len)

given : (bytes : List ℕ) (x e : Escaped) → IsEscapeAt bytes x → Some x ≡ Some e → IsEscapeAt bytes e
given bytes x e h is = let same : x ≡ e = cc in subst (λ (y : Escaped). IsEscapeAt bytes y) same h

control_found : (rest : List ℕ) (e : Escaped) → control_of rest ≡ Some e → IsEscapeAt (94 ∷ rest) e
control_found [] e h = cc
control_found (d ∷ ds) e h =
    cond_cases (IsEscapeAt (94 ∷ d ∷ ds) e) (nat_le 64 d && nat_le d 95) (Some (record { value = d - 64; len = 2 })) None (Some e)
    (λ in_range is. given (94 ∷ d ∷ ds) (record { value = d - 64; len = 2 }) e (control d refl (grind (arith, nat_tests)) (grind (arith, nat_tests)) (grind (arith, nat_tests)), omega arith, omega arith) is)
    (λ _ is. cc)
    h

letter_found : (b : ℕ) (rest : List ℕ) (e : Escaped) (o : Option ℕ) → lettered b ≡ o → option_map (λ (v : ℕ). let found : Escaped = record { value = v; len = 1 } in found) o ≡ Some e → IsEscapeAt (b ∷ rest) e
letter_found b rest e None is h = cc
letter_found b rest e (Some v) is h = given (b ∷ rest) (record { value = v; len = 1 }) e (letter b refl is, omega arith, omega arith) h

marked_found : (bytes : List ℕ) (e : Escaped) → marked bytes ≡ Some e → IsEscapeAt bytes e
marked_found [] e h = cc
marked_found (b ∷ rest) e h =
    cond_cases (IsEscapeAt (b ∷ rest) e) (b == 94) (control_of rest) (option_map (λ (v : ℕ). record { value = v; len = 1 }) (lettered b)) (Some e)
    (λ is k. subst (λ (x : ℕ). IsEscapeAt (x ∷ rest) e) (sym (eq_from_test b 94 is)) (control_found rest e k))
    (λ _ k. letter_found b rest e (lettered b) refl k)
    h

octal_found : (bytes : List ℕ) (e : Escaped) → (prefix_len is_octal bytes == 0) ≡ false → octal_of (min (prefix_len is_octal bytes) 3) bytes ≡ Some e → IsEscapeAt bytes e
octal_found bytes e some h =
    let run : ℕ = prefix_len is_octal bytes in
    let within : prefix_len is_octal bytes ≤ length bytes = prefix_len-le-length is_octal bytes in
    let positive : 0 < prefix_len is_octal bytes = grind (arith, nat_tests) in
    let len : length (take (min (prefix_len is_octal bytes) 3) bytes) ≡ min (prefix_len is_octal bytes) 3 = length-take-le (min (prefix_len is_octal bytes) 3) bytes (omega arith) in
    cond_cases (IsEscapeAt bytes e) (nat_lt (number 8 (take (min (prefix_len is_octal bytes) 3) bytes)) 256) (Some (record { value = number 8 (take (min (prefix_len is_octal bytes) 3) bytes); len = min (prefix_len is_octal bytes) 3 })) None
    (Some e)
    (λ small is. given bytes (record { value = number 8 (take (min (prefix_len is_octal bytes) 3) bytes); len = min (prefix_len is_octal bytes) 3 }) e (
      octal (λ empty. let none : length (take (min (prefix_len is_octal bytes) 3) bytes) ≡ 0 = ap length empty in omega arith) (omega arith) (take-run is_octal (min (prefix_len is_octal bytes) 3) bytes (omega arith))
          (ends (cases_lt 3 (prefix_len is_octal bytes))) refl (grind (arith, nat_tests)),
      omega arith,
      omega arith,
    ) is)
    (λ _ is. cc)
    h
  where
    ends : (3 < prefix_len is_octal bytes) ⊎ (prefix_len is_octal bytes ≤ 3) → (length (take (min (prefix_len is_octal bytes) 3) bytes) ≡ 3) ⊎ NoneAhead is_octal (drop (min (prefix_len is_octal bytes) 3) bytes)
    ends (inr few) = inr (let all : min (prefix_len is_octal bytes) 3 ≡ prefix_len is_octal bytes = omega arith in rw all (run_ends is_octal bytes))
    ends (inl many) = inl (let within : prefix_len is_octal bytes ≤ length bytes = prefix_len-le-length is_octal bytes in let l : length (take (min (prefix_len is_octal bytes) 3) bytes)
        ≡ min (prefix_len is_octal bytes) 3 = length-take-le (min (prefix_len is_octal bytes) 3) bytes (omega arith) in omega arith)

pub escape_found : (bytes : List ℕ) (e : Escaped) → escape_of bytes ≡ Some e → IsEscapeAt bytes e
escape_found bytes e h =
    cond_cases (IsEscapeAt bytes e) (prefix_len is_octal bytes == 0) (marked bytes) (octal_of (min (prefix_len is_octal bytes) 3) bytes) (Some e)
    (λ _ k. marked_found bytes e k)
    (λ some k. octal_found bytes e some k)
    h

pub no_escape : (bytes : List ℕ) → escape_of bytes ≡ None → NoEscape bytes
no_escape bytes h piece rest value splits is = let found : escape_of (piece ++ rest) ≡ Some (record { value = value; len = length piece }) = escape_given piece rest value is in let same : escape_of bytes ≡ escape_of (piece ++ rest) =
    ap escape_of splits in cc

-- bytes begin with one escape at most
pub escape_once : (p q x y : List ℕ) (v w : ℕ) → Escape p v x → Escape q w y → p ++ x ≡ q ++ y → (v ≡ w) × (length p ≡ length q)
escape_once p q x y v w first second same =
    let one : escape_of (p ++ x) ≡ Some (record { value = v; len = length p }) = escape_given p x v first in
    let two : escape_of (q ++ y) ≡ Some (record { value = w; len = length q }) = escape_given q y w second in
    let both : escape_of (p ++ x) ≡ escape_of (q ++ y) = ap escape_of same in
    let equal : some_record v (length p) ≡ some_record w (length q) = sym one ∙ both ∙ two in
    let whole : record_of v (length p) ≡ record_of w (length q) = cc in (ap (λ (r : Escaped). r.value) whole, ap (λ (r : Escaped). r.len) whole)
