-- Words with a space between each two are lexed as their tokens.
use Rattle.std.proofs.Common.{eqb-true, Some, None, Option, ◌≡◌, ◌≢◌, ℕ, pos, negsuc, zero, suc, ◌+◌, ◌<◌, ◌≤◌, ◌⊎◌, inl, inr, List, [], ◌∷◌, ◌++◌}
use Rattle.std.proofs.Common.{length, Bool, true, false, ◌&&◌, ◌||◌, not, IsTrue, refl, sym, ap, ◌∙◌, subst, arith, append_assoc, true≢false}
use Rattle.std.specs.Prelude.{◌==◌, ◌/◌, ◌%◌, neg_ℤ}
use Rattle.std.proofs.lemmas.Bool.Decides.{nat_tests}
use Rattle.std.specs.List.{list_all}
use Rattle.std.specs.Prelude.{if◌then◌else◌}
use Rattle.std.specs.Fmt.{decimal}
use Rattle.std.proofs.lemmas.Bool.{cases_lt, and_parts}
use Rattle.type_kinds.proofs.Lists.{same_head, same_tail}
use Rattle.type_kinds.specs.declared.place.Place.{Place}
use Rattle.type_kinds.proofs.DigitLaws.{is_written}
use Rattle.type_kinds.specs.Quoted.{all_escaped, needs_backslash, is_control, octal as octal_of}
use Rattle.type_kinds.specs.Digits.{is_digit, number}
use Rattle.core_scan.specs.declared.token.TokenKind.{TokenKind}
use Rattle.core_scan.specs.declared.token.TokenKind.TheVariants.{Word as WordKind, Variable, Integer, Float, Char, Atom, Text, Symbol}
use Rattle.core_scan.specs.declared.sort.Sort.{Sort}
use Rattle.core_scan.specs.Bytes.{past, is_lower, is_name_byte, is_octal}
use Rattle.core_scan.specs.Escapes.{AllOf, NoneAhead, Escape, octal, control, letter, lettered, Inside, nothing, plain, escaped}
use Rattle.core_scan.specs.Vocabulary.{words, symbols, IsOneOf}
use Rattle.core_scan.specs.Spells.{Sign, unsigned, plus, minus, sign_text, IsName, IsDigits, IsExponent, IsFloat, Spells, Longest, IsToken, is_variable_start}
use Rattle.core_scan.specs.Lexed.{Passes, Lexed, here, blank, token}
use Rattle.core_print.specs.Words.{Word, spelled, spaced, line}
use Rattle.core_print.specs.Words as w
use Rattle.core_print.specs.Tokens.{kind_of, IsWord, AreWords, tokens_behind, tokens_of}

-- ---- what stands behind a word

abbrev pub IsStop : ℕ → Type 0
IsStop b = (b ≡ 32) ⊎ (b ≡ 10)

abbrev pub Stops : List ℕ → Type 0
Stops [] = ⊥
Stops (b ∷ bs) = IsStop b

-- a longer prefix of the bytes has the stop in it
pub record Longer (piece more : List ℕ) : Type 0 where
  pub stop : ℕ
  pub beyond : List ℕ
  pub is_stop : IsStop stop
  pub text : more ≡ piece ++ stop ∷ beyond

longer : (piece rest more after : List ℕ) → piece ++ rest ≡ more ++ after → length piece < length more → Stops rest → Longer piece more
longer piece rest [] after e long stops = absurd (omega arith)
longer [] [] (m ∷ ms) after e long stops = absurd stops
longer [] (b ∷ bs) (m ∷ ms) after e long stops = record { stop = m; beyond = ms; is_stop = subst IsStop (same_head b m bs (ms ++ after) e) stops; text = refl }
longer (p ∷ ps) rest (m ∷ ms) after e long stops =
    let k : length ps < length ms = omega arith in
    let r = longer ps rest ms after (same_tail p m (ps ++ rest) (ms ++ after) e) k stops in
    record { stop = r.stop; beyond = r.beyond; is_stop = r.is_stop; text = (λ i. same_head m p (ms ++ after) (ps ++ rest) (sym e) i ∷ r.text i) }

-- ---- no kind but quoted text has a stop in it

inside : (test : ℕ → Bool) (x : List ℕ) (s : ℕ) (y : List ℕ) → AllOf test (x ++ s ∷ y) → IsTrue (test s)
inside test [] s y h = h.0
inside test (b ∷ bs) s y h = inside test bs s y h.1

no_stop : (test : ℕ → Bool) (s : ℕ) → test 32 ≡ false → test 10 ≡ false → IsStop s → IsTrue (test s) → ⊥
no_stop test s a b (inl e) h = true≢false (sym h ∙ ap test e ∙ a)
no_stop test s a b (inr e) h = true≢false (sym h ∙ ap test e ∙ b)

AllOf-append : (test : ℕ → Bool) (xs ys : List ℕ) → AllOf test xs → AllOf test ys → AllOf test (xs ++ ys)
AllOf-append test [] ys h g = g
AllOf-append test (x ∷ xs) ys h g = (h.0, AllOf-append test xs ys h.1 g)

-- the bytes of numbers
number_byte : ℕ → Bool
number_byte b = is_digit b || (b == 43 || (b == 45 || (b == 46 || (b == 101 || b == 69))))

digits_number : (xs : List ℕ) → AllOf is_digit xs → AllOf number_byte xs
unfolding number_byte
digits_number [] h = tt
digits_number (x ∷ xs) h = (ap (λ z. z || (x == 43 || (x == 45 || (x == 46 || (x == 101 || x == 69))))) h.0, digits_number xs h.1)

some_digits : (xs : List ℕ) → IsDigits xs → AllOf number_byte xs
some_digits [] h = absurd h
some_digits (x ∷ xs) h = digits_number (x ∷ xs) h

sign_number : (sign : Sign) → AllOf number_byte (sign_text sign)
unfolding number_byte
sign_number unsigned = tt
sign_number plus = (refl, tt)
sign_number minus = (refl, tt)

abbrev pub is_none : Option ℕ → Bool
is_none None = true
is_none (Some x) = false

none_ahead : (q : ℕ) (qs left : List ℕ) → q ∷ qs ≡ left → NoneAhead is_octal left → is_octal q ≡ false
none_ahead q qs [] e h = absurd cc
none_ahead q qs (l ∷ ls) e h = ap is_octal (same_head q l qs ls e) ∙ h

-- ---- tables

all_pass : (ℕ → Bool) → List ℕ → Bool
all_pass test [] = true
all_pass test (b ∷ bs) = test b && all_pass test bs

first_passes : (ℕ → Bool) → List ℕ → Bool
first_passes test [] = false
first_passes test (b ∷ bs) = test b

entries_pass : (List ℕ → Bool) → List (List ℕ × Sort) → Bool
entries_pass test [] = true
entries_pass test (e ∷ es) = test e.0 && entries_pass test es

one_passes : (test : List ℕ → Bool) (table : List (List ℕ × Sort)) (x : List ℕ) → entries_pass test table ≡ true → IsOneOf table x → test x ≡ true
unfolding entries_pass
one_passes test [] x all_ is = absurd is
one_passes test (e ∷ es) x all_ (inl is) = ap test is ∙ (and_parts (test e.0) (entries_pass test es) all_).0
one_passes test (e ∷ es) x all_ (inr is) = one_passes test es x (and_parts (test e.0) (entries_pass test es) all_).1 is

passes_inside : (test : ℕ → Bool) (x : List ℕ) (s : ℕ) (y : List ℕ) → all_pass test (x ++ s ∷ y) ≡ true → IsTrue (test s)
unfolding all_pass
passes_inside test [] s y h = (and_parts (test s) (all_pass test y) h).0
passes_inside test (b ∷ bs) s y h = passes_inside test bs s y (and_parts (test b) (all_pass test (bs ++ s ∷ y)) h).1

-- a byte that no kind of quoted text begins with
clear : ℕ → Bool
clear b = not (b == 32) && not (b == 10)

plain_first : ℕ → Bool
plain_first b = not (b == 34) && (not (b == 36) && not (b == 39))

symbols_clear : entries_pass (all_pass clear) symbols ≡ true
unfolding entries_pass all_pass clear
symbols_clear = refl

symbols_plain : entries_pass (first_passes plain_first) symbols ≡ true
unfolding entries_pass first_passes plain_first
symbols_plain = refl

words_plain : entries_pass (first_passes plain_first) words ≡ true
unfolding entries_pass first_passes plain_first
words_plain = refl

-- a byte that no quote and no `$` is
abbrev pub Plain : ℕ → Type 0
Plain p = (p ≡ 34 → ⊥) × (p ≡ 36 → ⊥) × (p ≡ 39 → ⊥)

plain_by : (test : ℕ → Bool) (p : ℕ) → test p ≡ true → test 34 ≡ false → test 36 ≡ false → test 39 ≡ false → Plain p
plain_by test p h a b c = (λ e. true≢false (sym h ∙ ap test e ∙ a), λ e. true≢false (sym h ∙ ap test e ∙ b), λ e. true≢false (sym h ∙ ap test e ∙ c))

-- ---- what begins with a plain byte has no stop in it

float_bytes : (sign : Sign) (whole part exponent : List ℕ) → IsDigits whole → IsDigits part → IsExponent exponent → AllOf number_byte (sign_text sign ++ whole ++ 46 ∷ part ++ exponent)
unfolding number_byte
float_bytes sign whole part exponent ws ps es =
    AllOf-append number_byte (sign_text sign ++ whole ++ 46 ∷ part) exponent
    (AllOf-append number_byte (sign_text sign ++ whole) (46 ∷ part) (AllOf-append number_byte (sign_text sign) whole (sign_number sign) (some_digits whole ws)) (refl, some_digits part ps))
    (by exponent es)
  where
    by : (exponent : List ℕ) → IsExponent exponent → AllOf number_byte exponent
    by [] h = tt
    by (e ∷ es) (inl is, sign, digits, ds, text) = (subst (λ b. number_byte b ≡ true) (sym is) refl, subst (AllOf number_byte) (sym text) (AllOf-append number_byte (sign_text sign) digits (sign_number sign) (some_digits digits ds)))
    by (e ∷ es) (inr is, sign, digits, ds, text) = (subst (λ b. number_byte b ≡ true) (sym is) refl, subst (AllOf number_byte) (sym text) (AllOf-append number_byte (sign_text sign) digits (sign_number sign) (some_digits digits ds)))

no_number : (s : ℕ) → IsStop s → IsTrue (number_byte s) → ⊥
unfolding number_byte
no_number s stop h = no_stop number_byte s refl refl stop h

no_clear : (s : ℕ) → IsStop s → IsTrue (clear s) → ⊥
unfolding clear
no_clear s stop h = no_stop clear s refl refl stop h

free : (kind : TokenKind) (p : ℕ) (ps more after : List ℕ) (s : ℕ) (y : List ℕ) → Spells kind more after → more ≡ (p ∷ ps) ++ s ∷ y → IsStop s → Plain p → ⊥
free (WordKind w) p ps more after s y spells e stop clean = no_stop is_name_byte s refl refl stop (inside is_name_byte ps s y (subst (IsName is_lower) e spells.0).1)
free (Variable x) p ps more after s y spells e stop clean = no_stop is_name_byte s refl refl stop (inside is_name_byte ps s y (subst (IsName is_variable_start) e spells.0).1)
free (Integer n bare) p ps more after s y (sign, digits, ds, text, value, is) e stop clean =
    no_number s stop (inside number_byte (p ∷ ps) s y (subst (AllOf number_byte) (sym text ∙ e) (AllOf-append number_byte (sign_text sign) digits (sign_number sign) (some_digits digits ds))))
free (Float f) p ps more after s y ((sign, whole, part, exponent, ws, qs, es, text), is) e stop clean =
    no_number s stop (inside number_byte (p ∷ ps) s y (subst (AllOf number_byte) (sym text ∙ e) (float_bytes sign whole part exponent ws qs es)))
free (Char c) p ps more after s y (inl (text, low, a, b)) e stop clean = clean.1 (same_head p 36 (ps ++ s ∷ y) (c ∷ []) (sym e ∙ text))
free (Char c) p ps more after s y (inr (escape, text, is)) e stop clean = clean.1 (same_head p 36 (ps ++ s ∷ y) (92 ∷ escape) (sym e ∙ text))
free (Atom x) p ps more after s y (text, is, in_) e stop clean = clean.2 (same_head p 39 (ps ++ s ∷ y) (text ++ 39 ∷ []) (sym e ∙ is))
free (Text x) p ps more after s y (text, is, in_) e stop clean = clean.0 (same_head p 34 (ps ++ s ∷ y) (text ++ 34 ∷ []) (sym e ∙ is))
free (Symbol x) p ps more after s y (one, is) e stop clean = no_clear s stop (passes_inside clear (p ∷ ps) s y (ap (all_pass clear) (sym e) ∙ one_passes (all_pass clear) symbols more symbols_clear one))

-- a first byte that is plain
pub data PlainFirst : List ℕ → Type 0 where
  begins_plain : (p : ℕ) (ps : List ℕ) → Plain p → PlainFirst (p ∷ ps)

longest_plain : (kind : TokenKind) (piece rest : List ℕ) → PlainFirst piece → Spells kind piece rest → Stops rest → Longest (piece ++ rest) kind piece rest
longest_plain kind _ rest (begins_plain p ps clean) spells stops = record {
  splits = refl;
  spells = spells;
  longest = λ other more after e others. by other more after e others (cases_lt (suc (length ps)) (length more));
}
  where
    by : (other : TokenKind) (more after : List ℕ) → (p ∷ ps) ++ rest ≡ more ++ after → Spells other more after → (suc (length ps) < length more) ⊎ (length more ≤ suc (length ps)) → length more ≤ suc (length ps)
    by other more after e others (inr k) = k
    by other more after e others (inl k) = let r = longer (p ∷ ps) rest more after e k stops in absurd (free other p ps more after r.stop r.beyond others r.text r.is_stop clean)

-- ---- the words of the printer, but atoms

all_of : (test : ℕ → Bool) (xs : List ℕ) → all_pass test xs ≡ true → AllOf test xs
unfolding all_pass
all_of test [] h = tt
all_of test (x ∷ xs) h = let r = and_parts (test x) (all_pass test xs) h in (r.0, all_of test xs r.1)

name_text : List ℕ → Bool
name_text [] = false
name_text (b ∷ bs) = is_lower b && all_pass is_name_byte bs

words_named : entries_pass name_text words ≡ true
unfolding entries_pass name_text all_pass
words_named = refl

is_name : (xs : List ℕ) → name_text xs ≡ true → IsName is_lower xs
unfolding name_text
is_name [] h = absurd (true≢false (sym h))
is_name (b ∷ bs) h = let r = and_parts (is_lower b) (all_pass is_name_byte bs) h in (r.0, all_of is_name_byte bs r.1)

table_first : (xs : List ℕ) → first_passes plain_first xs ≡ true → PlainFirst xs
unfolding first_passes plain_first
table_first [] h = absurd (true≢false (sym h))
table_first (b ∷ bs) h = begins_plain b bs (plain_by plain_first b h refl refl refl)

variable_first : (xs : List ℕ) → IsName is_variable_start xs → PlainFirst xs
variable_first [] h = absurd h
variable_first (b ∷ bs) h = begins_plain b bs (plain_by is_variable_start b h.0 refl refl refl)

number_first : (xs : List ℕ) → 0 < length xs → AllOf number_byte xs → PlainFirst xs
unfolding number_byte
number_first [] long h = absurd (omega arith)
number_first (b ∷ bs) long h = begins_plain b bs (plain_by number_byte b h.0 refl refl refl)

digits_of : (xs : List ℕ) → IsTrue (list_all is_digit xs) → AllOf is_digit xs
digits_of [] h = tt
digits_of (x ∷ xs) h = let r = and_parts (is_digit x) (list_all is_digit xs) h in (r.0, digits_of xs r.1)

some_of : (xs : List ℕ) → 0 < length xs → AllOf is_digit xs → IsDigits xs
some_of [] long h = absurd (omega arith)
some_of (x ∷ xs) long h = h

float_long : (xs : List ℕ) → IsFloat xs → 0 < length xs
float_long xs (sign, w ∷ ws, part, exponent, ds, ps, es, text) = by sign text
  where
    by : (sign : Sign) → xs ≡ sign_text sign ++ (w ∷ ws) ++ 46 ∷ part ++ exponent → 0 < length xs
    by unsigned e = subst (λ z. 0 < length z) (sym e) (omega arith)
    by plus e = subst (λ z. 0 < length z) (sym e) (omega arith)
    by minus e = subst (λ z. 0 < length z) (sym e) (omega arith)
float_long xs (sign, [], part, exponent, ds, ps, es, text) = absurd ds

-- ---- atoms

-- what is checked of each byte below a bound holds of each
upto : (ℕ → Bool) → ℕ → Bool
upto test zero = true
upto test (suc n) = test n && upto test n

below : (test : ℕ → Bool) (n k : ℕ) → upto test n ≡ true → k < n → test k ≡ true
unfolding upto
below test zero k h within = absurd (omega arith)
below test (suc n) k h within = by (cases_lt k n) (λ less. below test n k (and_parts (test n) (upto test n) h).1 less)
  where
    by : (k < n) ⊎ (n ≤ k) → (k < n → test k ≡ true) → test k ≡ true
    by (inl less) more = more less
    by (inr past_) more = let same : k ≡ n = omega arith in ap test same ∙ (and_parts (test n) (upto test n) h).0

-- the octal digits of a byte
abbrev digits : ℕ → List ℕ
digits b = (48 + b / 64) ∷ (48 + b / 8 % 8) ∷ (48 + b % 8) ∷ []

octal_test : ℕ → Bool
octal_test b = all_pass is_octal (digits b) && ((number 8 (digits b) == b) && is_none (lettered (48 + b / 64)))

octals_pass : upto octal_test 128 ≡ true
unfolding upto octal_test all_pass
octals_pass = refl

control_small : (b : ℕ) → is_control b ≡ true → b < 128
control_small b h = by (cases_lt b 32)
  where
    by : (b < 32) ⊎ (32 ≤ b) → b < 128
    by (inl k) = omega arith
    by (inr k) = grind (arith, nat_tests)

which : (b : ℕ) → needs_backslash b ≡ true → (b ≡ 39) ⊎ (b ≡ 92)
which b h = by (b == 39) refl h
  where
    by : (t : Bool) → (b == 39) ≡ t → (t || b == 92) ≡ true → (b ≡ 39) ⊎ (b ≡ 92)
    by true e h = inl (eqb-true b 39 e)
    by false e h = inr (eqb-true b 92 h)

lettered_self : (b : ℕ) → needs_backslash b ≡ true → lettered b ≡ Some b
lettered_self b h = elim (which b h) [ inl e ↦ subst (λ z. lettered z ≡ Some z) (sym e) refl | inr e ↦ subst (λ z. lettered z ≡ Some z) (sym e) refl ]

no_quote : (b : ℕ) → needs_backslash b ≡ false → b ≢ 39
no_quote b h e = true≢false (sym (ap needs_backslash e) ∙ h)

no_backslash : (b : ℕ) → needs_backslash b ≡ false → b ≢ 92
no_backslash b h e = true≢false (sym (ap needs_backslash e) ∙ h)

-- what is known of the octal digits of a byte
pub record Digits (b : ℕ) : Type 0 where
  pub octal_digits : AllOf is_octal (digits b)
  pub spells : b ≡ number 8 (digits b)
  pub small : b ≤ 255
  pub no_letter : is_none (lettered (48 + b / 64)) ≡ true

control_digits : (b : ℕ) → is_control b ≡ true → Digits b
unfolding octal_test
control_digits b h =
    let small = control_small b h in
    let r = below octal_test 128 b octals_pass small in
    let p = and_parts (all_pass is_octal (digits b)) ((number 8 (digits b) == b) && is_none (lettered (48 + b / 64))) r in
    let q = and_parts (number 8 (digits b) == b) (is_none (lettered (48 + b / 64))) p.1 in
    record { octal_digits = all_of is_octal (digits b) p.0; spells = sym (eqb-true (number 8 (digits b)) b q.0); small = omega arith; no_letter = q.1 }

-- the bytes of an atom between its quotes
atom_inside : (xs rest : List ℕ) → Inside 39 (all_escaped xs) xs (39 ∷ rest)
atom_inside [] rest = nothing refl refl
atom_inside (b ∷ bs) rest = by (needs_backslash b) refl (is_control b) refl (atom_inside bs rest)
  where
    by : (t : Bool) → needs_backslash b ≡ t → (u : Bool) → is_control b ≡ u → Inside 39 (all_escaped bs) bs (39 ∷ rest)
        → Inside 39 ((if t then 92 ∷ b ∷ [] else if u then octal_of b else b ∷ []) ++ all_escaped bs) (b ∷ bs) (39 ∷ rest)
    by true n u c more = escaped (b ∷ []) (all_escaped bs) bs b (letter b refl (lettered_self b n)) refl refl more
    by false n true c more =
        let d = control_digits b c in
        escaped (digits b) (all_escaped bs) bs b (octal (λ (e : digits b ≡ []). cc) (omega arith) d.octal_digits (inl refl) d.spells d.small) refl refl more
    by false n false c more = plain b (all_escaped bs) bs (no_quote b n) (no_backslash b n) refl refl more

-- ---- a quoted atom ends at one place alone

octal_apart : (o x : ℕ) → IsTrue (is_octal o) → o ≡ x → is_octal x ≡ false → ⊥
octal_apart o x h e no_ = true≢false (sym h ∙ ap is_octal e ∙ no_)

not_octal : (x : ℕ) → needs_backslash x ≡ true → is_octal x ≡ false
not_octal x h = elim (which x h) [ inl e ↦ ap is_octal e | inr e ↦ ap is_octal e ]

not_caret : (x : ℕ) → needs_backslash x ≡ true → 94 ≡ x → ⊥
not_caret x h e = elim (which x h) [ inl f ↦ absurd (omega arith) | inr f ↦ absurd (omega arith) ]

-- after a backslash, an escape of the byte itself
one_escape : (x : ℕ) (esc more left after : List ℕ) (v : ℕ) → needs_backslash x ≡ true → Escape esc v (more ++ 39 ∷ after) → x ∷ left ≡ (esc ++ more) ++ 39 ∷ after
    → (esc ≡ x ∷ []) × (left ≡ more ++ 39 ∷ after)
one_escape x [] more left after v n (octal some few all_ ends is small) e = absurd (some refl)
one_escape x (o ∷ os) more left after v n (octal some few all_ ends is small) e = absurd (octal_apart o x all_.0 (sym (same_head x o left ((os ++ more) ++ 39 ∷ after) e)) (not_octal x n))
one_escape x esc more left after v n (control b is low high val) e = absurd (not_caret x n (sym (same_head x 94 left ((b ∷ more) ++ 39 ∷ after) (e ∙ ap (λ z. (z ++ more) ++ 39 ∷ after) is))))
one_escape x esc more left after v n (letter b is found) e =
    let g = e ∙ ap (λ z. (z ++ more) ++ 39 ∷ after) is in
    (is ∙ ap (λ z. z ∷ []) (sym (same_head x b left (more ++ 39 ∷ after) g)), same_tail x b left (more ++ 39 ∷ after) g)

-- after a backslash, three octal digits
three_digits :
    (p q r : ℕ) (esc more left after : List ℕ) (v : ℕ) → AllOf is_octal (p ∷ q ∷ r ∷ []) → is_none (lettered p) ≡ true → Escape esc v (more ++ 39 ∷ after) → p ∷ q ∷ r ∷ left ≡ (esc ++ more) ++ 39 ∷ after
    → (esc ≡ p ∷ q ∷ r ∷ []) × (left ≡ more ++ 39 ∷ after)
three_digits p q r [] more left after v all_ none_ (octal some few os ends is small) e = absurd (some refl)
three_digits p q r (a ∷ []) more left after v all_ none_ (octal some few os (inl ends) is small) e = absurd (omega arith)
three_digits p q r (a ∷ []) more left after v all_ none_ (octal some few os (inr ends) is small) e =
    let g = same_tail p a (q ∷ r ∷ left) (more ++ 39 ∷ after) e in absurd (true≢false (sym all_.1.0 ∙ none_ahead q (r ∷ left) (more ++ 39 ∷ after) g ends))
three_digits p q r (a ∷ b ∷ []) more left after v all_ none_ (octal some few os (inl ends) is small) e = absurd (omega arith)
three_digits p q r (a ∷ b ∷ []) more left after v all_ none_ (octal some few os (inr ends) is small) e =
    let g = same_tail q b (r ∷ left) (more ++ 39 ∷ after) (same_tail p a (q ∷ r ∷ left) (b ∷ more ++ 39 ∷ after) e) in absurd (true≢false (sym all_.1.1.0 ∙ none_ahead r left (more ++ 39 ∷ after) g ends))
three_digits p q r (a ∷ b ∷ c ∷ []) more left after v all_ none_ (octal some few os ends is small) e =
    let g = same_tail p a (q ∷ r ∷ left) (b ∷ c ∷ more ++ 39 ∷ after) e in
    let h = same_tail q b (r ∷ left) (c ∷ more ++ 39 ∷ after) g in (
      (λ i. same_head a p (b ∷ c ∷ more ++ 39 ∷ after) (q ∷ r ∷ left) (sym e) i ∷ same_head b q (c ∷ more ++ 39 ∷ after) (r ∷ left) (sym g) i ∷ same_head c r (more ++ 39 ∷ after) left (sym h) i ∷ []),
      same_tail r c left (more ++ 39 ∷ after) h,
    )
three_digits p q r (a ∷ b ∷ c ∷ d ∷ os) more left after v all_ none_ (octal some few ods ends is small) e = absurd (omega arith)
three_digits p q r esc more left after v all_ none_ (control b is low high val) e =
    let g = e ∙ ap (λ z. (z ++ more) ++ 39 ∷ after) is in absurd (octal_apart p 94 all_.0 (same_head p 94 (q ∷ r ∷ left) (b ∷ more ++ 39 ∷ after) g) refl)
three_digits p q r esc more left after v all_ none_ (letter b is found) e =
    let g = e ∙ ap (λ z. (z ++ more) ++ 39 ∷ after) is in
    let same = same_head p b (q ∷ r ∷ left) (more ++ 39 ∷ after) g in
    absurd (true≢false (sym none_ ∙ ap is_none (ap lettered same ∙ found)))

heads_apart : (a b : ℕ) (xs ys : List ℕ) → (a == b) ≡ false → (a == a) ≡ true → a ∷ xs ≡ b ∷ ys → ⊥
heads_apart a b xs ys no_ yes_ e = true≢false (sym yes_ ∙ ap (λ y. a == y) (same_head a b xs ys e) ∙ no_)

quote_and_backslash : (xs ys : List ℕ) → 39 ∷ xs ≡ 92 ∷ ys → ⊥
quote_and_backslash xs ys e = heads_apart 39 92 xs ys refl refl e

atom_once : (xs left inside_ text after : List ℕ) → Inside 39 inside_ text (39 ∷ after) → all_escaped xs ++ 39 ∷ left ≡ inside_ ++ 39 ∷ after → inside_ ≡ all_escaped xs
atom_once [] left inside_ text after (nothing is says) e = is
atom_once [] left inside_ text after (plain b more letters quote slash is says h) e = absurd (quote (sym (same_head 39 b left (more ++ 39 ∷ after) (e ∙ ap (λ z. z ++ 39 ∷ after) is))))
atom_once [] left inside_ text after (escaped esc more letters v E is says h) e = absurd (quote_and_backslash left ((esc ++ more) ++ 39 ∷ after) (e ∙ ap (λ z. z ++ 39 ∷ after) is))
atom_once (x ∷ xs) left inside_ text after (nothing is says) e = absurd (never (needs_backslash x) refl (is_control x) refl (e ∙ ap (λ z. z ++ 39 ∷ after) is))
  where
    never : (t : Bool) → needs_backslash x ≡ t → (u : Bool) → is_control x ≡ u → ((if t then 92 ∷ x ∷ [] else if u then octal_of x else x ∷ []) ++ all_escaped xs) ++ 39 ∷ left ≡ 39 ∷ after → ⊥
    never true n u c g = heads_apart 92 39 (x ∷ all_escaped xs ++ 39 ∷ left) after refl refl g
    never false n true c g = heads_apart 92 39 (digits x ++ all_escaped xs ++ 39 ∷ left) after refl refl g
    never false n false c g = no_quote x n (same_head x 39 (all_escaped xs ++ 39 ∷ left) after g)
atom_once (x ∷ xs) left inside_ text after (plain b more letters quote slash is says h) e =
    by (needs_backslash x) refl (is_control x) refl (e ∙ ap (λ z. z ++ 39 ∷ after) is) (λ g. atom_once xs left more letters after h g)
  where
    by : (t : Bool) → needs_backslash x ≡ t → (u : Bool) → is_control x ≡ u → ((if t then 92 ∷ x ∷ [] else if u then octal_of x else x ∷ []) ++ all_escaped xs) ++ 39 ∷ left ≡ b ∷ more ++ 39 ∷ after
        → (all_escaped xs ++ 39 ∷ left ≡ more ++ 39 ∷ after → more ≡ all_escaped xs) → inside_ ≡ (if t then 92 ∷ x ∷ [] else if u then octal_of x else x ∷ []) ++ all_escaped xs
    by true n u c g ih = absurd (slash (sym (same_head 92 b (x ∷ all_escaped xs ++ 39 ∷ left) (more ++ 39 ∷ after) g)))
    by false n true c g ih = absurd (slash (sym (same_head 92 b (digits x ++ all_escaped xs ++ 39 ∷ left) (more ++ 39 ∷ after) g)))
    by false n false c g ih =
        let same = same_head x b (all_escaped xs ++ 39 ∷ left) (more ++ 39 ∷ after) g in
        is ∙ (λ i. sym same i ∷ ih (same_tail x b (all_escaped xs ++ 39 ∷ left) (more ++ 39 ∷ after) g) i)
atom_once (x ∷ xs) left inside_ text after (escaped esc more letters v E is says h) e =
    by (needs_backslash x) refl (is_control x) refl (e ∙ ap (λ z. z ++ 39 ∷ after) is) (λ g. atom_once xs left more letters after h g)
  where
    by : (t : Bool) → needs_backslash x ≡ t → (u : Bool) → is_control x ≡ u → ((if t then 92 ∷ x ∷ [] else if u then octal_of x else x ∷ []) ++ all_escaped xs) ++ 39 ∷ left ≡ 92 ∷ (esc ++ more) ++ 39 ∷ after
        → (all_escaped xs ++ 39 ∷ left ≡ more ++ 39 ∷ after → more ≡ all_escaped xs) → inside_ ≡ (if t then 92 ∷ x ∷ [] else if u then octal_of x else x ∷ []) ++ all_escaped xs
    by true n u c g ih =
        let r = one_escape x esc more (all_escaped xs ++ 39 ∷ left) after v n (subst (λ z. Escape esc v z) refl E) (same_tail 92 92 (x ∷ all_escaped xs ++ 39 ∷ left) ((esc ++ more) ++ 39 ∷ after) g) in
        is ∙ (λ i. 92 ∷ r.0 i ++ ih r.1 i)
    by false n true c g ih =
        let d = control_digits x c in
        let r = three_digits (48 + x / 64) (48 + x / 8 % 8) (48 + x % 8) esc more (all_escaped xs ++ 39 ∷ left) after v d.octal_digits d.no_letter E
        (same_tail 92 92 (digits x ++ all_escaped xs ++ 39 ∷ left) ((esc ++ more) ++ 39 ∷ after) g) in
        is ∙ (λ i. 92 ∷ r.0 i ++ ih r.1 i)
    by false n false c g ih = absurd (no_backslash x n (same_head x 92 (all_escaped xs ++ 39 ∷ left) ((esc ++ more) ++ 39 ∷ after) g))

-- what else may begin with a quote
name_apart : (first : ℕ → Bool) (more after z : List ℕ) (n : ℕ) → IsName first more → first 39 ≡ false → 39 ∷ z ≡ more ++ after → length more ≤ n
name_apart first [] after z n h no_ e = absurd h
name_apart first (b ∷ bs) after z n h no_ e = absurd (true≢false (sym h.0 ∙ ap first (sym (same_head 39 b z (bs ++ after) e)) ∙ no_))

number_apart : (more after z : List ℕ) (n : ℕ) → AllOf number_byte more → 39 ∷ z ≡ more ++ after → length more ≤ n
unfolding number_byte
number_apart [] after z n h e = omega arith
number_apart (b ∷ bs) after z n h e = absurd (true≢false (sym h.0 ∙ ap number_byte (sym (same_head 39 b z (bs ++ after) e))))

quote_first : (b : ℕ) (bs more after z : List ℕ) → more ≡ b ∷ bs → (b == 39) ≡ false → 39 ∷ z ≡ more ++ after → ⊥
quote_first b bs more after z is no_ e = true≢false (ap (λ y. y == 39) (same_head 39 b z (bs ++ after) (e ∙ ap (λ y. y ++ after) is)) ∙ no_)

symbol_apart : (more after z : List ℕ) → PlainFirst more → 39 ∷ z ≡ more ++ after → ⊥
symbol_apart _ after z (begins_plain b bs clean) e = clean.2 (sym (same_head 39 b z (bs ++ after) e))

longest_atom : (x rest : List ℕ) → Longest ((39 ∷ all_escaped x ++ 39 ∷ []) ++ rest) (Atom x) (39 ∷ all_escaped x ++ 39 ∷ []) rest
longest_atom x rest = record {
  splits = refl;
  spells = (all_escaped x, refl, atom_inside x rest);
  longest = λ other more after e others. by other more after e others;
}
  where
    by : (other : TokenKind) (more after : List ℕ) → (39 ∷ all_escaped x ++ 39 ∷ []) ++ rest ≡ more ++ after → Spells other more after → length more ≤ length (39 ∷ all_escaped x ++ 39 ∷ [])
    by (WordKind v) more after e others = name_apart is_lower more after _ _ others.0 refl e
    by (Variable v) more after e others = name_apart is_variable_start more after _ _ others.0 refl e
    by (Integer n bare) more after e (sign, ds, some, text, value, is) = number_apart more after _ _ (subst (AllOf number_byte) (sym text) (AllOf-append number_byte (sign_text sign) ds (sign_number sign) (some_digits ds some))) e
    by (Float f) more after e ((sign, whole, part, exponent, ws, qs, es, text), is) = number_apart more after _ _ (subst (AllOf number_byte) (sym text) (float_bytes sign whole part exponent ws qs es)) e
    by (Char v) more after e (inl (text, low, a, b)) = absurd (quote_first 36 (v ∷ []) more after _ text refl e)
    by (Char v) more after e (inr (escape, text, is)) = absurd (quote_first 36 (92 ∷ escape) more after _ text refl e)
    by (Text v) more after e (ins, text, in_) = absurd (quote_first 34 (ins ++ 34 ∷ []) more after _ text refl e)
    by (Symbol v) more after e (one, is) = absurd (symbol_apart more after _ (table_first more (one_passes (first_passes plain_first) symbols more symbols_plain one)) e)
    by (Atom v) more after e (ins, text, in_) =
        let g = same_tail 39 39 ((all_escaped x ++ 39 ∷ []) ++ rest) ((ins ++ 39 ∷ []) ++ after) (e ∙ ap (λ z. z ++ after) text) in
        let h = sym (append_assoc (all_escaped x) (39 ∷ []) rest) ∙ g ∙ append_assoc ins (39 ∷ []) after in
        let same = atom_once x rest ins v after in_ h in
        subst (λ z. length z ≤ length (39 ∷ all_escaped x ++ 39 ∷ [])) (sym text) (subst (λ z. length (39 ∷ z ++ 39 ∷ []) ≤ length (39 ∷ all_escaped x ++ 39 ∷ [])) (sym same) (omega arith))

longest_word : (v : Word) (rest : List ℕ) → IsWord v → Stops rest → Longest (spelled v ++ rest) (kind_of v) (spelled v) rest
longest_word (w.reserved b) rest is stops = longest_plain (WordKind b) b rest (table_first b (one_passes (first_passes plain_first) words b words_plain is)) (is_name b (one_passes name_text words b words_named is), refl) stops
longest_word (w.symbol b) rest is stops = longest_plain (Symbol b) b rest (table_first b (one_passes (first_passes plain_first) symbols b symbols_plain is)) (is, refl) stops
longest_word (w.variable x) rest is stops = longest_plain (Variable x) x rest (variable_first x is) (is, refl) stops
longest_word (w.atom x) rest is stops = longest_atom x rest
longest_word (w.integer (pos n)) rest is stops =
    let d = is_written n (omega arith) in
    let all_ = digits_of (decimal n) d.digits in
    longest_plain (Integer (pos n) true) (decimal n) rest (number_first (decimal n) d.some (digits_number (decimal n) all_)) (unsigned, decimal n, some_of (decimal n) d.some all_, refl, ap pos (sym d.spells), refl) stops
longest_word (w.integer (negsuc n)) rest is stops =
    let d = is_written (suc n) (omega arith) in
    let all_ = digits_of (decimal (suc n)) d.digits in
    longest_plain (Integer (negsuc n) false) (45 ∷ decimal (suc n)) rest (begins_plain 45 (decimal (suc n)) (plain_by (λ b. b == 45) 45 refl refl refl refl))
    (minus, decimal (suc n), some_of (decimal (suc n)) d.some all_, refl, ap (λ m. neg_ℤ (pos m)) (sym d.spells), refl) stops
longest_word (w.float s) rest is stops =
    longest_plain (Float s) s rest (number_first s (float_long s is) (float_all s is)) (is, refl) stops
  where
    float_all : (s : List ℕ) → IsFloat s → AllOf number_byte s
    float_all s (sign, whole, part, exponent, ws, qs, es, text) = subst (AllOf number_byte) (sym text) (float_bytes sign whole part exponent ws qs es)

token_word : (v : Word) → IsWord v → IsToken (kind_of v)
token_word (w.reserved b) is = is
token_word (w.symbol b) is = tt
token_word (w.variable x) is = tt
token_word (w.atom x) is = tt
token_word (w.integer n) is = is
token_word (w.float s) is = tt

-- ---- lines

ends_in_stop : (vs : List Word) → Stops (spaced vs ++ 10 ∷ [])
ends_in_stop [] = inr refl
ends_in_stop (v ∷ vs) = inl refl

behind_lexed : (vs : List Word) (place : Place) → AreWords vs → (end : Place) × Passes end [] place (spaced vs ++ 10 ∷ []) (tokens_behind place vs)
behind_lexed [] place are = (past place (10 ∷ []), blank 10 [] refl refl (here refl refl refl))
behind_lexed (v ∷ vs) place are =
    let begin = past place (32 ∷ []) in
    let r = behind_lexed vs (past begin (spelled v)) are.1 in
    let rest = spaced vs ++ 10 ∷ [] in (
      r.0,
      blank 32 (spelled v ++ rest) (ap (λ z. 32 ∷ z) (append_assoc (spelled v) (spaced vs) (10 ∷ []))) refl
          (token (kind_of v) (spelled v) rest (tokens_behind (past begin (spelled v)) vs) (longest_word v rest are.0 (ends_in_stop vs)) (token_word v are.0) refl r.1),
    )

pub line_lexed : (vs : List Word) (place : Place) → AreWords vs → Lexed place (line vs) (tokens_of place vs)
line_lexed [] place are = (past place (10 ∷ []), blank 10 [] refl refl (here refl refl refl))
line_lexed (v ∷ vs) place are =
    let r = behind_lexed vs (past place (spelled v)) are.1 in
    let rest = spaced vs ++ 10 ∷ [] in (
      r.0,
      subst (λ bytes. Passes r.0 [] place bytes (tokens_of place (v ∷ vs))) (sym (append_assoc (spelled v) (spaced vs) (10 ∷ [])))
          (token (kind_of v) (spelled v) rest (tokens_behind (past place (spelled v)) vs) (longest_word v rest are.0 (ends_in_stop vs)) (token_word v are.0) refl r.1),
    )
