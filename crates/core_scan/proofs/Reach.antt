-- How long a spelling can be at most, by the first byte.
use Rattle.std.proofs.Common.{◌≡◌, ◌≢◌, ℕ, suc, ◌+◌, ◌<◌, ◌≤◌, List, [], ◌∷◌, ◌++◌, length, drop, get_or, max, refl, ap, ◌∙◌, ◌⊎◌, inl, inr}
use Rattle.std.proofs.Common.{Bool, true, false, cond, arith, IsTrue, ◌||◌, ◌&&◌, ◌==◌, nat_lt, Option, Some, None, append_assoc, length-append}
use Rattle.std.specs.List.{prefix_len, list_all}
use Rattle.std.proofs.lemmas.Bool.Decides.{nat_tests}
use Rattle.std.proofs.lemmas.List.{drop-drop, drop_at}
use Rattle.type_kinds.proofs.Truths.{first, second}
use Rattle.core_scan.specs.declared.escapes.Escaped.{Escaped}
use Rattle.core_scan.specs.declared.token.TokenKind.{TokenKind}
use Rattle.core_scan.specs.declared.token.TokenKind.TheVariants.{Word, Variable, Integer, Float, Char, Atom, Text, Symbol}
use Rattle.type_kinds.specs.Digits.{is_digit}
use Rattle.core_scan.specs.Bytes.{is_lower, is_name_byte, is_blank}
use Rattle.core_scan.specs.Escapes.{AllOf, NoneAhead}
use Rattle.core_scan.specs.Spells.{IsName, is_variable_start, IsDigits, Sign, unsigned, plus, minus, sign_text, IsExponent, IsFloat, IsChar, Spells}
use Rattle.core_scan.specs.Vocabulary.{symbols}
use Rattle.core_scan.specs.steps.Fronts.{sign_len, exponent_len, fraction_len, is_symbol, is_single, is_pair, second_len, symbol_len, escape_of}
use Rattle.core_scan.proofs.RunLemmas.{prefix_len-append, prefix_len-run}
use Rattle.core_scan.proofs.Tables.{one_of_all}
use Rattle.core_scan.proofs.EscapeLemmas.{escape_given}

-- ---- the first byte

pub data Class : Type 0 where
  at_lower at_upper at_digit at_sign at_dollar at_quote at_double at_blank at_percent at_mark : Class

unfoldable pub class : ℕ → Class
class c =
    cond (is_lower c) at_lower (cond (is_variable_start c) at_upper (cond (is_digit c) at_digit (cond (c == 43 || c == 45) at_sign (cond (c == 36) at_dollar
    (cond (c == 39) at_quote (cond (c == 34) at_double (cond (is_blank c) at_blank (cond (c == 37) at_percent at_mark))))))))

pub class_lower : (c : ℕ) → is_lower c ≡ true → class c ≡ at_lower
unfolding class
class_lower c h = rw h refl

pub class_upper : (c : ℕ) → is_variable_start c ≡ true → class c ≡ at_upper
unfolding class
class_upper c h = let no_lower : is_lower c ≡ false = grind (arith, nat_tests) in rw (no_lower, h) refl

pub class_digit : (c : ℕ) → is_digit c ≡ true → class c ≡ at_digit
unfolding class
class_digit c h = let no_lower : is_lower c ≡ false = grind (arith, nat_tests) in let no_upper : is_variable_start c ≡ false = grind (arith, nat_tests) in rw (no_lower, no_upper, h) refl

pub class_plus : class 43 ≡ at_sign
unfolding class
class_plus = refl

pub class_minus : class 45 ≡ at_sign
unfolding class
class_minus = refl

pub class_dollar : class 36 ≡ at_dollar
unfolding class
class_dollar = refl

pub class_quote : class 39 ≡ at_quote
unfolding class
class_quote = refl

pub class_double : class 34 ≡ at_double
unfolding class
class_double = refl

pub class_percent : class 37 ≡ at_percent
unfolding class
class_percent = refl

pub class_blank : (c : ℕ) → is_blank c ≡ true → class c ≡ at_blank
unfolding class
class_blank c h =
    let no_lower : is_lower c ≡ false = grind (arith, nat_tests) in
    let no_upper : is_variable_start c ≡ false = grind (arith, nat_tests) in
    let no_digit : is_digit c ≡ false = grind (arith, nat_tests) in
    let no_sign : (c == 43 || c == 45) ≡ false = grind (arith, nat_tests) in
    let no_dollar : (c == 36) ≡ false = grind (arith, nat_tests) in
    let no_quote : (c == 39) ≡ false = grind (arith, nat_tests) in
    let no_double : (c == 34) ≡ false = grind (arith, nat_tests) in
    rw (no_lower, no_upper, no_digit, no_sign, no_dollar, no_quote, no_double, h) refl

-- what a symbol begins with
is_symbol_class : Class → Bool
is_symbol_class at_mark = true
is_symbol_class at_sign = true
is_symbol_class _ = false

-- ---- numbers

unfoldable pub unsigned_len : List ℕ → ℕ
unsigned_len bytes = cond (prefix_len is_digit bytes == 0) 0 (prefix_len is_digit bytes + fraction_len (drop (prefix_len is_digit bytes) bytes))

unfoldable pub number_len : List ℕ → ℕ
number_len bytes = cond (unsigned_len (drop (sign_len bytes) bytes) == 0) 0 (sign_len bytes + unsigned_len (drop (sign_len bytes) bytes))

unsigned_some : (bytes : List ℕ) → 0 < prefix_len is_digit bytes → unsigned_len bytes ≡ prefix_len is_digit bytes + fraction_len (drop (prefix_len is_digit bytes) bytes)
unfolding unsigned_len
unsigned_some bytes some = let no_zero : (prefix_len is_digit bytes == 0) ≡ false = grind (arith, nat_tests) in rw no_zero refl

pub number_some : (bytes : List ℕ) → 0 < prefix_len is_digit (drop (sign_len bytes) bytes)
    → number_len bytes ≡ sign_len bytes + prefix_len is_digit (drop (sign_len bytes) bytes) + fraction_len (drop (sign_len bytes + prefix_len is_digit (drop (sign_len bytes) bytes)) bytes)
unfolding number_len
number_some bytes some =
    let whole : unsigned_len (drop (sign_len bytes) bytes) ≡ prefix_len is_digit (drop (sign_len bytes) bytes) + fraction_len (drop (prefix_len is_digit (drop (sign_len bytes) bytes)) (drop (sign_len bytes) bytes)) =
    unsigned_some (drop (sign_len bytes) bytes) some in
    let no_zero : (unsigned_len (drop (sign_len bytes) bytes) == 0) ≡ false = grind (arith, nat_tests) in
    let behind : drop (prefix_len is_digit (drop (sign_len bytes) bytes)) (drop (sign_len bytes) bytes) ≡ drop (sign_len bytes + prefix_len is_digit (drop (sign_len bytes) bytes)) bytes =
    drop-drop (prefix_len is_digit (drop (sign_len bytes) bytes)) (sign_len bytes) bytes in
    rw (no_zero, whole, behind) (omega arith)

pub number_none : (bytes : List ℕ) → prefix_len is_digit (drop (sign_len bytes) bytes) ≡ 0 → number_len bytes ≡ 0
unfolding number_len unsigned_len
number_none bytes none = rw (none) refl

digits_all : (digits : List ℕ) → IsDigits digits → AllOf is_digit digits
digits_all [] h = absurd h
digits_all (d ∷ ds) h = h

digits_some : (digits : List ℕ) → IsDigits digits → 0 < length digits
digits_some [] h = absurd h
digits_some (d ∷ ds) h = omega arith

-- how long a number is whose sign is known
number_at_sign : (s : Sign) (digits rest : List ℕ) → IsDigits digits → (sign_len (sign_text s ++ (digits ++ rest)) ≡ length (sign_text s))
    × (drop (sign_len (sign_text s ++ (digits ++ rest))) (sign_text s ++ (digits ++ rest)) ≡ digits ++ rest)
number_at_sign s [] rest h = absurd h
number_at_sign unsigned (d ∷ ds) rest h = let no_sign : (d == 43 || d == 45) ≡ false = (let is : is_digit d ≡ true = h.0 in grind (arith, nat_tests)) in (rw no_sign refl, rw no_sign refl)
number_at_sign plus (d ∷ ds) rest h = (refl, refl)
number_at_sign minus (d ∷ ds) rest h = (refl, refl)

signed_bound : (s : Sign) (digits rest : List ℕ) (n : ℕ) → IsDigits digits → 0 < n → n ≤ unsigned_len (digits ++ rest) → length (sign_text s) + n ≤ number_len (sign_text s ++ (digits ++ rest))
unfolding number_len
signed_bound s digits rest n h some le =
    let at : (sign_len (sign_text s ++ (digits ++ rest)) ≡ length (sign_text s)) × (drop (sign_len (sign_text s ++ (digits ++ rest))) (sign_text s ++ (digits ++ rest)) ≡ digits ++ rest) = number_at_sign s digits rest h in
    let no_zero : (unsigned_len (digits ++ rest) == 0) ≡ false = grind (arith, nat_tests) in
    rw (at.1, at.0, no_zero) (omega arith)

digits_bound : (digits rest : List ℕ) → IsDigits digits → length digits ≤ unsigned_len (digits ++ rest)
digits_bound digits rest h =
    let run : prefix_len is_digit (digits ++ rest) ≡ length digits + prefix_len is_digit rest = prefix_len-append is_digit digits rest (digits_all digits h) in
    let some : 0 < length digits = digits_some digits h in
    let whole : unsigned_len (digits ++ rest) ≡ prefix_len is_digit (digits ++ rest) + fraction_len (drop (prefix_len is_digit (digits ++ rest)) (digits ++ rest)) = unsigned_some (digits ++ rest) (omega arith) in omega arith

exponent_bound : (exponent rest : List ℕ) → IsExponent exponent → length exponent ≤ exponent_len (exponent ++ rest)
exponent_bound [] rest h = omega arith
exponent_bound (e ∷ es) rest h =
    let is_mark : (e == 101 || e == 69) ≡ true = mark_test h.0 in
    behind is_mark h.1 h.2 h.3 h.4
  where
    mark_test : (e ≡ 101) ⊎ (e ≡ 69) → (e == 101 || e == 69) ≡ true
    mark_test (inl is) = rw is refl
    mark_test (inr is) = rw is refl

    behind : (e == 101 || e == 69) ≡ true → (s : Sign) (digits : List ℕ) → IsDigits digits → es ≡ sign_text s ++ digits → suc (length es) ≤ exponent_len (e ∷ (es ++ rest))
    behind is_mark s digits h spelled =
        let whole : es ++ rest ≡ sign_text s ++ (digits ++ rest) = ap (λ (l : List ℕ). l ++ rest) spelled ∙ append_assoc (sign_text s) digits rest in
        let at : (sign_len (sign_text s ++ (digits ++ rest)) ≡ length (sign_text s)) × (drop (sign_len (sign_text s ++ (digits ++ rest))) (sign_text s ++ (digits ++ rest)) ≡ digits ++ rest) = number_at_sign s digits rest h in
        let run : prefix_len is_digit (digits ++ rest) ≡ length digits + prefix_len is_digit rest = prefix_len-append is_digit digits rest (digits_all digits h) in
        let some : 0 < length digits = digits_some digits h in
        let no_zero : (prefix_len is_digit (digits ++ rest) == 0) ≡ false = grind (arith, nat_tests) in
        let size : length es ≡ length (sign_text s) + length digits = ap length spelled ∙ length-append (sign_text s) digits in
        rw (is_mark, whole, at.1, at.0, no_zero) (omega arith)

-- no digit begins what follows the digits of a part
exponent_ahead : (exponent : List ℕ) → exponent ≢ [] → (rest : List ℕ) → IsExponent exponent → NoneAhead is_digit (exponent ++ rest)
exponent_ahead [] some rest h = absurd (some refl)
exponent_ahead (e ∷ es) some rest h = at h.0
  where
    at : (e ≡ 101) ⊎ (e ≡ 69) → is_digit e ≡ false
    at (inl is) = rw is refl
    at (inr is) = rw is refl

fraction_bound : (part exponent rest : List ℕ) → IsDigits part → IsExponent exponent → 1 + length part + length exponent ≤ fraction_len (46 ∷ (part ++ (exponent ++ rest)))
fraction_bound part [] rest h k =
    let run : prefix_len is_digit (part ++ rest) ≡ length part + prefix_len is_digit rest = prefix_len-append is_digit part rest (digits_all part h) in
    let some : 0 < length part = digits_some part h in
    let no_zero : (prefix_len is_digit (part ++ rest) == 0) ≡ false = grind (arith, nat_tests) in
    rw no_zero (omega arith)
fraction_bound part (e ∷ es) rest h k =
    let run : prefix_len is_digit (part ++ (e ∷ (es ++ rest))) ≡ length part = prefix_len-run is_digit part (e ∷ (es ++ rest)) (digits_all part h) (exponent_ahead (e ∷ es) (λ z. cc) rest k) in
    let some : 0 < length part = digits_some part h in
    let no_zero : (length part == 0) ≡ false = grind (arith, nat_tests) in
    let behind : drop (length part) (part ++ (e ∷ (es ++ rest))) ≡ e ∷ (es ++ rest) = drop_at part (e ∷ (es ++ rest)) (length part) refl in
    let more : suc (length es) ≤ exponent_len (e ∷ (es ++ rest)) = exponent_bound (e ∷ es) rest k in
    rw (run, no_zero, behind) (omega arith)

float_unsigned : (whole part exponent rest : List ℕ) → IsDigits whole → IsDigits part → IsExponent exponent → length whole + (1 + length part + length exponent) ≤ unsigned_len (whole ++ (46 ∷ (part ++ (exponent ++ rest))))
float_unsigned whole part exponent rest h k l =
    let run : prefix_len is_digit (whole ++ (46 ∷ (part ++ (exponent ++ rest)))) ≡ length whole = prefix_len-run is_digit whole (46 ∷ (part ++ (exponent ++ rest))) (digits_all whole h) refl in
    let some : 0 < length whole = digits_some whole h in
    let size : unsigned_len (whole ++ (46 ∷ (part ++ (exponent ++ rest)))) ≡ prefix_len is_digit (whole ++ (46 ∷ (part ++ (exponent ++ rest))))
    + fraction_len (drop (prefix_len is_digit (whole ++ (46 ∷ (part ++ (exponent ++ rest))))) (whole ++ (46 ∷ (part ++ (exponent ++ rest))))) = unsigned_some (whole ++ (46 ∷ (part ++ (exponent ++ rest)))) (omega arith) in
    let behind : drop (length whole) (whole ++ (46 ∷ (part ++ (exponent ++ rest)))) ≡ 46 ∷ (part ++ (exponent ++ rest)) = drop_at whole (46 ∷ (part ++ (exponent ++ rest))) (length whole) refl in
    let more : 1 + length part + length exponent ≤ fraction_len (46 ∷ (part ++ (exponent ++ rest))) = fraction_bound part exponent rest k l in
    rw (size, run, behind) (omega arith)

float_regrouped : (s whole part exponent rest : List ℕ) → (s ++ whole ++ 46 ∷ part ++ exponent) ++ rest ≡ s ++ (whole ++ (46 ∷ (part ++ (exponent ++ rest))))
float_regrouped s whole part exponent rest = simp append_assoc

float_size : (s whole part exponent : List ℕ) → length (s ++ whole ++ 46 ∷ part ++ exponent) ≡ length s + (length whole + (1 + length part + length exponent))
float_size s whole part exponent = simp length-append (omega arith)

integer_bound : (s : Sign) (digits rest : List ℕ) → IsDigits digits → length (sign_text s ++ digits) ≤ number_len ((sign_text s ++ digits) ++ rest)
integer_bound s digits rest h =
    let grouped : (sign_text s ++ digits) ++ rest ≡ sign_text s ++ (digits ++ rest) = append_assoc (sign_text s) digits rest in
    let size : length (sign_text s ++ digits) ≡ length (sign_text s) + length digits = length-append (sign_text s) digits in
    rw (grouped, size) (signed_bound s digits rest (length digits) h (digits_some digits h) (digits_bound digits rest h))

float_bound : (piece rest : List ℕ) → IsFloat piece → length piece ≤ number_len (piece ++ rest)
float_bound piece rest (s, whole, part, exponent, h, k, l, is) =
    let grouped : (sign_text s ++ whole ++ 46 ∷ part ++ exponent) ++ rest ≡ sign_text s ++ (whole ++ (46 ∷ (part ++ (exponent ++ rest)))) = float_regrouped (sign_text s) whole part exponent rest in
    let size : length (sign_text s ++ whole ++ 46 ∷ part ++ exponent) ≡ length (sign_text s) + (length whole + (1 + length part + length exponent)) = float_size (sign_text s) whole part exponent in
    rw (is, grouped, size) (signed_bound s whole (46 ∷ (part ++ (exponent ++ rest))) (length whole + (1 + length part + length exponent)) h (omega arith) (float_unsigned whole part exponent rest h k l))

-- ---- symbols and characters

symbol_test : List ℕ → Bool
symbol_test [] = false
symbol_test (a ∷ []) = is_single a && is_symbol_class (class a)
symbol_test (a ∷ b ∷ []) = is_pair a b && is_symbol_class (class a)
symbol_test (a ∷ b ∷ c ∷ bs) = false

symbols_pass : list_all (λ entry. symbol_test entry.0) symbols ≡ true
unfolding symbol_test is_symbol is_symbol_class class
symbols_pass = refl

symbol_bound : (piece rest : List ℕ) → symbol_test piece ≡ true → (length piece ≤ symbol_len (piece ++ rest)) × (0 < length piece) × (is_symbol_class (class (get_or (piece ++ rest) 0 0)) ≡ true)
unfolding symbol_test
symbol_bound [] rest h = cc
symbol_bound (a ∷ []) rest h = (single rest (first (is_single a) _ h), omega arith, second (is_single a) _ h)
  where
    single : (more : List ℕ) → is_single a ≡ true → 1 ≤ second_len a more
    single [] k = rw k (omega arith)
    single (b ∷ bs) k = rw k (pick (is_pair a b))
      where
        pick : (x : Bool) → 1 ≤ cond x 2 1
        pick true = omega arith
        pick false = omega arith
symbol_bound (a ∷ b ∷ []) rest h = let pair : is_pair a b ≡ true = first (is_pair a b) _ h in (rw pair (omega arith), omega arith, second (is_pair a b) _ h)
symbol_bound (a ∷ b ∷ c ∷ bs) rest h = cc

pub symbol_len-two : (bytes : List ℕ) → symbol_len bytes ≤ 2
symbol_len-two [] = omega arith
symbol_len-two (a ∷ []) = pick (is_single a)
  where
    pick : (x : Bool) → cond x 1 0 ≤ 2
    pick true = omega arith
    pick false = omega arith
symbol_len-two (a ∷ b ∷ bs) = pick (is_pair a b) (is_single a)
  where
    pick : (x y : Bool) → cond x 2 (cond y 1 0) ≤ 2
    pick true y = omega arith
    pick false true = omega arith
    pick false false = omega arith

unfoldable pub escape_size : Option Escaped → ℕ
escape_size None = 0
escape_size (Some e) = 2 + e.len

-- how long a character is, after its `$`
unfoldable pub behind_dollar : List ℕ → ℕ
behind_dollar [] = 0
behind_dollar (c ∷ cs) = cond (c == 92) (escape_size (escape_of cs)) (cond (nat_lt c 32 || c == 127) 0 2)

unfoldable pub char_len : List ℕ → ℕ
char_len [] = 0
char_len (d ∷ ds) = behind_dollar ds

char_bound : (c : ℕ) (piece rest : List ℕ) → IsChar c piece rest → length piece ≤ char_len (piece ++ rest)
unfolding char_len behind_dollar escape_size
char_bound c piece rest (inl (is, low, no_delete, no_backslash)) =
    let first : (c == 92) ≡ false = grind (arith, nat_tests) in
    let second : (nat_lt c 32 || c == 127) ≡ false = grind (arith, nat_tests) in
    rw (is, first, second) (omega arith)
char_bound c piece rest (inr (e, is, escape)) =
    let found : escape_of (e ++ rest) ≡ Some (record { value = c; len = length e }) = escape_given e rest c escape in
    rw (is, found) (omega arith)

-- ---- every kind

unfoldable pub reach : Class → List ℕ → ℕ
reach at_lower bytes = prefix_len is_name_byte bytes
reach at_upper bytes = prefix_len is_name_byte bytes
reach at_digit bytes = number_len bytes
reach at_sign bytes = max (number_len bytes) (symbol_len bytes)
reach at_dollar bytes = char_len bytes
reach at_mark bytes = symbol_len bytes
reach _ bytes = length bytes

-- which first bytes a kind has
abbrev pub Starts : TokenKind → Class → Type 0
Starts (Word w) k = k ≡ at_lower
Starts (Variable x) k = k ≡ at_upper
Starts (Integer n bare) k = (k ≡ at_digit) ⊎ (k ≡ at_sign)
Starts (Float s) k = (k ≡ at_digit) ⊎ (k ≡ at_sign)
Starts (Char c) k = k ≡ at_dollar
Starts (Atom x) k = k ≡ at_quote
Starts (Text x) k = k ≡ at_double
Starts (Symbol s) k = (k ≡ at_mark) ⊎ (k ≡ at_sign)

abbrev pub first_class : List ℕ → Class
first_class bytes = class (get_or bytes 0 0)

abbrev pub Bounded : TokenKind → List ℕ → List ℕ → Type 0
Bounded kind piece rest = Starts kind (first_class (piece ++ rest)) × (0 < length piece) × (length piece ≤ reach (first_class (piece ++ rest)) (piece ++ rest))

name_bound : (first : ℕ → Bool) (piece rest : List ℕ) → ((b : ℕ) → first b ≡ true → is_name_byte b ≡ true) → IsName first piece
    → (IsTrue (first (get_or (piece ++ rest) 0 0))) × (0 < length piece) × (length piece ≤ prefix_len is_name_byte (piece ++ rest))
name_bound first [] rest names h = absurd h
name_bound first (b ∷ bs) rest names h =
    let run : prefix_len is_name_byte ((b ∷ bs) ++ rest) ≡ length (b ∷ bs) + prefix_len is_name_byte rest = prefix_len-append is_name_byte (b ∷ bs) rest (names b h.0, h.1) in (h.0, omega arith, omega arith)

pub lower_names : (b : ℕ) → is_lower b ≡ true → is_name_byte b ≡ true
lower_names b h = rw h refl

pub start_names : (b : ℕ) → is_variable_start b ≡ true → is_name_byte b ≡ true
start_names b h = grind (arith, nat_tests)

sign_class : (s : Sign) (digits rest : List ℕ) → IsDigits digits → (first_class (sign_text s ++ digits ++ rest) ≡ at_digit) ⊎ (first_class (sign_text s ++ digits ++ rest) ≡ at_sign)
sign_class s [] rest h = absurd h
sign_class unsigned (d ∷ ds) rest h = inl (class_digit d h.0)
sign_class plus (d ∷ ds) rest h = inr class_plus
sign_class minus (d ∷ ds) rest h = inr class_minus

number_reach : (k : Class) (bytes : List ℕ) (n : ℕ) → (k ≡ at_digit) ⊎ (k ≡ at_sign) → n ≤ number_len bytes → n ≤ reach k bytes
unfolding reach
number_reach k bytes n (inl e) h = rw e h
number_reach k bytes n (inr e) h = rw e (omega arith)

symbol_reach : (k : Class) (bytes : List ℕ) (n : ℕ) → is_symbol_class k ≡ true → n ≤ symbol_len bytes → ((k ≡ at_mark) ⊎ (k ≡ at_sign)) × (n ≤ reach k bytes)
unfolding reach is_symbol_class
symbol_reach at_mark bytes n e h = (inl refl, h)
symbol_reach at_sign bytes n e h = (inr refl, omega arith)
symbol_reach _ bytes n e h = cc

class_reach : (k c : Class) (bytes : List ℕ) (n : ℕ) → c ≡ k → n ≤ reach k bytes → n ≤ reach c bytes
class_reach k c bytes n e h = rw e h

pub bounded : (kind : TokenKind) (piece rest : List ℕ) → Spells kind piece rest → Bounded kind piece rest
unfolding reach
bounded (Word w) piece rest (h, _) =
    let name : (IsTrue (is_lower (get_or (piece ++ rest) 0 0))) × (0 < length piece) × (length piece ≤ prefix_len is_name_byte (piece ++ rest)) = name_bound is_lower piece rest lower_names h in
    let e : first_class (piece ++ rest) ≡ at_lower = class_lower (get_or (piece ++ rest) 0 0) name.0 in
    (e, name.1, class_reach at_lower (first_class (piece ++ rest)) (piece ++ rest) (length piece) e name.2)
bounded (Variable x) piece rest (h, _) =
    let name : (IsTrue (is_variable_start (get_or (piece ++ rest) 0 0))) × (0 < length piece) × (length piece ≤ prefix_len is_name_byte (piece ++ rest)) = name_bound is_variable_start piece rest start_names h in
    let e : first_class (piece ++ rest) ≡ at_upper = class_upper (get_or (piece ++ rest) 0 0) name.0 in
    (e, name.1, class_reach at_upper (first_class (piece ++ rest)) (piece ++ rest) (length piece) e name.2)
bounded (Integer n bare) piece rest (s, digits, h, is, _, _) =
    let starts : (first_class (piece ++ rest) ≡ at_digit) ⊎ (first_class (piece ++ rest) ≡ at_sign) = rw is (sign_class s digits rest h) in
    let size : length piece ≡ length (sign_text s) + length digits = ap length is ∙ length-append (sign_text s) digits in
    let some : 0 < length digits = digits_some digits h in
    let most : length piece ≤ number_len (piece ++ rest) = rw is (integer_bound s digits rest h) in
    (starts, omega arith, number_reach (first_class (piece ++ rest)) (piece ++ rest) (length piece) starts most)
bounded (Float x) piece rest (h, _) =
    let starts : (first_class (piece ++ rest) ≡ at_digit) ⊎ (first_class (piece ++ rest) ≡ at_sign) = float_class h in
    let some : 0 < length piece = float_some h in
    (starts, some, number_reach (first_class (piece ++ rest)) (piece ++ rest) (length piece) starts (float_bound piece rest h))
  where
    float_class : IsFloat piece → (first_class (piece ++ rest) ≡ at_digit) ⊎ (first_class (piece ++ rest) ≡ at_sign)
    float_class (s, whole, part, exponent, h, k, l, is) = let grouped : (sign_text s ++ whole ++ 46 ∷ part ++ exponent) ++ rest ≡ sign_text s ++ whole ++ (46 ∷ (part ++ (exponent ++ rest))) =
        simp append_assoc in rw (is, grouped) (sign_class s whole (46 ∷ (part ++ (exponent ++ rest))) h)

    float_some : IsFloat piece → 0 < length piece
    float_some (s, whole, part, exponent, h, k, l, is) = let size : length piece ≡ length (sign_text s) + (length whole + (1 + length part + length exponent)) = ap length is ∙ float_size (sign_text s) whole part exponent in omega arith
bounded (Char c) piece rest h =
    let head : (first_class (piece ++ rest) ≡ at_dollar) × (0 < length piece) = char_head h in
    (head.0, head.1, class_reach at_dollar (first_class (piece ++ rest)) (piece ++ rest) (length piece) head.0 (char_bound c piece rest h))
  where
    char_head : IsChar c piece rest → (first_class (piece ++ rest) ≡ at_dollar) × (0 < length piece)
    char_head (inl (is, _, _, _)) = rw is (class_dollar, omega arith)
    char_head (inr (e, is, _)) = rw is (class_dollar, omega arith)
bounded (Atom x) piece rest (inside, is, _) =
    let e : first_class (piece ++ rest) ≡ at_quote = rw is class_quote in
    let size : length (piece ++ rest) ≡ length piece + length rest = length-append piece rest in
    (e, rw is (omega arith), class_reach at_quote (first_class (piece ++ rest)) (piece ++ rest) (length piece) e (omega arith))
bounded (Text x) piece rest (inside, is, _) =
    let e : first_class (piece ++ rest) ≡ at_double = rw is class_double in
    let size : length (piece ++ rest) ≡ length piece + length rest = length-append piece rest in
    (e, rw is (omega arith), class_reach at_double (first_class (piece ++ rest)) (piece ++ rest) (length piece) e (omega arith))
bounded (Symbol s) piece rest (h, _) =
    let bound : (length piece ≤ symbol_len (piece ++ rest)) × (0 < length piece) × (is_symbol_class (first_class (piece ++ rest)) ≡ true) = symbol_bound piece rest (one_of_all symbol_test symbols piece symbols_pass h) in
    let both : ((first_class (piece ++ rest) ≡ at_mark) ⊎ (first_class (piece ++ rest) ≡ at_sign)) × (length piece ≤ reach (first_class (piece ++ rest)) (piece ++ rest)) =
    symbol_reach (first_class (piece ++ rest)) (piece ++ rest) (length piece) bound.2 bound.0 in
    (both.0, bound.1, both.1)
