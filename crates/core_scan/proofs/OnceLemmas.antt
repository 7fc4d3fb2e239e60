-- A piece spells one token only, and bytes begin with one longest spelling only.
use Rattle.std.proofs.Common.{◌≡◌, ◌≢◌, ℕ, ◌<◌, ◌≤◌, List, [], ◌∷◌, ◌++◌, length, drop, get_or, refl, sym, ap, ◌∙◌}
use Rattle.std.proofs.Common.{subst, ◌⊎◌, inl, inr, Bool, true, false, cond, not, arith, ◌||◌, ◌==◌, ℤ, append_assoc}
use Rattle.std.specs.List.{list_all}
use Rattle.std.proofs.lemmas.List.{append_cancel_left}
use Rattle.std.proofs.lemmas.Bool.Decides.{nat_tests}
use Rattle.std.proofs.lemmas.Bool.{false≢true}
use Rattle.core_scan.specs.declared.token.TokenKind.{TokenKind}
use Rattle.core_scan.specs.declared.token.TokenKind.TheVariants.{Word, Variable, Integer, Float, Char, Atom, Text, Symbol}
use Rattle.type_kinds.specs.Digits.{is_digit, number}
use Rattle.core_scan.specs.Escapes.{AllOf, Quoted}
use Rattle.core_scan.specs.Spells.{IsDigits, Sign, unsigned, plus, minus, sign_text, signed, is_bare, IsFloat, IsChar, Spells, Longest}
use Rattle.core_scan.specs.Vocabulary.{symbols, IsOneOf}
use Rattle.core_scan.proofs.RunLemmas.{same_front}
use Rattle.core_scan.proofs.Tables.{one_of_all}
use Rattle.core_scan.proofs.EscapeLemmas.{escape_once}
use Rattle.core_scan.proofs.InsideLemmas.{inside_once}
use Rattle.core_scan.proofs.Reach.{Class, at_lower, at_upper, at_digit, at_sign, at_dollar, at_quote, at_double, at_mark, first_class, Bounded, bounded, reach}

-- ---- one kind

-- a number for each kind, by what a piece looks like
tag : TokenKind → ℕ
tag (Word w) = 0
tag (Variable x) = 1
tag (Integer n bare) = 2
tag (Float s) = 3
tag (Char c) = 4
tag (Atom x) = 5
tag (Text x) = 6
tag (Symbol s) = 7

has_digit : List ℕ → Bool
has_digit [] = false
has_digit (b ∷ bs) = is_digit b || has_digit bs

has_point : List ℕ → Bool
has_point [] = false
has_point (b ∷ bs) = b == 46 || has_point bs

has_digit-append : (xs ys : List ℕ) → has_digit ys ≡ true → has_digit (xs ++ ys) ≡ true
unfolding has_digit
has_digit-append [] ys h = h
has_digit-append (x ∷ xs) ys h = pick (is_digit x) (has_digit-append xs ys h)
  where
    pick : (b : Bool) → has_digit (xs ++ ys) ≡ true → (b || has_digit (xs ++ ys)) ≡ true
    pick true k = refl
    pick false k = k

has_digit-front : (xs ys : List ℕ) → has_digit xs ≡ true → has_digit (xs ++ ys) ≡ true
unfolding has_digit
has_digit-front [] ys h = cc
has_digit-front (x ∷ xs) ys h = pick (is_digit x) refl (has_digit-front xs ys)
  where
    pick : (b : Bool) → is_digit x ≡ b → (has_digit xs ≡ true → has_digit (xs ++ ys) ≡ true) → (is_digit x || has_digit (xs ++ ys)) ≡ true
    pick true e more = rw e refl
    pick false e more = let k : has_digit xs ≡ true = rw e at h in rw e (more k)

digits_have : (digits : List ℕ) → IsDigits digits → has_digit digits ≡ true
unfolding has_digit
digits_have [] h = absurd h
digits_have (d ∷ ds) h = rw h.0 refl

no_point : (digits : List ℕ) → AllOf is_digit digits → has_point digits ≡ false
unfolding has_point
no_point [] h = refl
no_point (d ∷ ds) h = let e : (d == 46) ≡ false = (let k : is_digit d ≡ true = h.0 in grind (arith, nat_tests)) in rw e (no_point ds h.1)

has_point-append : (xs ys : List ℕ) → has_point ys ≡ true → has_point (xs ++ ys) ≡ true
unfolding has_point
has_point-append [] ys h = h
has_point-append (x ∷ xs) ys h = pick (x == 46) (has_point-append xs ys h)
  where
    pick : (b : Bool) → has_point (xs ++ ys) ≡ true → (b || has_point (xs ++ ys)) ≡ true
    pick true k = refl
    pick false k = k

-- which kind a number or a symbol is
numeric_tag : List ℕ → ℕ
numeric_tag piece = cond (has_digit piece) (cond (has_point piece) 3 2) 7

class_tag : Class → List ℕ → ℕ
class_tag at_lower piece = 0
class_tag at_upper piece = 1
class_tag at_dollar piece = 4
class_tag at_quote piece = 5
class_tag at_double piece = 6
class_tag _ piece = numeric_tag piece

no_digit : List ℕ → Bool
no_digit piece = not (has_digit piece)

symbols_no_digit : list_all (λ entry. no_digit entry.0) symbols ≡ true
unfolding no_digit has_digit
symbols_no_digit = refl

symbol_no_digit : (piece : List ℕ) → IsOneOf symbols piece → has_digit piece ≡ false
unfolding no_digit
symbol_no_digit piece h = pick (has_digit piece) (one_of_all no_digit symbols piece symbols_no_digit h)
  where
    pick : (b : Bool) → not b ≡ true → b ≡ false
    pick true k = cc
    pick false k = refl

integer_looks : (s : Sign) (digits : List ℕ) → IsDigits digits → numeric_tag (sign_text s ++ digits) ≡ 2
unfolding numeric_tag has_point
integer_looks s [] h = absurd h
integer_looks s (d ∷ ds) h = rw (has_digit-append (sign_text s) (d ∷ ds) (digits_have (d ∷ ds) h), pointless s) refl
  where
    pointless : (t : Sign) → has_point (sign_text t ++ (d ∷ ds)) ≡ false
    pointless unsigned = no_point (d ∷ ds) h
    pointless plus = no_point (d ∷ ds) h
    pointless minus = no_point (d ∷ ds) h

float_looks : (piece : List ℕ) → IsFloat piece → numeric_tag piece ≡ 3
unfolding numeric_tag has_point
float_looks piece (s, whole, part, exponent, h, k, l, is) =
    let grouped : sign_text s ++ whole ++ 46 ∷ part ++ exponent ≡ sign_text s ++ (whole ++ (46 ∷ (part ++ exponent))) = simp append_assoc in
    let digits : has_digit (sign_text s ++ (whole ++ (46 ∷ (part ++ exponent)))) ≡ true = has_digit-append (sign_text s) (whole ++ (46 ∷ (part ++ exponent))) (has_digit-front whole (46 ∷ (part ++ exponent)) (digits_have whole h)) in
    let point : has_point (sign_text s ++ (whole ++ (46 ∷ (part ++ exponent)))) ≡ true = has_point-append (sign_text s) (whole ++ (46 ∷ (part ++ exponent))) (has_point-append whole (46 ∷ (part ++ exponent)) refl) in
    rw (is, grouped, digits, point) refl

numeric_class : (k : Class) (piece : List ℕ) (n : ℕ) → (k ≡ at_digit) ⊎ (k ≡ at_sign) → numeric_tag piece ≡ n → class_tag k piece ≡ n
unfolding class_tag
numeric_class k piece n (inl e) h = rw e h
numeric_class k piece n (inr e) h = rw e h

mark_class : (k : Class) (piece : List ℕ) → (k ≡ at_mark) ⊎ (k ≡ at_sign) → has_digit piece ≡ false → class_tag k piece ≡ 7
unfolding class_tag numeric_tag
mark_class k piece (inl e) h = rw (e, h) refl
mark_class k piece (inr e) h = rw (e, h) refl

tagged : (kind : TokenKind) (piece rest : List ℕ) → Spells kind piece rest → class_tag (first_class (piece ++ rest)) piece ≡ tag kind
unfolding tag class_tag
tagged (Word w) piece rest h = rw (bounded (Word w) piece rest h).0 refl
tagged (Variable x) piece rest h = rw (bounded (Variable x) piece rest h).0 refl
tagged (Integer n bare) piece rest (s, digits, h, is, e, f) = numeric_class (first_class (piece ++ rest)) piece 2 (bounded (Integer n bare) piece rest (s, digits, h, is, e, f)).0 (rw is (integer_looks s digits h))
tagged (Float x) piece rest h = numeric_class (first_class (piece ++ rest)) piece 3 (bounded (Float x) piece rest h).0 (float_looks piece h.0)
tagged (Char c) piece rest h = rw (bounded (Char c) piece rest h).0 refl
tagged (Atom x) piece rest h = rw (bounded (Atom x) piece rest h).0 refl
tagged (Text x) piece rest h = rw (bounded (Text x) piece rest h).0 refl
tagged (Symbol s) piece rest h = mark_class (first_class (piece ++ rest)) piece (bounded (Symbol s) piece rest h).0 (symbol_no_digit piece h.0)

-- ---- one value

first_digit : (c : ℕ) (xs digits : List ℕ) → digits ≡ c ∷ xs → IsDigits digits → is_digit c ≡ true
first_digit c xs [] e h = absurd h
first_digit c xs (d ∷ ds) e h = let same : d ≡ c = cc in rw (← same) h.0

no_digit_plus : (xs digits : List ℕ) → digits ≡ 43 ∷ xs → IsDigits digits → ⊥
no_digit_plus xs digits e h = false≢true (first_digit 43 xs digits e h)

no_digit_minus : (xs digits : List ℕ) → digits ≡ 45 ∷ xs → IsDigits digits → ⊥
no_digit_minus xs digits e h = false≢true (first_digit 45 xs digits e h)

signs_apart : (xs ys : List ℕ) → ◌≡◌ {A = List ℕ} (43 ∷ xs) (45 ∷ ys) → ⊥
signs_apart xs ys e = let heads : get_or (43 ∷ xs) 0 0 ≡ get_or (45 ∷ ys) 0 0 = ap (λ (l : List ℕ). get_or l 0 0) e in omega (arith, heads)

same_tail : (c : ℕ) (xs ys : List ℕ) → ◌≡◌ {A = List ℕ} (c ∷ xs) (c ∷ ys) → xs ≡ ys
same_tail c xs ys e = ap (drop 1) e

same_number : (s t : Sign) (ds es : List ℕ) → IsDigits ds → IsDigits es → sign_text s ++ ds ≡ sign_text t ++ es → (s ≡ t) × (ds ≡ es)
same_number unsigned unsigned ds es h k e = (refl, e)
same_number unsigned plus ds es h k e = absurd (no_digit_plus es ds e h)
same_number unsigned minus ds es h k e = absurd (no_digit_minus es ds e h)
same_number plus unsigned ds es h k e = absurd (no_digit_plus ds es (sym e) k)
same_number minus unsigned ds es h k e = absurd (no_digit_minus ds es (sym e) k)
same_number plus plus ds es h k e = (refl, same_tail 43 ds es e)
same_number minus minus ds es h k e = (refl, same_tail 45 ds es e)
same_number plus minus ds es h k e = absurd (signs_apart ds es e)
same_number minus plus ds es h k e = absurd (signs_apart es ds (sym e))

same_integer : (m n : ℤ) (b c : Bool) (piece rest : List ℕ) → Spells (Integer m b) piece rest → Spells (Integer n c) piece rest → Integer m b ≡ Integer n c
same_integer m n b c piece rest (s, ds, h, is, value, bare) (t, es, k, js, worth, unbare) =
    let both : (s ≡ t) × (ds ≡ es) = same_number s t ds es h k (sym is ∙ js) in
    let values : m ≡ n = value ∙ ap (λ (u : Sign). signed u (number 10 ds)) both.0 ∙ ap (λ (l : List ℕ). signed t (number 10 l)) both.1 ∙ sym worth in
    let bares : b ≡ c = bare ∙ ap is_bare both.0 ∙ sym unbare in cc

same_char : (b c : ℕ) (piece rest : List ℕ) → IsChar b piece rest → IsChar c piece rest → b ≡ c
same_char b c piece rest (inl (is, _, _, _)) (inl (js, _, _, _)) = cc
same_char b c piece rest (inl (is, _, _, no_backslash)) (inr (e, js, _)) = let same : b ≡ 92 = cc in absurd (no_backslash same)
same_char b c piece rest (inr (e, js, _)) (inl (is, _, _, no_backslash)) = let same : c ≡ 92 = cc in absurd (no_backslash same)
same_char b c piece rest (inr (e, is, one)) (inr (f, js, two)) = let same : e ≡ f = cc in (escape_once e f rest rest b c one two (ap (λ (l : List ℕ). l ++ rest) same)).0

pub quoted_once : (q : ℕ) (x y p r s t : List ℕ) → q ≢ 92 → Quoted q x p r → Quoted q y s t → p ++ r ≡ s ++ t → (p ≡ s) × (x ≡ y)
quoted_once q x y p r s t apart (a, is, one) (b, js, two) same =
    let left : p ++ r ≡ q ∷ (a ++ (q ∷ r)) = ap (λ (l : List ℕ). l ++ r) is ∙ ap (λ (l : List ℕ). q ∷ l) (append_assoc a (q ∷ []) r) in
    let right : s ++ t ≡ q ∷ (b ++ (q ∷ t)) = ap (λ (l : List ℕ). l ++ t) js ∙ ap (λ (l : List ℕ). q ∷ l) (append_assoc b (q ∷ []) t) in
    let whole : q ∷ (a ++ (q ∷ r)) ≡ q ∷ (b ++ (q ∷ t)) = sym left ∙ same ∙ right in
    let behind : a ++ (q ∷ r) ≡ b ++ (q ∷ t) = cc in
    let once : (a ≡ b) × (x ≡ y) × (q ∷ r ≡ q ∷ t) = inside_once apart one two (inl refl) (inl refl) behind in
    (is ∙ ap (λ (l : List ℕ). q ∷ l ++ q ∷ []) once.0 ∙ sym js, once.1)

pub spells_once : (k l : TokenKind) (piece rest : List ℕ) → Spells k piece rest → Spells l piece rest → k ≡ l
unfolding tag
spells_once (Word w) (Word v) piece rest h k = ap Word (h.1 ∙ sym k.1)
spells_once (Variable w) (Variable v) piece rest h k = ap Variable (h.1 ∙ sym k.1)
spells_once (Integer m b) (Integer n c) piece rest h k = same_integer m n b c piece rest h k
spells_once (Float w) (Float v) piece rest h k = ap Float (h.1 ∙ sym k.1)
spells_once (Char b) (Char c) piece rest h k = ap Char (same_char b c piece rest h k)
spells_once (Atom x) (Atom y) piece rest h k = ap Atom (quoted_once 39 x y piece rest piece rest (λ e. omega arith) h k refl).1
spells_once (Text x) (Text y) piece rest h k = ap Text (quoted_once 34 x y piece rest piece rest (λ e. omega arith) h k refl).1
spells_once (Symbol w) (Symbol v) piece rest h k = ap Symbol (h.1 ∙ sym k.1)
spells_once k l piece rest h g = absurd (let one : class_tag (first_class (piece ++ rest)) piece ≡ tag k = tagged k piece rest h in let two : class_tag (first_class (piece ++ rest)) piece
    ≡ tag l = tagged l piece rest g in let same : tag k ≡ tag l = sym one ∙ two in omega arith)

-- ---- one longest spelling

pub longest_once : (bytes : List ℕ) (k l : TokenKind) (p r s t : List ℕ) → Longest bytes k p r → Longest bytes l s t → (k ≡ l) × (p ≡ s) × (r ≡ t)
longest_once bytes k l p r s t one two =
    let first : length s ≤ length p = one.longest l s t two.splits two.spells in
    let second : length p ≤ length s = two.longest k p r one.splits one.spells in
    let whole : p ++ r ≡ s ++ t = sym one.splits ∙ two.splits in
    let pieces : p ≡ s = same_front p s r t whole (omega arith) in
    let rests : r ≡ t = append_cancel_left s r t (ap (λ (x : List ℕ). x ++ r) (sym pieces) ∙ whole) in
    let moved : Spells l p r = subst (λ (x : List ℕ). Spells l p x) (sym rests) (subst (λ (x : List ℕ). Spells l x t) (sym pieces) two.spells) in
    (spells_once k l p r one.spells moved, pieces, rests)

-- what reaches as far as the first byte lets any reach is the longest
pub longest_by : (bytes : List ℕ) (kind : TokenKind) (piece rest : List ℕ) → bytes ≡ piece ++ rest → Spells kind piece rest → reach (first_class bytes) bytes ≤ length piece → Longest bytes kind piece rest
longest_by bytes kind piece rest splits spells far = record {
  splits = splits;
  spells = spells;
  longest = λ other more after is spelled. (
      let most : length more ≤ reach (first_class (more ++ after)) (more ++ after) = (bounded other more after spelled).2 in
      let same : reach (first_class (more ++ after)) (more ++ after) ≡ reach (first_class bytes) bytes = ap (λ (l : List ℕ). reach (first_class l) l) (sym is) in omega arith);
}

-- where the first byte lets nothing reach, there is no token
pub none_by : (bytes : List ℕ) → reach (first_class bytes) bytes ≡ 0 → (kind : TokenKind) (piece rest : List ℕ) → bytes ≡ piece ++ rest → Spells kind piece rest → ⊥
none_by bytes far kind piece rest is spelled =
    let most : Bounded kind piece rest = bounded kind piece rest spelled in
    let same : reach (first_class (piece ++ rest)) (piece ++ rest) ≡ reach (first_class bytes) bytes = ap (λ (l : List ℕ). reach (first_class l) l) (sym is) in
    let low : length piece ≤ reach (first_class (piece ++ rest)) (piece ++ rest) = most.2 in
    let some : 0 < length piece = most.1 in omega arith
