-- The word that is a number as it is printed.
use Rattle.std.proofs.Common.{◌≡◌, ◌↔◌, ℕ, zero, suc, ◌+◌, ◌-◌, ◌*◌, ◌^◌, ◌<◌, ◌≤◌, Bool, true, false, List, []}
use Rattle.std.proofs.Common.{◌∷◌, length, get_or, refl, sym, ap, ◌∙◌, subst, arith, append-nil, true≢false}
use Rattle.std.specs.Prelude.{IsTrue}
use Rattle.std.specs.Int.{IsInRange}
use Rattle.std.specs.List.{fold, list_all, prefix_len}
use Rattle.std.specs.Fmt.{decimal}
use Rattle.std.proofs.lemmas.Fmt.{decimal-digits_value, decimal_digit, first_decimal}
use Rattle.std.proofs.lemmas.Str.Parse.{IsNumeralModel, numerals_by_fold}
use Rattle.std.proofs.lemmas.Bool.Decides.{nat_tests}
use Rattle.std.proofs.lemmas.List.{take_all}
use Rattle.std.proofs.lemmas.Bool.{and_parts, and_from}
use Rattle.type_kinds.specs.Digits.{is_digit, number}
use Rattle.type_kinds.proofs.DigitLaws.{front_digits, front_is, is_written}
use Rattle.analysis_answers.specs.steps.Numbers.{Begins}

abbrev AreDigits : List ℕ → Type 0
AreDigits ds = list_all is_digit ds ≡ true

digit_range : (c : ℕ) → is_digit c ≡ true → IsInRange 48 57 c
digit_range c h = grind (arith, nat_tests, h)

range_digit : (c : ℕ) → IsInRange 48 57 c → is_digit c ≡ true
range_digit c h = grind (arith, nat_tests, h)

numerals : IsNumeralModel AreDigits (number 10)
numerals =
    numerals_by_fold AreDigits
    (record {
      empty = refl;
      parts = λ c cs h. (let b = and_parts (is_digit c) (list_all is_digit cs) h in (digit_range c b.0, b.1));
      more = λ c cs h k. and_from (is_digit c) (list_all is_digit cs) (range_digit c h) k;
    })
    (λ n ds. fold (λ n digit. n * 10 + (digit - 48)) n ds)
    (record { empty = λ n. refl; more = λ n c cs h. refl })

begins_so : (ds : List ℕ) → 0 < length ds → 48 < get_or ds 0 0 → Begins ds
begins_so [] some h = absurd (omega arith)
begins_so (d ∷ ds) some h = λ e. absurd (omega arith)

pub not_begun : (text : List ℕ) (begins : Bool) → (IsTrue begins ↔ Begins text) → begins ≡ false → (n : ℕ) → 1 ≤ n → n < 2 ^ 64 → text ≡ decimal n → ⊥
not_begun text begins tells fails n least few e =
    true≢false (sym (tells.1 (subst Begins (sym e) (begins_so (decimal n) (is_written n (omega (arith, few))).some (first_decimal n (omega arith) few)))) ∙ fails)

digits_whole : (text : List ℕ) (n : ℕ) → n < 2 ^ 64 → text ≡ decimal n → prefix_len is_digit text ≡ length text
digits_whole text n few e =
    let w = is_written n (omega arith) in
    ap (prefix_len is_digit) (e ∙ sym (append-nil (decimal n))) ∙ front_is (decimal n) [] w.digits refl ∙ ap (λ l. length l) (sym e)

pub not_digits : (text : List ℕ) (front : ℕ) → front ≡ prefix_len is_digit text → front < length text → (n : ℕ) → n < 2 ^ 64 → text ≡ decimal n → ⊥
not_digits text front is short n few e = let w = digits_whole text n few e in absurd (omega arith)

pub all_digits : (text : List ℕ) (front : ℕ) → front ≡ prefix_len is_digit text → length text ≤ front → IsTrue (list_all is_digit text)
all_digits text front is long =
    subst (λ t. list_all is_digit t ≡ true) (take_all (prefix_len is_digit text) text (omega arith)) (front_digits text)

pub not_so_many : (text : List ℕ) (above : ℕ) → above ≤ number 10 text → (n : ℕ) → n < above → n < 2 ^ 64 → text ≡ decimal n → ⊥
not_so_many text above h n low few e =
    let w = is_written n (omega (arith, few)) in
    let is : number 10 text ≡ n = ap (number 10) e ∙ w.spells in
    absurd (omega (arith, is, h, low))

pub too_many_told : (text : List ℕ) (k most : ℕ) → k ≡ number 10 text → most < k → (n : ℕ) → n ≤ most → n < 2 ^ 64 → text ≡ decimal n → ⊥
too_many_told text k most is above n low few e = not_so_many text k (omega (arith, is)) n (omega (arith, above, low)) few e

pub number_so : (text : List ℕ) (begins : Bool) (n most : ℕ) → most < 2 ^ 32 → (IsTrue begins ↔ Begins text) → begins ≡ true → IsTrue (list_all is_digit text) → n ≡ number 10 text → n ≤ most
    → (text ≡ decimal n) × (1 ≤ n) × (n ≤ most)
number_so text begins n m small tells holds digits is most = (spelled, some n (tells.0 holds) spelled, most)
  where
    first : (ds : List ℕ) → Begins ds → 0 < length ds
    first [] h = absurd h
    first (d ∷ ds) h = omega arith

    no_zero : (ds : List ℕ) → Begins ds → get_or ds 0 0 ≡ 48 → length ds ≡ 1
    no_zero [] h e = absurd h
    no_zero (d ∷ ds) h e = absurd (h e)

    spelled : text ≡ decimal n
    spelled =
        sym (decimal-digits_value numerals text digits (first text (tells.0 holds)) (no_zero text (tells.0 holds)) (omega (arith, is, most, small))) ∙ ap decimal (sym is)

    begun : (ds : List ℕ) → Begins ds → ds ≡ 48 ∷ [] → ⊥
    begun [] h e = h
    begun (d ∷ ds) h e = h (ap (λ l. get_or l 0 0) e)

    some : (k : ℕ) → Begins text → text ≡ decimal k → 1 ≤ k
    some zero h e = absurd (begun text h (e ∙ decimal_digit 0 (omega arith)))
    some (suc k) h e = omega arith

-- a number is told by how it is printed
pub decimal_once : (n m : ℕ) → n < 2 ^ 64 → m < 2 ^ 64 → decimal n ≡ decimal m → n ≡ m
decimal_once n m few also e = sym (is_written n (omega (arith, few))).spells ∙ ap (number 10) e ∙ (is_written m (omega (arith, also))).spells
