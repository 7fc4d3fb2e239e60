-- What the scanner finds at the front of the bytes, kind by kind.
use Rattle.std.proofs.Common.{◌≡◌, ◌≢◌, ℕ, zero, suc, ◌+◌, ◌-◌, ◌<◌, ◌≤◌, ◌^◌, List, [], ◌∷◌, ◌++◌, length, take, drop, get_or, refl, sym, ap, ◌∙◌, subst, ◌⊎◌}
use Rattle.std.proofs.Common.{inl, inr, Bool, true, false, cond, arith, ◌||◌, ◌==◌, nat_lt, ℤ, pos, neg_ℤ, unsigned_abs, Some, None, append_assoc, length-drop}
use Rattle.std.specs.List.{prefix_len}
use Rattle.std.proofs.lemmas.List.{take-append-drop, length-take-le, drop-drop}
use Rattle.std.proofs.lemmas.List.Sums.{prefix_len-le-length}
use Rattle.std.proofs.lemmas.Bool.Decides.{nat_tests}
use Rattle.std.proofs.lemmas.Bool.{false≢true}
use Rattle.type_kinds.specs.declared.place.Place.{Place}
use Rattle.core_scan.specs.declared.escapes.Escaped.{Escaped}
use Rattle.core_scan.specs.declared.token.TokenKind.{TokenKind}
use Rattle.core_scan.specs.declared.token.TokenKind.TheVariants.{Word, Variable, Integer, Float, Char, Atom, Text, Symbol}
use Rattle.core_scan.specs.declared.token.ScanFault.TheVariants.{BadByte, OpenQuote, BadEscape, WideInteger}
use Rattle.type_kinds.specs.Digits.{is_digit, number}
use Rattle.core_scan.specs.Bytes.{is_lower, is_name_byte, past}
use Rattle.core_scan.specs.Escapes.{AllOf, NoEscape, Inside, Quoted}
use Rattle.core_scan.specs.Spells.{IsName, is_variable_start, IsDigits, Sign, unsigned, plus, minus, sign_text, signed, is_bare, IsExponent, Spells, Longest, IsToken}
use Rattle.core_scan.specs.Vocabulary.{symbols, words, IsOneOf}
use Rattle.core_scan.specs.Lexed.{IsQuote, IsCutOff, NoToken, FaultAt, unknown_word, wide, open_quote, bad_escape, no_token}
use Rattle.core_scan.specs.steps.Fronts.{sign_len, exponent_len, fraction_len, is_symbol, is_single, is_pair, second_len, symbol_len, escape_of, IsStuck, is_cut_off}
use Rattle.core_scan.specs.steps.Found.{Begins, IsOther}
use Rattle.core_scan.proofs.RunLemmas.{take-run, take-add, or_cases, eq_from_test}
use Rattle.core_scan.proofs.Tables.{one_of_known}
use Rattle.core_scan.proofs.EscapeLemmas.{escape_found, IsEscapeAt}
use Rattle.core_scan.proofs.Reach.{at_lower, at_upper, at_digit, at_sign, at_quote, at_double, at_mark, class, class_lower, class_upper, class_digit, class_plus, class_minus, class_dollar, class_quote}
use Rattle.core_scan.proofs.Reach.{class_double, Starts, first_class, bounded, reach, number_len, number_some, number_none, symbol_len-two, char_len, behind_dollar, escape_size, lower_names, start_names}
use Rattle.core_scan.proofs.OnceLemmas.{longest_by, none_by, quoted_once}

begins_by : (bytes : List ℕ) (kind : TokenKind) (len : ℕ) → 0 < len → len ≤ length bytes → Spells kind (take len bytes) (drop len bytes) → reach (first_class bytes) bytes ≤ len → IsToken kind → Begins bytes kind len
begins_by bytes kind len some within spells far token =
    let size : length (take len bytes) ≡ len = length-take-le len bytes within in
    record { some = some; within = within; longest = longest_by bytes kind (take len bytes) (drop len bytes) (sym (take-append-drop len bytes)) spells (omega arith); token = token }

-- ---- words and variables

name_spelled : (first : ℕ → Bool) (bytes : List ℕ) → first 0 ≡ false → ((b : ℕ) → first b ≡ true → is_name_byte b ≡ true) → first (get_or bytes 0 0) ≡ true
    → IsName first (take (prefix_len is_name_byte bytes) bytes) × (0 < prefix_len is_name_byte bytes)
name_spelled first [] zero_no names h = cc
name_spelled first (b ∷ bs) zero_no names h =
    let is : is_name_byte b ≡ true = names b h in
    let more : 1 + prefix_len is_name_byte bs ≡ suc (prefix_len is_name_byte bs) = omega arith in
    rw (is, more) ((h, take-run is_name_byte (prefix_len is_name_byte bs) bs (omega arith)), omega arith)

module _ (bytes : List ℕ) (len : ℕ) (run : len ≡ prefix_len is_name_byte bytes) where
  word_longest : is_lower (get_or bytes 0 0) ≡ true → Longest bytes (Word (take len bytes)) (take len bytes) (drop len bytes) × (0 < len) × (len ≤ length bytes)
  unfolding reach
  word_longest h =
      let within : prefix_len is_name_byte bytes ≤ length bytes = prefix_len-le-length is_name_byte bytes in
      let size : length (take len bytes) ≡ len = length-take-le len bytes (omega arith) in
      let name : IsName is_lower (take (prefix_len is_name_byte bytes) bytes) × (0 < prefix_len is_name_byte bytes) = name_spelled is_lower bytes refl lower_names h in
      let e : first_class bytes ≡ at_lower = class_lower (get_or bytes 0 0) h in
      let far : reach (first_class bytes) bytes ≤ length (take len bytes) = rw e (omega arith) in
      (longest_by bytes (Word (take len bytes)) (take len bytes) (drop len bytes) (sym (take-append-drop len bytes)) (rw run name.0, refl) far, omega arith, omega arith)

  pub word_found : (w : List ℕ) → is_lower (get_or bytes 0 0) ≡ true → w ≡ take len bytes → IsOneOf words w → Begins bytes (Word w) len
  word_found w h is among =
      let longest : Longest bytes (Word (take len bytes)) (take len bytes) (drop len bytes) × (0 < len) × (len ≤ length bytes) = word_longest h in
      record { some = longest.1; within = longest.2; longest = rw is longest.0; token = among }

  pub word_unknown : (place : Place) → is_lower (get_or bytes 0 0) ≡ true → (IsOneOf words (take len bytes) → ⊥) → FaultAt place bytes (BadByte place)
  word_unknown place h unknown = unknown_word (take len bytes) (take len bytes) (drop len bytes) (word_longest h).0 unknown refl

  pub variable_found : (x : List ℕ) → is_variable_start (get_or bytes 0 0) ≡ true → x ≡ take len bytes → Begins bytes (Variable x) len
  unfolding reach
  variable_found x h is =
      let within : prefix_len is_name_byte bytes ≤ length bytes = prefix_len-le-length is_name_byte bytes in
      let name : IsName is_variable_start (take (prefix_len is_name_byte bytes) bytes) × (0 < prefix_len is_name_byte bytes) = name_spelled is_variable_start bytes refl start_names h in
      let e : first_class bytes ≡ at_upper = class_upper (get_or bytes 0 0) h in
      let far : reach (first_class bytes) bytes ≤ len = rw e (omega arith) in
      begins_by bytes (Variable x) len (omega arith) (omega arith) (rw run name.0, is) far tt

-- ---- numbers

digits_of : (digits : List ℕ) → AllOf is_digit digits → 0 < length digits → IsDigits digits
digits_of [] h some = omega arith
digits_of (d ∷ ds) h some = h

run_digits : (bytes : List ℕ) → 0 < prefix_len is_digit bytes → IsDigits (take (prefix_len is_digit bytes) bytes)
run_digits bytes some =
    let within : prefix_len is_digit bytes ≤ length bytes = prefix_len-le-length is_digit bytes in
    let size : length (take (prefix_len is_digit bytes) bytes) ≡ prefix_len is_digit bytes = length-take-le (prefix_len is_digit bytes) bytes within in
    digits_of (take (prefix_len is_digit bytes) bytes) (take-run is_digit (prefix_len is_digit bytes) bytes (omega arith)) (omega arith)

-- the sign at the front
record SignAt (bytes : List ℕ) : Type 0 where
  pub sign : Sign
  pub len : sign_len bytes ≡ length (sign_text sign)
  pub text : take (sign_len bytes) bytes ≡ sign_text sign
  pub bare : is_bare sign ≡ (sign_len bytes == 0)
  pub value : (m : ℕ) → signed sign m ≡ cond (get_or bytes 0 0 == 45) (neg_ℤ (pos m)) (pos m)
  pub starts : 0 < prefix_len is_digit (drop (sign_len bytes) bytes) → ((first_class bytes ≡ at_digit) × (sign_len bytes ≡ 0)) ⊎ ((first_class bytes ≡ at_sign) × (sign_len bytes ≡ 1))

sign_at : (bytes : List ℕ) → SignAt bytes
sign_at [] = record { sign = unsigned; len = refl; text = refl; bare = refl; value = λ m. refl; starts = λ h. absurd (omega arith) }
sign_at (b ∷ bs) = go (b == 43) refl (b == 45) refl
  where
    go : (p : Bool) → (b == 43) ≡ p → (q : Bool) → (b == 45) ≡ q → SignAt (b ∷ bs)
    go true is q js = let e : b ≡ 43 = eq_from_test b 43 is in rw e (record { sign = plus; len = refl; text = refl; bare = refl; value = λ m. refl; starts = λ h. inr (class_plus, refl) })
    go false is true js = let e : b ≡ 45 = eq_from_test b 45 js in rw e (record { sign = minus; len = refl; text = refl; bare = refl; value = λ m. refl; starts = λ h. inr (class_minus, refl) })
    go false is false js =
        let none : sign_len (b ∷ bs) ≡ 0 = rw (is, js) refl in
        record { sign = unsigned; len = none; text = rw none refl; bare = rw none refl; value = λ m. rw js refl; starts = λ h. inl (class_digit b (first_digit (is_digit b) refl none h), none) }
      where
        first_digit : (x : Bool) → is_digit b ≡ x → sign_len (b ∷ bs) ≡ 0 → 0 < prefix_len is_digit (drop (sign_len (b ∷ bs)) (b ∷ bs)) → is_digit b ≡ true
        first_digit true e none h = e
        first_digit false e none h = absurd (let k : 0 < prefix_len is_digit (b ∷ bs) = rw none at h in let l : 0 < 0 = rw e at k in omega arith)

exponent_front : (e : ℕ) (es : List ℕ) (n : ℕ) → prefix_len is_digit (drop (sign_len es) es) ≡ n → n ≢ 0 → (e ≡ 101) ⊎ (e ≡ 69) → IsExponent (take (1 + sign_len es + n) (e ∷ es))
exponent_front e es n run some is =
    let next : 1 + sign_len es + n ≡ suc (sign_len es + n) = omega arith in
    let front : take (sign_len es + n) es ≡ take (sign_len es) es ++ take n (drop (sign_len es) es) = take-add (sign_len es) n es in
    let digits : IsDigits (take (prefix_len is_digit (drop (sign_len es) es)) (drop (sign_len es) es)) = run_digits (drop (sign_len es) es) (omega arith) in
    rw next (is, (sign_at es).sign, take n (drop (sign_len es) es), rw (← run) digits, front ∙ ap (λ (l : List ℕ). l ++ take n (drop (sign_len es) es)) (sign_at es).text)

exponent_found : (bytes : List ℕ) → IsExponent (take (exponent_len bytes) bytes)
exponent_found [] = tt
exponent_found (e ∷ es) = go (e == 101 || e == 69) refl (prefix_len is_digit (drop (sign_len es) es) == 0) refl
  where
    go : (p : Bool) → (e == 101 || e == 69) ≡ p → (q : Bool) → (prefix_len is_digit (drop (sign_len es) es) == 0) ≡ q → IsExponent (take (exponent_len (e ∷ es)) (e ∷ es))
    go false is q js = rw is tt
    go true is true js = rw (is, js) tt
    go true is false js = rw (is, js) (exponent_front e es (prefix_len is_digit (drop (sign_len es) es)) refl (λ z. let k : (prefix_len is_digit (drop (sign_len es) es) == 0) ≡ true = rw z refl in false≢true (sym js ∙ k))
        (or_cases ((e ≡ 101) ⊎ (e ≡ 69)) (e == 101) (e == 69) (λ z. inl (eq_from_test e 101 z)) (λ z. inr (eq_from_test e 69 z)) is))

-- a point, digits and an exponent
record FractionAt (bytes : List ℕ) : Type 0 where
  pub part : List ℕ
  pub exponent : List ℕ
  pub digits : IsDigits part
  pub ends : IsExponent exponent
  pub text : take (fraction_len bytes) bytes ≡ 46 ∷ (part ++ exponent)

fraction_at : (bytes : List ℕ) → 0 < fraction_len bytes → FractionAt bytes
fraction_at [] some = absurd (omega arith)
fraction_at (b ∷ bs) some = go (b == 46) refl (prefix_len is_digit bs == 0) refl
  where
    go : (p : Bool) → (b == 46) ≡ p → (q : Bool) → (prefix_len is_digit bs == 0) ≡ q → FractionAt (b ∷ bs)
    go false is q js = absurd (let k : 0 < 0 = rw is at some in omega arith)
    go true is true js = absurd (let k : 0 < 0 = rw (is, js) at some in omega arith)
    go true is false js =
        let run : ℕ = prefix_len is_digit bs in
        let positive : 0 < prefix_len is_digit bs = grind (arith, nat_tests) in
        let size : fraction_len (b ∷ bs) ≡ suc (prefix_len is_digit bs + exponent_len (drop (prefix_len is_digit bs) bs)) = rw (is, js) (omega arith) in
        record {
          part = take (prefix_len is_digit bs) bs;
          exponent = take (exponent_len (drop (prefix_len is_digit bs) bs)) (drop (prefix_len is_digit bs) bs);
          digits = run_digits bs positive;
          ends = exponent_found (drop (prefix_len is_digit bs) bs);
          text = ap (λ n. take n (b ∷ bs)) size ∙ ap (λ (l : List ℕ). b ∷ l) (take-add (prefix_len is_digit bs) (exponent_len (drop (prefix_len is_digit bs) bs)) bs)
              ∙ ap (λ n. n ∷ (take (prefix_len is_digit bs) bs ++ take (exponent_len (drop (prefix_len is_digit bs) bs)) (drop (prefix_len is_digit bs) bs))) (eq_from_test b 46 is);
        }

abs_signed : (s : Sign) (m : ℕ) → unsigned_abs (signed s m) ≡ m
abs_signed unsigned m = refl
abs_signed plus m = refl
abs_signed minus zero = refl
abs_signed minus (suc m) = refl

module _ (bytes : List ℕ) (sign whole : ℕ) (signs : sign ≡ sign_len bytes) (run : whole ≡ prefix_len is_digit (drop sign bytes)) (some : 0 < whole) where
  number_size : number_len bytes ≡ sign + whole + fraction_len (drop (sign + whole) bytes)
  number_size =
      let same : prefix_len is_digit (drop (sign_len bytes) bytes) ≡ whole = ap (λ n. prefix_len is_digit (drop n bytes)) (sym signs) ∙ sym run in
      number_some bytes (omega arith) ∙ ap (λ n. sign_len bytes + n + fraction_len (drop (sign_len bytes + n) bytes)) same ∙ ap (λ n. n + whole + fraction_len (drop (n + whole) bytes)) (sym signs)

  number_within : (sign + whole ≤ length bytes) × (sign ≤ 1)
  number_within =
      let few : prefix_len is_digit (drop sign bytes) ≤ length (drop sign bytes) = prefix_len-le-length is_digit (drop sign bytes) in
      let size : length (drop sign bytes) ≡ length bytes - sign = length-drop sign bytes in
      (omega arith, rw signs (short (sign_at bytes).sign (sign_at bytes).len))
    where
      short : (s : Sign) → sign_len bytes ≡ length (sign_text s) → sign_len bytes ≤ 1
      short unsigned e = omega arith
      short plus e = omega arith
      short minus e = omega arith

  number_far : (len : ℕ) → len ≡ sign + whole + fraction_len (drop (sign + whole) bytes) → reach (first_class bytes) bytes ≤ len
  unfolding reach
  number_far len is =
      let size : number_len bytes ≡ sign + whole + fraction_len (drop (sign + whole) bytes) = number_size in
      let two : symbol_len bytes ≤ 2 = symbol_len-two bytes in
      go ((sign_at bytes).starts (rw (← signs, ← run) some))
    where
      go : ((first_class bytes ≡ at_digit) × (sign_len bytes ≡ 0)) ⊎ ((first_class bytes ≡ at_sign) × (sign_len bytes ≡ 1)) → reach (first_class bytes) bytes ≤ len
      go (inl (e, _)) = let size : number_len bytes ≡ sign + whole + fraction_len (drop (sign + whole) bytes) = number_size in rw e (omega arith)
      go (inr (e, one)) = let size : number_len bytes ≡ sign + whole + fraction_len (drop (sign + whole) bytes) = number_size in let two : symbol_len bytes ≤ 2 = symbol_len-two bytes in rw e (omega arith)

  front_text : take (sign + whole) bytes ≡ sign_text (sign_at bytes).sign ++ take whole (drop sign bytes)
  front_text = take-add sign whole bytes ∙ ap (λ (l : List ℕ). l ++ take whole (drop sign bytes)) (ap (λ n. take n bytes) signs ∙ (sign_at bytes).text)

  whole_digits : IsDigits (take whole (drop sign bytes))
  whole_digits = let h : IsDigits (take (prefix_len is_digit (drop sign bytes)) (drop sign bytes)) = run_digits (drop sign bytes) (omega arith) in rw run h

  integer_longest : (n : ℤ) (bare : Bool) → fraction_len (drop (sign + whole) bytes) ≡ 0 → n ≡ signed (sign_at bytes).sign (number 10 (take whole (drop sign bytes))) → bare ≡ (sign == 0)
      → Longest bytes (Integer n bare) (take (sign + whole) bytes) (drop (sign + whole) bytes)
  integer_longest n bare none value is =
      let size : length (take (sign + whole) bytes) ≡ sign + whole = length-take-le (sign + whole) bytes number_within.0 in
      let far : reach (first_class bytes) bytes ≤ length (take (sign + whole) bytes) = rw size (number_far (sign + whole) (omega arith)) in
      longest_by bytes (Integer n bare) (take (sign + whole) bytes) (drop (sign + whole) bytes) (sym (take-append-drop (sign + whole) bytes))
      ((sign_at bytes).sign, take whole (drop sign bytes), whole_digits, front_text, value, is ∙ ap (λ n. n == 0) signs ∙ sym (sign_at bytes).bare) far

  pub integer_found : (n : ℤ) (bare : Bool) (m : ℕ) → fraction_len (drop (sign + whole) bytes) ≡ 0 → m ≡ number 10 (take whole (drop sign bytes)) → m < 2 ^ 127 → n ≡ cond (get_or bytes 0 0 == 45) (neg_ℤ (pos m)) (pos m)
      → bare ≡ (sign == 0) → Begins bytes (Integer n bare) (sign + whole)
  integer_found n bare m none is narrow value flag =
      let worth : n ≡ signed (sign_at bytes).sign m = value ∙ sym ((sign_at bytes).value m) in
      let size : unsigned_abs n ≡ m = ap unsigned_abs worth ∙ abs_signed (sign_at bytes).sign m in
      record { some = omega arith; within = number_within.0; longest = integer_longest n bare none (worth ∙ ap (λ k. signed (sign_at bytes).sign k) is) flag; token = rw size narrow }

  pub integer_wide : (place : Place) → fraction_len (drop (sign + whole) bytes) ≡ 0 → 2 ^ 127 ≤ number 10 (take whole (drop sign bytes)) → FaultAt place bytes (WideInteger place)
  integer_wide place none far =
      let n : ℤ = signed (sign_at bytes).sign (number 10 (take whole (drop sign bytes))) in
      let size : unsigned_abs (signed (sign_at bytes).sign (number 10 (take whole (drop sign bytes)))) ≡ number 10 (take whole (drop sign bytes)) = abs_signed (sign_at bytes).sign (number 10 (take whole (drop sign bytes))) in
      wide (signed (sign_at bytes).sign (number 10 (take whole (drop sign bytes)))) (sign == 0) (take (sign + whole) bytes) (drop (sign + whole) bytes)
      (integer_longest (signed (sign_at bytes).sign (number 10 (take whole (drop sign bytes)))) (sign == 0) none refl refl) (rw size far) refl

  pub float_found : (s : List ℕ) (fraction : ℕ) → fraction ≡ fraction_len (drop (sign + whole) bytes) → 0 < fraction → fraction ≤ length (drop (sign + whole) bytes) → s ≡ take (sign + whole + fraction) bytes
      → Begins bytes (Float s) (sign + whole + fraction)
  float_found s fraction is more within text =
      let at : FractionAt (drop (sign + whole) bytes) = fraction_at (drop (sign + whole) bytes) (omega arith) in
      let size : length (drop (sign + whole) bytes) ≡ length bytes - (sign + whole) = length-drop (sign + whole) bytes in
      let front : take (sign + whole + fraction) bytes ≡ (sign_text (sign_at bytes).sign ++ take whole (drop sign bytes)) ++ (46 ∷ (at.part ++ at.exponent)) =
      take-add (sign + whole) fraction bytes ∙ ap (λ (l : List ℕ). l ++ take fraction (drop (sign + whole) bytes)) front_text
      ∙ ap (λ (l : List ℕ). (sign_text (sign_at bytes).sign ++ take whole (drop sign bytes)) ++ l) (ap (λ n. take n (drop (sign + whole) bytes)) is ∙ at.text) in
      let grouped : (sign_text (sign_at bytes).sign ++ take whole (drop sign bytes)) ++ (46 ∷ (at.part ++ at.exponent)) ≡ sign_text (sign_at bytes).sign ++ take whole (drop sign bytes) ++ 46 ∷ at.part ++ at.exponent =
      sym (append_assoc (sign_text (sign_at bytes).sign ++ take whole (drop sign bytes)) (46 ∷ at.part) at.exponent) in
      begins_by bytes (Float s) (sign + whole + fraction) (omega arith) (omega arith)
      (((sign_at bytes).sign, take whole (drop sign bytes), at.part, at.exponent, whole_digits, at.digits, at.ends, front ∙ grouped), text)
      (number_far (sign + whole + fraction) (omega arith)) tt

-- ---- characters

-- the first byte apart
pub opened : (bytes rest : List ℕ) (b : ℕ) → get_or bytes 0 0 ≡ b → 0 < b → drop 1 bytes ≡ rest → bytes ≡ b ∷ rest
opened [] rest b first some behind = absurd (omega arith)
opened (x ∷ xs) rest b first some behind = cc

module _ (bytes after : List ℕ) (first : ℕ) (whole : bytes ≡ 36 ∷ first ∷ after) where
  char_far : (n : ℕ) → behind_dollar (first ∷ after) ≤ n → reach (first_class bytes) bytes ≤ n
  unfolding reach char_len
  char_far n far = rw (whole, class_dollar) far

  pub plain_found : 32 ≤ first → first ≢ 127 → first ≢ 92 → Begins bytes (Char first) 2
  unfolding behind_dollar
  plain_found low no_delete no_backslash =
      let no : (first == 92) ≡ false = grind (arith, nat_tests) in
      let yes : (nat_lt first 32 || first == 127) ≡ false = grind (arith, nat_tests) in
      let size : length bytes ≡ suc (suc (length after)) = ap length whole in
      begins_by bytes (Char first) 2 (omega arith) (omega arith) (inl (ap (take 2) whole, low, no_delete, no_backslash)) (char_far 2 (rw (no, yes) (omega arith))) tt

  pub escaped_found : (e : Escaped) → first ≡ 92 → escape_of after ≡ Some e → Begins bytes (Char e.value) (2 + e.len)
  unfolding behind_dollar escape_size
  escaped_found e is found =
      let at : IsEscapeAt after e = escape_found after e found in
      let size : length bytes ≡ suc (suc (length after)) = ap length whole in
      let next : 2 + e.len ≡ suc (suc e.len) = omega arith in
      let within : e.len ≤ length after = at.1 in
      let front : take (2 + e.len) bytes ≡ 36 ∷ 92 ∷ take e.len after = ap (λ n. take n bytes) next ∙ ap (take (suc (suc e.len))) whole ∙ ap (λ x. 36 ∷ x ∷ take e.len after) is in
      let behind : drop (2 + e.len) bytes ≡ drop e.len after = ap (λ n. drop n bytes) next ∙ ap (drop (suc (suc e.len))) whole in
      begins_by bytes (Char e.value) (2 + e.len) (omega arith) (omega arith) (inr (take e.len after, front, rw behind at.0)) (char_far (2 + e.len) (rw (is, found) (omega arith))) tt

  no_char : (place : Place) → behind_dollar (first ∷ after) ≡ 0 → FaultAt place bytes (BadByte place)
  no_char place none = no_token 36 (first ∷ after) whole refl (λ e. omega arith) (λ e. omega arith) (λ e. omega arith) (none_by bytes (let far : reach (first_class bytes) bytes ≤ 0 = char_far 0 (omega arith) in omega arith)) refl

  pub no_plain : (place : Place) → first ≢ 92 → (first < 32) ⊎ (first ≡ 127) → FaultAt place bytes (BadByte place)
  unfolding behind_dollar
  no_plain place no_backslash is =
      let no : (first == 92) ≡ false = grind (arith, nat_tests) in
      let yes : (nat_lt first 32 || first == 127) ≡ true = test is in
      no_char place (rw (no, yes) refl)
    where
      test : (first < 32) ⊎ (first ≡ 127) → (nat_lt first 32 || first == 127) ≡ true
      test (inl low) = let k : nat_lt first 32 ≡ true = grind (arith, nat_tests) in rw k refl
      test (inr e) = rw e refl

  pub no_escaped : (place : Place) → first ≡ 92 → escape_of after ≡ None → FaultAt place bytes (BadByte place)
  unfolding behind_dollar escape_size
  no_escaped place is none = no_char place (rw (is, none) refl)

pub no_byte : (place : Place) (bytes : List ℕ) → bytes ≡ 36 ∷ [] → FaultAt place bytes (BadByte place)
unfolding reach char_len behind_dollar
no_byte place bytes whole = no_token 36 [] whole refl (λ e. omega arith) (λ e. omega arith) (λ e. omega arith) (none_by bytes (rw (whole, class_dollar) refl)) refl

-- ---- quotes

atom_only : (other : TokenKind) → Starts other at_quote → (x : List ℕ) × (other ≡ Atom x)
atom_only (Word w) h = cc
atom_only (Variable w) h = cc
atom_only (Integer n b) (inl h) = cc
atom_only (Integer n b) (inr h) = cc
atom_only (Float w) (inl h) = cc
atom_only (Float w) (inr h) = cc
atom_only (Char c) h = cc
atom_only (Atom x) h = (x, refl)
atom_only (Text x) h = cc
atom_only (Symbol s) (inl h) = cc
atom_only (Symbol s) (inr h) = cc

text_only : (other : TokenKind) → Starts other at_double → (x : List ℕ) × (other ≡ Text x)
text_only (Word w) h = cc
text_only (Variable w) h = cc
text_only (Integer n b) (inl h) = cc
text_only (Integer n b) (inr h) = cc
text_only (Float w) (inl h) = cc
text_only (Float w) (inr h) = cc
text_only (Char c) h = cc
text_only (Atom x) h = cc
text_only (Text x) h = (x, refl)
text_only (Symbol s) (inl h) = cc
text_only (Symbol s) (inr h) = cc

-- what a quote begins is in quotes
pub quoted_only : (q : ℕ) (cs : List ℕ) (other : TokenKind) (more after : List ℕ) → IsQuote q → more ++ after ≡ q ∷ cs → Spells other more after → (x : List ℕ) × Quoted q x more after
quoted_only q cs other more after (inl is) whole spelled =
    let starts : Starts other (first_class (more ++ after)) = (bounded other more after spelled).0 in
    let first : first_class (more ++ after) ≡ at_quote = ap first_class whole ∙ ap class is ∙ class_quote in
    let found : (x : List ℕ) × (other ≡ Atom x) = atom_only other (rw first at starts) in
    let spells : Spells (Atom found.0) more after = subst (λ (k : TokenKind). Spells k more after) found.1 spelled in
    (found.0, subst (λ (k : ℕ). Quoted k found.0 more after) (sym is) spells)
quoted_only q cs other more after (inr is) whole spelled =
    let starts : Starts other (first_class (more ++ after)) = (bounded other more after spelled).0 in
    let first : first_class (more ++ after) ≡ at_double = ap first_class whole ∙ ap class is ∙ class_double in
    let found : (x : List ℕ) × (other ≡ Text x) = text_only other (rw first at starts) in
    let spells : Spells (Text found.0) more after = subst (λ (k : TokenKind). Spells k more after) found.1 spelled in
    (found.0, subst (λ (k : ℕ). Quoted k found.0 more after) (sym is) spells)

pub quote_some : (bytes : List ℕ) → IsQuote (get_or bytes 0 0) → bytes ≡ get_or bytes 0 0 ∷ drop 1 bytes
quote_some [] (inl is) = absurd (omega arith)
quote_some [] (inr is) = absurd (omega arith)
quote_some (b ∷ bs) h = refl

pub quote_apart : (q : ℕ) → IsQuote q → q ≢ 92
quote_apart q (inl is) e = omega arith
quote_apart q (inr is) e = omega arith

module _ (bytes rest text : List ℕ) (q n : ℕ) (whole : bytes ≡ q ∷ rest) (quote : IsQuote q) (within : n ≤ length rest) (inside : Inside q (take n rest) text (drop n rest)) where
  module _ (after : List ℕ) (closed : drop n rest ≡ q ∷ after) where
    closed_size : suc n ≤ length rest
    closed_size = let size : length (drop n rest) ≡ length rest - n = length-drop n rest in let some : length (drop n rest) ≡ suc (length after) = ap length closed in omega arith

    closed_front : take (1 + n + 1) bytes ≡ q ∷ take n rest ++ q ∷ []
    closed_front =
        let next : 1 + n + 1 ≡ suc (n + 1) = omega arith in
        ap (λ k. take k bytes) next ∙ ap (take (suc (n + 1))) whole ∙ ap (λ (l : List ℕ). q ∷ l) (take-add n 1 rest ∙ ap (λ (l : List ℕ). take n rest ++ take 1 l) closed)

    closed_rest : drop (1 + n + 1) bytes ≡ after
    closed_rest =
        let next : 1 + n + 1 ≡ suc (n + 1) = omega arith in
        ap (λ k. drop k bytes) next ∙ ap (drop (suc (n + 1))) whole ∙ sym (drop-drop 1 n rest) ∙ ap (drop 1) closed

    closed_quoted : Quoted q text (take (1 + n + 1) bytes) (drop (1 + n + 1) bytes)
    closed_quoted = (take n rest, closed_front, rw closed_rest (rw closed at inside))

    closed_longest : (kind : TokenKind) → Spells kind (take (1 + n + 1) bytes) (drop (1 + n + 1) bytes) → Longest bytes kind (take (1 + n + 1) bytes) (drop (1 + n + 1) bytes)
    closed_longest kind spells = record {
      splits = sym (take-append-drop (1 + n + 1) bytes);
      spells = spells;
      longest = λ other more behind is spelled. (
          let found : (x : List ℕ) × Quoted q x more behind = quoted_only q rest other more behind quote (sym is ∙ whole) spelled in
          let same : (take (1 + n + 1) bytes ≡ more) × (text ≡ found.0) = quoted_once q text found.0 (take (1 + n + 1) bytes) (drop (1 + n + 1) bytes) more behind (quote_apart q quote) closed_quoted found.1
          (take-append-drop (1 + n + 1) bytes ∙ is) in
          let size : length (take (1 + n + 1) bytes) ≡ length more = ap length same.0 in omega arith);
    }

    quoted_found : (kind : TokenKind) → IsToken kind → Spells kind (take (1 + n + 1) bytes) (drop (1 + n + 1) bytes) → Begins bytes kind (1 + n + 1)
    quoted_found kind token spells =
        let size : length bytes ≡ suc (length rest) = ap length whole in
        let few : suc n ≤ length rest = closed_size in
        record { some = omega arith; within = omega arith; longest = closed_longest kind spells; token = token }

    pub atom_found : q ≡ 39 → Begins bytes (Atom text) (1 + n + 1)
    atom_found is = quoted_found (Atom text) tt (rw is at closed_quoted)

    pub text_found : q ≢ 39 → Begins bytes (Text text) (1 + n + 1)
    text_found apart = quoted_found (Text text) tt (rw (double quote) at closed_quoted)
      where
        double : IsQuote q → q ≡ 34
        double (inl is) = absurd (apart is)
        double (inr is) = is

  opened_at : bytes ≡ q ∷ take n rest ++ drop n rest
  opened_at = whole ∙ ap (λ (l : List ℕ). q ∷ l) (sym (take-append-drop n rest))

  pub left_open : (place : Place) → drop n rest ≡ [] → FaultAt place bytes (OpenQuote place)
  left_open place ends = open_quote q (take n rest) text [] quote (opened_at ∙ ap (λ (l : List ℕ). q ∷ take n rest ++ l) ends) (rw ends at inside) (inl refl) refl

  -- a backslash that begins no escape
  pub stuck_fault : (place : Place) (end : ℕ) (after : List ℕ) → drop n rest ≡ end ∷ after → IsStuck q (drop n rest) → end ≢ q
      → FaultAt place bytes (cond (is_cut_off after) (OpenQuote place) (BadEscape (past place (take (1 + n) bytes))))
  stuck_fault place end after ends stuck no_quote = go (is_cut_off after) refl (backslash (rw ends at stuck))
    where
      backslash : (end ≡ q) ⊎ ((end ≡ 92) × NoEscape after) → (end ≡ 92) × NoEscape after
      backslash (inl is) = absurd (no_quote is)
      backslash (inr h) = h

      cut_off : (l : List ℕ) → is_cut_off l ≡ true → IsCutOff (92 ∷ l)
      cut_off [] e = inr (inl refl)
      cut_off (b ∷ []) e = inr (inr (ap (λ x. 92 ∷ x ∷ []) (eq_from_test b 94 e)))
      cut_off (b ∷ c ∷ bs) e = cc

      whole_off : (l : List ℕ) → is_cut_off l ≡ false → IsCutOff (92 ∷ l) → ⊥
      whole_off l e (inl is) = let sizes : suc (length l) ≡ 0 = ap length is in omega arith
      whole_off l e (inr (inl is)) = let none : l ≡ [] = ap (drop 1) is in false≢true (sym e ∙ ap is_cut_off none)
      whole_off l e (inr (inr is)) = let one : l ≡ 94 ∷ [] = ap (drop 1) is in false≢true (sym e ∙ ap is_cut_off one)

      front : take (1 + n) bytes ≡ q ∷ take n rest
      front = let next : 1 + n ≡ suc n = omega arith in ap (λ k. take k bytes) next ∙ ap (take (suc n)) whole

      go : (b : Bool) → is_cut_off after ≡ b → (end ≡ 92) × NoEscape after → FaultAt place bytes (cond b (OpenQuote place) (BadEscape (past place (take (1 + n) bytes))))
      go true e (is, none) = open_quote q (take n rest) text (92 ∷ after) quote (opened_at ∙ ap (λ (l : List ℕ). q ∷ take n rest ++ l) (ends ∙ ap (λ x. x ∷ after) is)) (rw (ends, is) at inside) (cut_off after e) refl
      go false e (is, none) = bad_escape q (take n rest) text after quote (opened_at ∙ ap (λ (l : List ℕ). q ∷ take n rest ++ l) (ends ∙ ap (λ x. x ∷ after) is)) (rw (ends, is) at inside) none (whole_off after e)
          (ap (λ (l : List ℕ). BadEscape (past place l)) front)

-- ---- symbols

symbol_one : (x : List ℕ) → is_symbol x ≡ true → IsOneOf symbols x
unfolding is_symbol
symbol_one x h = one_of_known symbols x h

symbol_spelled : (bytes : List ℕ) → 0 < symbol_len bytes → IsOneOf symbols (take (symbol_len bytes) bytes)
symbol_spelled [] some = absurd (omega arith)
symbol_spelled (a ∷ bs) some = go bs (is_single a) refl some
  where
    go : (more : List ℕ) (p : Bool) → is_single a ≡ p → 0 < second_len a more → IsOneOf symbols (take (second_len a more) (a ∷ more))
    go [] true e h = rw e (symbol_one (a ∷ []) e)
    go [] false e h = absurd (let k : 0 < 0 = rw e at h in omega arith)
    go (b ∷ more) p e h = pick (is_pair a b) refl p e h
      where
        pick : (x : Bool) → is_pair a b ≡ x → (y : Bool) → is_single a ≡ y → 0 < second_len a (b ∷ more) → IsOneOf symbols (take (second_len a (b ∷ more)) (a ∷ b ∷ more))
        pick true f y g k = rw f (symbol_one (a ∷ b ∷ []) f)
        pick false f true g k = rw (f, g) (symbol_one (a ∷ []) g)
        pick false f false g k = absurd (let l : 0 < 0 = rw (f, g) at k in omega arith)

class_other : (b : ℕ) → IsOther b → (class b ≡ at_digit) ⊎ (class b ≡ at_sign) ⊎ (class b ≡ at_mark)
unfolding class
class_other b o = go (is_digit b) refl (b == 43 || b == 45) refl
  where
    no : (k : ℕ) → b ≢ k → (b == k) ≡ false
    no k apart = grind (arith, nat_tests)

    go : (p : Bool) → is_digit b ≡ p → (q : Bool) → (b == 43 || b == 45) ≡ q → (class b ≡ at_digit) ⊎ (class b ≡ at_sign) ⊎ (class b ≡ at_mark)
    go true e q f = inl (rw (o.no_word, o.no_variable, e) refl)
    go false e true f = inr (inl (rw (o.no_word, o.no_variable, e, f) refl))
    go false e false f = inr (inr (rw (o.no_word, o.no_variable, e, f, no 36 o.no_character, no 39 o.no_atom, no 34 o.no_text, o.no_blank, no 37 o.no_comment) refl))

module _ (bytes : List ℕ) (other : IsOther (get_or bytes 0 0)) (no_number : prefix_len is_digit (drop (sign_len bytes) bytes) ≡ 0) where
  symbol_far : reach (first_class bytes) bytes ≤ symbol_len bytes
  unfolding reach
  symbol_far = go (class_other (get_or bytes 0 0) other)
    where
      go : (first_class bytes ≡ at_digit) ⊎ (first_class bytes ≡ at_sign) ⊎ (first_class bytes ≡ at_mark) → reach (first_class bytes) bytes ≤ symbol_len bytes
      go (inl e) = let none : number_len bytes ≡ 0 = number_none bytes no_number in rw e (omega arith)
      go (inr (inl e)) = let none : number_len bytes ≡ 0 = number_none bytes no_number in rw e (omega arith)
      go (inr (inr e)) = rw e (omega arith)

  pub symbol_found : (s : List ℕ) (len : ℕ) → len ≡ symbol_len bytes → 0 < len → len ≤ length bytes → s ≡ take len bytes → Begins bytes (Symbol s) len
  symbol_found s len is some within text = let far : reach (first_class bytes) bytes ≤ symbol_len bytes = symbol_far in begins_by bytes (Symbol s) len some within (rw is (symbol_spelled bytes (omega arith)), text) (omega arith) tt

  pub symbol_none : (place : Place) → 0 < length bytes → symbol_len bytes ≡ 0 → FaultAt place bytes (BadByte place)
  symbol_none place some none = let far : reach (first_class bytes) bytes ≤ symbol_len bytes = symbol_far in go bytes refl some other (none_by bytes (omega arith))
    where
      go : (l : List ℕ) → bytes ≡ l → 0 < length l → IsOther (get_or l 0 0) → NoToken bytes → FaultAt place bytes (BadByte place)
      go [] e h o nothing = absurd (omega arith)
      go (b ∷ bs) e h o nothing = no_token b bs e o.no_blank o.no_comment o.no_atom o.no_text nothing refl
