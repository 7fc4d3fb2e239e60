-- Bytes have tokens or a first fault.
use Rattle.std.proofs.Common.{◌≡◌, ◌≢◌, ℕ, zero, suc, ◌+◌, ◌-◌, ◌<◌, ◌≤◌, ◌^◌, List, [], ◌∷◌, ◌++◌, length, take, drop, get_or, refl, sym, ap}
use Rattle.std.proofs.Common.{◌∙◌, subst, ◌⊎◌, inl, inr, Bool, true, false, cond, arith, ◌||◌, ◌==◌, pos, neg_ℤ, Option, Some, None, length-drop}
use Rattle.std.specs.List.{prefix_len}
use Rattle.std.proofs.lemmas.List.{take-append-drop, drop-drop}
use Rattle.std.proofs.lemmas.List.Sums.{prefix_len-le-length}
use Rattle.std.proofs.lemmas.Bool.{false≢true, cases_lt}
use Rattle.std.proofs.lemmas.Bool.Decides.{nat_tests}
use Rattle.type_kinds.specs.declared.place.Place.{Place}
use Rattle.core_scan.specs.declared.token.Token.{Token}
use Rattle.core_scan.specs.declared.token.TokenKind.{TokenKind}
use Rattle.core_scan.specs.declared.token.TokenKind.TheVariants.{Word, Variable, Integer, Float, Char, Atom, Text, Symbol}
use Rattle.core_scan.specs.declared.token.ScanFault.{ScanFault}
use Rattle.core_scan.specs.declared.token.ScanFault.TheVariants.{BadByte, OpenQuote, BadEscape, WideInteger}
use Rattle.type_kinds.specs.Digits.{is_digit, number}
use Rattle.core_scan.specs.Bytes.{is_lower, is_name_byte, is_blank, is_no_line_feed, past}
use Rattle.core_scan.specs.Escapes.{Inside, nothing}
use Rattle.core_scan.specs.Spells.{is_variable_start}
use Rattle.core_scan.specs.Vocabulary.{words, IsOneOf}
use Rattle.core_scan.specs.Lexed.{here, Lexed, IsQuote, FaultAt, FirstFault}
use Rattle.core_scan.specs.steps.Fronts.{sign_len, exponent_len, fraction_len, is_single, is_pair, symbol_len, escape_of, IsStuck, is_cut_off}
use Rattle.core_scan.specs.steps.Found.{Begins, IsOther, GoesOn}
use Rattle.core_scan.proofs.RunLemmas.{take-add, eq_from_test}
use Rattle.core_scan.proofs.Tables.{one_or_none}
use Rattle.core_scan.proofs.EscapeLemmas.{escape_found, IsEscapeAt}
use Rattle.core_scan.proofs.InsideLemmas.{Inside-append, plain_step, escape_step, stuck_backslash}
use Rattle.core_scan.proofs.ShapeLemmas.{word_found, word_unknown, variable_found, float_found, integer_found, integer_wide, no_byte, no_escaped}
use Rattle.core_scan.proofs.ShapeLemmas.{escaped_found, plain_found, no_plain, left_open, stuck_fault, atom_found, text_found, symbol_found, symbol_none}
use Rattle.core_scan.proofs.PassLemmas.{passes_append, blank_step, comment_step, token_step}

-- what is at the front of the bytes
Front : Place → List ℕ → Type 0
Front place bytes = ((kind : TokenKind) × (len : ℕ) × Begins bytes kind len) ⊎ ((fault : ScanFault) × FaultAt place bytes fault)

token_front : (place : Place) (bytes : List ℕ) (kind : TokenKind) (len : ℕ) → Begins bytes kind len → Front place bytes
unfolding Front
token_front place bytes kind len h = inl (kind, len, h)

fault_front : (place : Place) (bytes : List ℕ) (fault : ScanFault) → FaultAt place bytes fault → Front place bytes
unfolding Front
fault_front place bytes fault h = inr (fault, h)

-- a test that is made both ways
by_test : {A : Type 0} (b : Bool) → (b ≡ true → A) → (b ≡ false → A) → A
by_test true f g = f refl
by_test false f g = g refl

by_option : {A X : Type 0} (o : Option X) → (o ≡ None → A) → ((x : X) → o ≡ Some x → A) → A
by_option None f g = f refl
by_option (Some x) f g = g x refl

no_test : (a b : ℕ) → (a == b) ≡ false → a ≢ b
no_test a b h e = let k : (a == b) ≡ true = grind (arith, nat_tests) in false≢true (sym h ∙ k)

-- ---- words

word_front : (place : Place) (bytes : List ℕ) → is_lower (get_or bytes 0 0) ≡ true → Front place bytes
word_front place bytes h = go (one_or_none words (take (prefix_len is_name_byte bytes) bytes))
  where
    word : List ℕ
    word = take (prefix_len is_name_byte bytes) bytes

    go : IsOneOf words word ⊎ (IsOneOf words word → ⊥) → Front place bytes
    go (inl among) = token_front place bytes (Word word) (prefix_len is_name_byte bytes) (word_found bytes (prefix_len is_name_byte bytes) refl word h refl among)
    go (inr none) = fault_front place bytes (BadByte place) (word_unknown bytes (prefix_len is_name_byte bytes) refl place h none)

-- ---- characters

char_front : (place : Place) (rest : List ℕ) → Front place (36 ∷ rest)
char_front place [] = fault_front place (36 ∷ []) (BadByte place) (no_byte place (36 ∷ []) refl)
char_front place (first ∷ after) =
    by_test (first == 92)
    (λ e. by_option (escape_of after)
    (λ none. fault_front place (36 ∷ first ∷ after) (BadByte place) (no_escaped (36 ∷ first ∷ after) after first refl place (eq_from_test first 92 e) none))
    (λ x found. token_front place (36 ∷ first ∷ after) (Char x.value) (2 + x.len) (escaped_found (36 ∷ first ∷ after) after first refl x (eq_from_test first 92 e) found)))
    (λ e. low (cases_lt first 32) (no_test first 92 e))
  where
    low : (first < 32) ⊎ (32 ≤ first) → first ≢ 92 → Front place (36 ∷ first ∷ after)
    low (inl less) apart = fault_front place (36 ∷ first ∷ after) (BadByte place) (no_plain (36 ∷ first ∷ after) after first refl place apart (inl less))
    low (inr more) apart =
        by_test (first == 127)
        (λ e. fault_front place (36 ∷ first ∷ after) (BadByte place) (no_plain (36 ∷ first ∷ after) after first refl place apart (inr (eq_from_test first 127 e))))
        (λ e. token_front place (36 ∷ first ∷ after) (Char first) 2 (plain_found (36 ∷ first ∷ after) after first refl more (no_test first 127 e) apart))

-- ---- quotes

-- how far a text between quotes goes
record Reads (q : ℕ) (bytes : List ℕ) : Type 0 where
  pub len : ℕ
  pub text : List ℕ
  pub within : len ≤ length bytes
  pub inside : Inside q (take len bytes) text (drop len bytes)
  pub stuck : IsStuck q (drop len bytes)

reads_none : (q : ℕ) (bytes : List ℕ) → IsStuck q bytes → Reads q bytes
reads_none q bytes h = record { len = 0; text = []; within = omega arith; inside = nothing refl refl; stuck = h }

reads_more : (q : ℕ) (bytes : List ℕ) (len v : ℕ) → len ≤ length bytes → Inside q (take len bytes) (v ∷ []) (drop len bytes) → Reads q (drop len bytes) → Reads q bytes
reads_more q bytes len v within step more =
    let behind : drop more.len (drop len bytes) ≡ drop (len + more.len) bytes = drop-drop more.len len bytes in
    let front : take (len + more.len) bytes ≡ take len bytes ++ take more.len (drop len bytes) = take-add len more.len bytes in
    let size : length (drop len bytes) ≡ length bytes - len = length-drop len bytes in
    let few : more.len ≤ length (drop len bytes) = more.within in
    record {
      len = len + more.len;
      text = (v ∷ []) ++ more.text;
      within = omega arith;
      inside = rw (front, ← behind) (Inside-append (take more.len (drop len bytes)) more.text (drop more.len (drop len bytes)) (sym (take-append-drop more.len (drop len bytes))) step more.inside);
      stuck = rw (← behind) more.stuck;
    }

reads : (q fuel : ℕ) (bytes : List ℕ) → length bytes ≤ fuel → Reads q bytes
reads q zero [] h = reads_none q [] tt
reads q zero (b ∷ bs) h = absurd (omega arith)
reads q (suc fuel) [] h = reads_none q [] tt
reads q (suc fuel) (b ∷ bs) h = go (reads q fuel)
  where
    go : ((l : List ℕ) → length l ≤ fuel → Reads q l) → Reads q (b ∷ bs)
    go again =
        by_test (b == q)
        (λ e. reads_none q (b ∷ bs) (inl (eq_from_test b q e)))
        (λ e. by_test (b == 92)
        (λ f. by_option (escape_of bs)
        (λ none. reads_none q (b ∷ bs) (stuck_backslash q b (b ∷ bs) bs refl (eq_from_test b 92 f) none))
        (λ x found.
        let at : IsEscapeAt bs x = escape_found bs x found in
        let few : x.len ≤ length bs = at.1 in
        let next : 1 + x.len ≡ suc x.len = omega arith in
        let size : length (drop (1 + x.len) (b ∷ bs)) ≡ length (b ∷ bs) - (1 + x.len) = length-drop (1 + x.len) (b ∷ bs) in
        reads_more q (b ∷ bs) (1 + x.len) x.value (omega arith) (escape_step q b (b ∷ bs) bs x refl (eq_from_test b 92 f) found) (again (drop (1 + x.len) (b ∷ bs)) (omega arith))))
        (λ f. reads_more q (b ∷ bs) 1 b (omega arith) (plain_step q b (b ∷ bs) bs refl (no_test b q e) (no_test b 92 f)) (again bs (omega arith))))

quote_front : (place : Place) (q : ℕ) (rest : List ℕ) → IsQuote q → Front place (q ∷ rest)
quote_front place q rest quote = ends (drop at.len rest) refl
  where
    at : Reads q rest
    at = reads q (length rest) rest (omega arith)

    ends : (left : List ℕ) → drop at.len rest ≡ left → Front place (q ∷ rest)
    ends [] e = fault_front place (q ∷ rest) (OpenQuote place) (left_open (q ∷ rest) rest at.text q at.len refl quote at.within at.inside place e)
    ends (end ∷ after) e =
        by_test (end == q)
        (λ f. let closed : drop at.len rest ≡ q ∷ after = e ∙ ap (λ (x : ℕ). x ∷ after) (eq_from_test end q f) in
        by_test (q == 39)
        (λ g. token_front place (q ∷ rest) (Atom at.text) (1 + at.len + 1) (atom_found (q ∷ rest) rest at.text q at.len refl quote at.within at.inside after closed (eq_from_test q 39 g)))
        (λ g. token_front place (q ∷ rest) (Text at.text) (1 + at.len + 1) (text_found (q ∷ rest) rest at.text q at.len refl quote at.within at.inside after closed (no_test q 39 g))))
        (λ f. fault_front place (q ∷ rest) (cond (is_cut_off after) (OpenQuote place) (BadEscape (past place (take (1 + at.len) (q ∷ rest)))))
        (stuck_fault (q ∷ rest) rest at.text q at.len refl quote at.within at.inside place end after e at.stuck (no_test end q f)))

-- ---- numbers and symbols

exponent_within : (bytes : List ℕ) → exponent_len bytes ≤ length bytes
exponent_within [] = omega arith
exponent_within (e ∷ es) = by_test (e == 101 || e == 69) (λ is. by_test (prefix_len is_digit (drop (sign_len es) es) == 0) (λ none. rw (is, none) (omega arith)) (λ some. rw (is, some) (long some))) (λ other. rw other (omega arith))
  where
    long : (prefix_len is_digit (drop (sign_len es) es) == 0) ≡ false → 1 + sign_len es + prefix_len is_digit (drop (sign_len es) es) ≤ suc (length es)
    long some =
        let apart : prefix_len is_digit (drop (sign_len es) es) ≢ 0 = no_test (prefix_len is_digit (drop (sign_len es) es)) 0 some in
        let few : prefix_len is_digit (drop (sign_len es) es) ≤ length (drop (sign_len es) es) = prefix_len-le-length is_digit (drop (sign_len es) es) in
        let size : length (drop (sign_len es) es) ≡ length es - sign_len es = length-drop (sign_len es) es in omega arith

fraction_within : (bytes : List ℕ) → fraction_len bytes ≤ length bytes
fraction_within [] = omega arith
fraction_within (b ∷ bs) = by_test (b == 46) (λ is. by_test (prefix_len is_digit bs == 0) (λ none. rw (is, none) (omega arith)) (λ some. rw (is, some) long)) (λ other. rw other (omega arith))
  where
    long : 1 + prefix_len is_digit bs + exponent_len (drop (prefix_len is_digit bs) bs) ≤ suc (length bs)
    long =
        let few : prefix_len is_digit bs ≤ length bs = prefix_len-le-length is_digit bs in
        let size : length (drop (prefix_len is_digit bs) bs) ≡ length bs - prefix_len is_digit bs = length-drop (prefix_len is_digit bs) bs in
        let more : exponent_len (drop (prefix_len is_digit bs) bs) ≤ length (drop (prefix_len is_digit bs) bs) = exponent_within (drop (prefix_len is_digit bs) bs) in omega arith

symbol_within : (bytes : List ℕ) → symbol_len bytes ≤ length bytes
symbol_within [] = omega arith
symbol_within (a ∷ []) = by_test (is_single a) (λ is. rw is (omega arith)) (λ other. rw other (omega arith))
symbol_within (a ∷ b ∷ bs) = by_test (is_pair a b) (λ is. rw is (omega arith)) (λ other. by_test (is_single a) (λ is. rw (other, is) (omega arith)) (λ none. rw (other, none) (omega arith)))

number_front : (place : Place) (bytes : List ℕ) → 0 < prefix_len is_digit (drop (sign_len bytes) bytes) → Front place bytes
number_front place bytes some = go (cases_lt 0 (fraction_len (drop (sign + whole) bytes)))
  where
    sign : ℕ
    sign = sign_len bytes

    whole : ℕ
    whole = prefix_len is_digit (drop sign bytes)

    integer : fraction_len (drop (sign + whole) bytes) ≡ 0 → (number 10 (take whole (drop sign bytes)) < 2 ^ 127) ⊎ (2 ^ 127 ≤ number 10 (take whole (drop sign bytes))) → Front place bytes
    integer none (inl narrow) = token_front place bytes (Integer (cond (get_or bytes 0 0 == 45) (neg_ℤ (pos (number 10 (take whole (drop sign bytes))))) (pos (number 10 (take whole (drop sign bytes))))) (sign == 0)) (sign + whole)
        (integer_found bytes sign whole refl refl some (cond (get_or bytes 0 0 == 45) (neg_ℤ (pos (number 10 (take whole (drop sign bytes))))) (pos (number 10 (take whole (drop sign bytes))))) (sign == 0)
        (number 10 (take whole (drop sign bytes))) none refl narrow refl refl)
    integer none (inr far) = fault_front place bytes (WideInteger place) (integer_wide bytes sign whole refl refl some place none far)

    go : (0 < fraction_len (drop (sign + whole) bytes)) ⊎ (fraction_len (drop (sign + whole) bytes) ≤ 0) → Front place bytes
    go (inl more) = token_front place bytes (Float (take (sign + whole + fraction_len (drop (sign + whole) bytes)) bytes)) (sign + whole + fraction_len (drop (sign + whole) bytes))
        (float_found bytes sign whole refl refl some (take (sign + whole + fraction_len (drop (sign + whole) bytes)) bytes) (fraction_len (drop (sign + whole) bytes)) refl more (fraction_within (drop (sign + whole) bytes)) refl)
    go (inr none) = integer (omega arith) (cases_lt (number 10 (take whole (drop sign bytes))) (2 ^ 127))

symbol_front : (place : Place) (b : ℕ) (bs : List ℕ) → IsOther b → prefix_len is_digit (drop (sign_len (b ∷ bs)) (b ∷ bs)) ≡ 0 → Front place (b ∷ bs)
symbol_front place b bs other none = go (cases_lt 0 (symbol_len (b ∷ bs)))
  where
    go : (0 < symbol_len (b ∷ bs)) ⊎ (symbol_len (b ∷ bs) ≤ 0) → Front place (b ∷ bs)
    go (inl some) = token_front place (b ∷ bs) (Symbol (take (symbol_len (b ∷ bs)) (b ∷ bs))) (symbol_len (b ∷ bs))
        (symbol_found (b ∷ bs) other none (take (symbol_len (b ∷ bs)) (b ∷ bs)) (symbol_len (b ∷ bs)) refl some (symbol_within (b ∷ bs)) refl)
    go (inr nil) = fault_front place (b ∷ bs) (BadByte place) (symbol_none (b ∷ bs) other none place (omega arith) (omega arith))

-- ---- the front, and all

front : (place : Place) (b : ℕ) (bs : List ℕ) → is_blank b ≡ false → b ≢ 37 → Front place (b ∷ bs)
front place b bs no_blank no_comment =
    by_test (is_lower b) (λ e. word_front place (b ∷ bs) e) (λ no_word.
    by_test (is_variable_start b) (λ e. token_front place (b ∷ bs) (Variable (take (prefix_len is_name_byte (b ∷ bs)) (b ∷ bs))) (prefix_len is_name_byte (b ∷ bs))
    (variable_found (b ∷ bs) (prefix_len is_name_byte (b ∷ bs)) refl (take (prefix_len is_name_byte (b ∷ bs)) (b ∷ bs)) e refl)) (λ no_variable.
    by_test (b == 36) (λ e. subst (λ (x : ℕ). Front place (x ∷ bs)) (sym (eq_from_test b 36 e)) (char_front place bs)) (λ no_character.
    by_test (b == 39) (λ e. quote_front place b bs (inl (eq_from_test b 39 e))) (λ no_atom.
    by_test (b == 34) (λ e. quote_front place b bs (inr (eq_from_test b 34 e))) (λ no_text.
    numeric (cases_lt 0 (prefix_len is_digit (drop (sign_len (b ∷ bs)) (b ∷ bs))))
    (record { no_word = no_word; no_variable = no_variable; no_character = no_test b 36 no_character; no_atom = no_test b 39 no_atom; no_text = no_test b 34 no_text; no_blank = no_blank; no_comment = no_comment }))))))
  where
    numeric : (0 < prefix_len is_digit (drop (sign_len (b ∷ bs)) (b ∷ bs))) ⊎ (prefix_len is_digit (drop (sign_len (b ∷ bs)) (b ∷ bs)) ≤ 0) → IsOther b → Front place (b ∷ bs)
    numeric (inl some) other = number_front place (b ∷ bs) some
    numeric (inr none) other = symbol_front place b bs other (omega arith)

abbrev Answer : Place → List ℕ → Type 0
Answer place bytes = ((tokens : List Token) × Lexed place bytes tokens) ⊎ ((fault : ScanFault) × FirstFault place bytes fault)

onward : (place : Place) (bytes : List ℕ) (old new : List Token) (len : ℕ) → GoesOn place bytes old new len → Answer (past place (take len bytes)) (drop len bytes) → Answer place bytes
onward place bytes old new len step (inl (tokens, (end, passes))) = inl (step.more ++ tokens, (end, passes_append step.passes passes))
onward place bytes old new len step (inr (fault, (tokens, end, left, passes, at))) = inr (fault, (step.more ++ tokens, end, left, passes_append step.passes passes, at))

pub answered : (fuel : ℕ) (place : Place) (bytes : List ℕ) → length bytes ≤ fuel → Answer place bytes
unfolding Front
answered fuel place [] h = inl ([], (place, here refl refl refl))
answered zero place (b ∷ bs) h = absurd (omega arith)
answered (suc fuel) place (b ∷ bs) h = go (answered fuel)
  where
    shorter : (old new : List Token) (len : ℕ) → GoesOn place (b ∷ bs) old new len → length (drop len (b ∷ bs)) ≤ fuel
    shorter old new len step = let size : length (drop len (b ∷ bs)) ≡ length (b ∷ bs) - len = length-drop len (b ∷ bs) in let some : 0 < len = step.some in omega arith

    go : ((p : Place) (l : List ℕ) → length l ≤ fuel → Answer p l) → Answer place (b ∷ bs)
    go again =
        by_test (is_blank b)
        (λ e. step_by [] [] 1 (blank_step place (b ∷ bs) [] (omega arith) e))
        (λ no_blank. by_test (b == 37)
        (λ e. step_by [] [] (1 + prefix_len is_no_line_feed bs) (comment_step place (b ∷ bs) [] (prefix_len is_no_line_feed bs) (omega arith) (eq_from_test b 37 e) refl (prefix_len-le-length is_no_line_feed bs)))
        (λ e. fronted (front place b bs no_blank (no_test b 37 e))))
      where
        step_by : (old new : List Token) (len : ℕ) → GoesOn place (b ∷ bs) old new len → Answer place (b ∷ bs)
        step_by old new len step = onward place (b ∷ bs) old new len step (again (past place (take len (b ∷ bs))) (drop len (b ∷ bs)) (shorter old new len step))

        fronted : Front place (b ∷ bs) → Answer place (b ∷ bs)
        fronted (inl (kind, len, begins)) = step_by [] (record { kind = kind; place = place } ∷ []) len (token_step place (b ∷ bs) [] (record { kind = kind; place = place } ∷ []) kind len begins refl)
        fronted (inr (fault, at)) = inr (fault, ([], place, b ∷ bs, here refl refl refl, at))

pub tokens_or_fault : (place : Place) (bytes : List ℕ) → Answer place bytes
tokens_or_fault place bytes = answered (length bytes) place bytes (omega arith)
