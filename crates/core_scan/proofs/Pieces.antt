-- Pieces of which none runs into the next have their tokens.
use Rattle.std.proofs.Common.{◌≡◌, ◌≢◌, ℕ, ◌+◌, ◌<◌, ◌≤◌, List, [], ◌∷◌, ◌++◌, length, drop, refl, sym, ap}
use Rattle.std.proofs.Common.{◌∙◌, ◌⊎◌, inl, inr, Bool, true, false, arith, ◌||◌, ◌&&◌, ◌==◌, not, nat_lt, pos}
use Rattle.std.specs.List.{list_all, prefix_len}
use Rattle.std.proofs.lemmas.List.{drop_at}
use Rattle.std.proofs.lemmas.Bool.{and_parts}
use Rattle.std.proofs.lemmas.Bool.Decides.{nat_tests}
use Rattle.type_kinds.specs.Digits.{is_digit, number}
use Rattle.type_kinds.specs.declared.digits.TheConstants.{MAGNITUDE_LIMIT}
use Rattle.type_kinds.specs.declared.place.Place.{Place}
use Rattle.core_scan.specs.declared.token.TokenKind.{TokenKind}
use Rattle.core_scan.specs.declared.token.TokenKind.TheVariants.{Word, Variable, Integer, Atom, Symbol}
use Rattle.core_scan.specs.Bytes.{is_blank, is_lower, is_name_byte, past}
use Rattle.core_scan.specs.Escapes.{AllOf, NoneAhead, Inside, nothing, plain, Quoted}
use Rattle.core_scan.specs.Vocabulary.{words, symbols, sort_in}
use Rattle.core_scan.specs.Spells.{IsName, IsDigits, unsigned, is_variable_start, Spells, Longest, IsToken}
use Rattle.core_scan.specs.Lexed.{Lexed, here, token}
use Rattle.core_scan.specs.Lexed as lexed
use Rattle.core_scan.specs.Pieces.{Piece, blank, word, variable, symbol, integer, atom, pieces_text, pieces_tokens, is_run, ends_name, ends_digits, is_no_number, is_plain, stands, all_stand, AtomsArePlain}
use Rattle.core_scan.specs.steps.Fronts.{is_known, sign_len, fraction_len, symbol_len}
use Rattle.core_scan.proofs.RunLemmas.{prefix_len-run, eq_from_test}
use Rattle.core_scan.proofs.Tables.{one_of_known}
use Rattle.core_scan.proofs.Reach.{at_lower, at_upper, at_digit, at_sign, at_mark, class, class_digit, first_class, bounded, reach, number_len, number_some, number_none, lower_names, start_names}
use Rattle.core_scan.proofs.OnceLemmas.{longest_by, quoted_once}
use Rattle.core_scan.proofs.ShapeLemmas.{quoted_only, quote_apart}

-- ---- runs of bytes

all_of : (test : ℕ → Bool) (xs : List ℕ) → list_all test xs ≡ true → AllOf test xs
all_of test [] h = tt
all_of test (x ∷ xs) h = let r = and_parts (test x) (list_all test xs) h in (r.0, all_of test xs r.1)

not_true : (b : Bool) → not b ≡ true → b ≡ false
not_true true h = cc
not_true false h = refl

no_name_ahead : (rest : List ℕ) → ends_name rest ≡ true → NoneAhead is_name_byte rest
no_name_ahead [] h = tt
no_name_ahead (b ∷ bs) h = not_true (is_name_byte b) h

no_digit_ahead : (rest : List ℕ) → ends_digits rest ≡ true → NoneAhead is_digit rest
no_digit_ahead [] h = tt
no_digit_ahead (b ∷ bs) h = not_true (is_digit b) (and_parts (not (is_digit b)) (not (b == 46)) h).0

no_fraction : (rest : List ℕ) → ends_digits rest ≡ true → fraction_len rest ≡ 0
no_fraction [] h = refl
no_fraction (b ∷ bs) h = let no_point : (b == 46) ≡ false = not_true (b == 46) (and_parts (not (is_digit b)) (not (b == 46)) h).1 in rw no_point refl

name_run : (first : ℕ → Bool) (w rest : List ℕ) → ((b : ℕ) → first b ≡ true → is_name_byte b ≡ true) → is_run first is_name_byte w ≡ true → ends_name rest ≡ true
    → IsName first w × (prefix_len is_name_byte (w ++ rest) ≡ length w)
name_run first [] rest names h ends = cc
name_run first (b ∷ bs) rest names h ends =
    let r = and_parts (first b) (list_all is_name_byte bs) h in
    let more : AllOf is_name_byte bs = all_of is_name_byte bs r.1 in
    ((r.0, more), prefix_len-run is_name_byte (b ∷ bs) rest (names b r.0, more) (no_name_ahead rest ends))

-- ---- one piece

word_stands : (w rest : List ℕ) → stands (word w) rest ≡ true → Longest (w ++ rest) (Word w) w rest × IsToken (Word w)
unfolding reach
word_stands w rest h =
    let r = and_parts (is_run is_lower is_name_byte w) (is_known (sort_in words w) && ends_name rest) h in
    let q = and_parts (is_known (sort_in words w)) (ends_name rest) r.1 in
    let name : IsName is_lower w × (prefix_len is_name_byte (w ++ rest) ≡ length w) = name_run is_lower w rest lower_names r.0 q.1 in
    let spells : Spells (Word w) w rest = (name.0, refl) in
    let e : first_class (w ++ rest) ≡ at_lower = (bounded (Word w) w rest spells).0 in
    (longest_by (w ++ rest) (Word w) w rest refl spells (rw e (omega arith)), one_of_known words w q.0)

variable_stands : (x rest : List ℕ) → stands (variable x) rest ≡ true → Longest (x ++ rest) (Variable x) x rest
unfolding reach
variable_stands x rest h =
    let r = and_parts (is_run is_variable_start is_name_byte x) (ends_name rest) h in
    let name : IsName is_variable_start x × (prefix_len is_name_byte (x ++ rest) ≡ length x) = name_run is_variable_start x rest start_names r.0 r.1 in
    let spells : Spells (Variable x) x rest = (name.0, refl) in
    let e : first_class (x ++ rest) ≡ at_upper = (bounded (Variable x) x rest spells).0 in
    longest_by (x ++ rest) (Variable x) x rest refl spells (rw e (omega arith))

symbol_far : (bytes : List ℕ) → prefix_len is_digit (drop (sign_len bytes) bytes) ≡ 0 → (first_class bytes ≡ at_mark) ⊎ (first_class bytes ≡ at_sign) → reach (first_class bytes) bytes ≤ symbol_len bytes
unfolding reach
symbol_far bytes none (inl e) = rw e (omega arith)
symbol_far bytes none (inr e) = let no_number : number_len bytes ≡ 0 = number_none bytes none in rw e (omega arith)

symbol_stands : (s rest : List ℕ) → stands (symbol s) rest ≡ true → Longest (s ++ rest) (Symbol s) s rest
symbol_stands s rest h =
    let r = and_parts (is_known (sort_in symbols s)) (symbol_len (s ++ rest) == length s && is_no_number (s ++ rest)) h in
    let q = and_parts (symbol_len (s ++ rest) == length s) (is_no_number (s ++ rest)) r.1 in
    let spells : Spells (Symbol s) s rest = (one_of_known symbols s r.0, refl) in
    let size : symbol_len (s ++ rest) ≡ length s = eq_from_test (symbol_len (s ++ rest)) (length s) q.0 in
    let far : reach (first_class (s ++ rest)) (s ++ rest) ≤ symbol_len (s ++ rest) = symbol_far (s ++ rest) (eq_from_test (prefix_len is_digit (drop (sign_len (s ++ rest)) (s ++ rest))) 0 q.1) (bounded (Symbol s) s rest spells).0 in
    longest_by (s ++ rest) (Symbol s) s rest refl spells (omega arith)

digits_far : (d : ℕ) (ds rest : List ℕ) → AllOf is_digit (d ∷ ds) → ends_digits rest ≡ true → reach (first_class ((d ∷ ds) ++ rest)) ((d ∷ ds) ++ rest) ≤ length (d ∷ ds)
unfolding reach
digits_far d ds rest h ends =
    let e : class d ≡ at_digit = class_digit d h.0 in
    let no_sign : (d == 43 || d == 45) ≡ false = (let is : is_digit d ≡ true = h.0 in grind (arith, nat_tests)) in
    let unsigned_ : sign_len ((d ∷ ds) ++ rest) ≡ 0 = rw no_sign refl in
    let run : prefix_len is_digit ((d ∷ ds) ++ rest) ≡ length (d ∷ ds) = prefix_len-run is_digit (d ∷ ds) rest h (no_digit_ahead rest ends) in
    let whole : number_len ((d ∷ ds) ++ rest) ≡ length (d ∷ ds) = digits_len (d ∷ ds) rest unsigned_ run (no_fraction rest ends) (omega arith) in
    rw e (omega arith)
  where
    digits_len : (xs more : List ℕ) → sign_len (xs ++ more) ≡ 0 → prefix_len is_digit (xs ++ more) ≡ length xs → fraction_len more ≡ 0 → 0 < length xs → number_len (xs ++ more) ≡ length xs
    digits_len xs more s run none some =
        let first : prefix_len is_digit (drop (sign_len (xs ++ more)) (xs ++ more)) ≡ length xs = ap (λ k. prefix_len is_digit (drop k (xs ++ more))) s ∙ run in
        let at : drop (sign_len (xs ++ more) + prefix_len is_digit (drop (sign_len (xs ++ more)) (xs ++ more))) (xs ++ more) ≡ more = drop_at xs more _ (omega arith) in
        let behind : fraction_len (drop (sign_len (xs ++ more) + prefix_len is_digit (drop (sign_len (xs ++ more)) (xs ++ more))) (xs ++ more)) ≡ 0 = ap fraction_len at ∙ none in
        let size = number_some (xs ++ more) (omega arith) in
        omega arith

integer_stands : (ds rest : List ℕ) → stands (integer ds) rest ≡ true → Longest (ds ++ rest) (Integer (pos (number 10 ds)) true) ds rest × IsToken (Integer (pos (number 10 ds)) true)
integer_stands [] rest h = cc
integer_stands (d ∷ ds) rest h =
    let r = and_parts (is_run is_digit is_digit (d ∷ ds)) (nat_lt (number 10 (d ∷ ds)) MAGNITUDE_LIMIT && ends_digits rest) h in
    let q = and_parts (nat_lt (number 10 (d ∷ ds)) MAGNITUDE_LIMIT) (ends_digits rest) r.1 in
    let run = and_parts (is_digit d) (list_all is_digit ds) r.0 in
    let digits : IsDigits (d ∷ ds) = (run.0, all_of is_digit ds run.1) in
    let spells : Spells (Integer (pos (number 10 (d ∷ ds))) true) (d ∷ ds) rest = (unsigned, d ∷ ds, digits, refl, refl, refl) in
    let small : number 10 (d ∷ ds) < MAGNITUDE_LIMIT = below (number 10 (d ∷ ds)) MAGNITUDE_LIMIT q.0 in
    (longest_by ((d ∷ ds) ++ rest) (Integer (pos (number 10 (d ∷ ds))) true) (d ∷ ds) rest refl spells (digits_far d ds rest digits q.1), small)
  where
    below : (a b : ℕ) → nat_lt a b ≡ true → a < b
    below a b e = grind (arith, nat_tests)

inside_atom : (x rest : List ℕ) → list_all is_plain x ≡ true → Inside 39 x x (39 ∷ rest)
inside_atom [] rest h = nothing refl refl
inside_atom (b ∷ bs) rest h =
    let r = and_parts (is_plain b) (list_all is_plain bs) h in
    let s = and_parts (not (b == 39)) (not (b == 92)) r.0 in
    plain b bs bs (apart 39 s.0) (apart 92 s.1) refl refl (inside_atom bs rest r.1)
  where
    apart : (k : ℕ) → not (b == k) ≡ true → b ≢ k
    apart k t e = grind (arith, nat_tests)

atom_stands : (x rest : List ℕ) → list_all is_plain x ≡ true → Longest ((39 ∷ x ++ 39 ∷ []) ++ rest) (Atom x) (39 ∷ x ++ 39 ∷ []) rest
atom_stands x rest h =
    let quoted : Quoted 39 x (39 ∷ x ++ 39 ∷ []) rest = (x, refl, inside_atom x rest h) in
    record {
      splits = refl;
      spells = quoted;
      longest = λ other more after is spelled. (
          let found : (y : List ℕ) × Quoted 39 y more after = quoted_only 39 ((x ++ 39 ∷ []) ++ rest) other more after (inl refl) (sym is) spelled in
          let same : ((39 ∷ x ++ 39 ∷ []) ≡ more) × (x ≡ found.0) = quoted_once 39 x found.0 (39 ∷ x ++ 39 ∷ []) rest more after (quote_apart 39 (inl refl)) quoted found.1 is in
          let size : length (39 ∷ x ++ 39 ∷ []) ≡ length more = ap length same.0 in omega arith);
    }

-- ---- pieces one after another

before_all : {place : Place} {bytes : List ℕ} (ps : List Piece) (kind : TokenKind) (piece : List ℕ) → Longest (piece ++ bytes) kind piece bytes → IsToken kind
    → Lexed (past place piece) bytes (pieces_tokens (past place piece) ps) → Lexed place (piece ++ bytes) (record { kind = kind; place = place } ∷ pieces_tokens (past place piece) ps)
before_all ps kind piece longest is (end, passes) = (end, token kind piece _ _ longest is refl passes)

pieces : (place : Place) (ps : List Piece) → all_stand ps ≡ true → AtomsArePlain ps → Lexed place (pieces_text ps) (pieces_tokens place ps)
pieces place [] h plain_ = (place, here refl refl refl)
pieces place (blank b ∷ ps) h plain_ =
    let r = and_parts (is_blank b) (all_stand ps) h in
    let rest = pieces (past place (b ∷ [])) ps r.1 plain_ in
    (rest.0, lexed.blank b (pieces_text ps) refl r.0 rest.1)
pieces place (word w ∷ ps) h plain_ =
    let r = and_parts (stands (word w) (pieces_text ps)) (all_stand ps) h in
    let one = word_stands w (pieces_text ps) r.0 in
    before_all ps (Word w) w one.0 one.1 (pieces (past place w) ps r.1 plain_)
pieces place (variable x ∷ ps) h plain_ =
    let r = and_parts (stands (variable x) (pieces_text ps)) (all_stand ps) h in
    before_all ps (Variable x) x (variable_stands x (pieces_text ps) r.0) tt (pieces (past place x) ps r.1 plain_)
pieces place (symbol s ∷ ps) h plain_ =
    let r = and_parts (stands (symbol s) (pieces_text ps)) (all_stand ps) h in
    before_all ps (Symbol s) s (symbol_stands s (pieces_text ps) r.0) tt (pieces (past place s) ps r.1 plain_)
pieces place (integer ds ∷ ps) h plain_ =
    let r = and_parts (stands (integer ds) (pieces_text ps)) (all_stand ps) h in
    let one = integer_stands ds (pieces_text ps) r.0 in
    before_all ps (Integer (pos (number 10 ds)) true) ds one.0 one.1 (pieces (past place ds) ps r.1 plain_)
pieces place (atom x ∷ ps) h plain_ =
    let r = and_parts true (all_stand ps) h in
    before_all ps (Atom x) (39 ∷ x ++ 39 ∷ []) (atom_stands x (pieces_text ps) plain_.0) tt (pieces (past place (39 ∷ x ++ 39 ∷ [])) ps r.1 plain_.1)

-- Pieces of which none runs into the next, and whose atoms have only bytes that stand for themselves, have their tokens.
pub pieces_are_lexed : (place : Place) (ps : List Piece) → all_stand ps ≡ true → AtomsArePlain ps → Lexed place (pieces_text ps) (pieces_tokens place ps)
pieces_are_lexed place ps h plain_ = pieces place ps h plain_
