-- A text that is written as pieces, none of which runs into the next, and its tokens.
use Rattle.std.specs.Prelude.{◌≡◌, ℕ, pos, List, [], ◌∷◌, ◌++◌, length, Bool, true, false, ◌&&◌, not, ◌==◌, nat_lt, drop, ⊤}
use Rattle.std.specs.List.{list_all, prefix_len}
use Rattle.type_kinds.specs.Digits.{is_digit, number}
use Rattle.type_kinds.specs.declared.digits.TheConstants.{MAGNITUDE_LIMIT}
use Rattle.type_kinds.specs.declared.place.Place.{Place}
use Rattle.core_scan.specs.declared.token.Token.{Token}
use Rattle.core_scan.specs.declared.token.TokenKind.TheVariants as k
use Rattle.core_scan.specs.Bytes.{is_blank, is_lower, is_name_byte, past}
use Rattle.core_scan.specs.Spells.{is_variable_start}
use Rattle.core_scan.specs.Vocabulary.{words, symbols, sort_in}
use Rattle.core_scan.specs.steps.Fronts.{is_known, sign_len, symbol_len}

-- a blank byte, a reserved word, a variable, a symbol, an integer by its digits, or an atom by its bytes
pub data Piece : Type 0 where
  blank : ℕ → Piece
  word variable symbol integer atom : List ℕ → Piece

-- what is written for it
abbrev pub piece_text : Piece → List ℕ
piece_text (blank b) = b ∷ []
piece_text (word w) = w
piece_text (variable x) = x
piece_text (symbol s) = s
piece_text (integer ds) = ds
piece_text (atom x) = 39 ∷ x ++ 39 ∷ []

abbrev pub pieces_text : List Piece → List ℕ
pieces_text [] = []
pieces_text (p ∷ ps) = piece_text p ++ pieces_text ps

-- the tokens of pieces, the first of which is written at the place
abbrev pub pieces_tokens : Place → List Piece → List Token
pieces_tokens place [] = []
pieces_tokens place (blank b ∷ ps) = pieces_tokens (past place (b ∷ [])) ps
pieces_tokens place (word w ∷ ps) = record { kind = k.Word w; place = place } ∷ pieces_tokens (past place w) ps
pieces_tokens place (variable x ∷ ps) = record { kind = k.Variable x; place = place } ∷ pieces_tokens (past place x) ps
pieces_tokens place (symbol s ∷ ps) = record { kind = k.Symbol s; place = place } ∷ pieces_tokens (past place s) ps
pieces_tokens place (integer ds ∷ ps) = record { kind = k.Integer (pos (number 10 ds)) true; place = place } ∷ pieces_tokens (past place ds) ps
pieces_tokens place (atom x ∷ ps) = record { kind = k.Atom x; place = place } ∷ pieces_tokens (past place (39 ∷ x ++ 39 ∷ [])) ps

-- ---- what is asked of pieces

-- a byte of this kind, and then such bytes
abbrev pub is_run : (first more : ℕ → Bool) → List ℕ → Bool
is_run first more [] = false
is_run first more (b ∷ bs) = first b && list_all more bs

-- no byte that a name may have
abbrev pub ends_name : List ℕ → Bool
ends_name [] = true
ends_name (b ∷ bs) = not (is_name_byte b)

-- no digit and no point
abbrev pub ends_digits : List ℕ → Bool
ends_digits [] = true
ends_digits (b ∷ bs) = not (is_digit b) && not (b == 46)

-- no digit behind a sign, if there is one
abbrev pub is_no_number : List ℕ → Bool
is_no_number bytes = prefix_len is_digit (drop (sign_len bytes) bytes) == 0

-- a byte that stands for itself in an atom
abbrev pub is_plain : ℕ → Bool
is_plain b = not (b == 39) && not (b == 92)

-- The piece is written by its rule, and doesn't run into what is written behind it. Of an atom nothing is asked here.
abbrev pub stands : Piece → List ℕ → Bool
stands (blank b) rest = is_blank b
stands (word w) rest = is_run is_lower is_name_byte w && (is_known (sort_in words w) && ends_name rest)
stands (variable x) rest = is_run is_variable_start is_name_byte x && ends_name rest
stands (symbol s) rest = is_known (sort_in symbols s) && (symbol_len (s ++ rest) == length s && is_no_number (s ++ rest))
stands (integer ds) rest = is_run is_digit is_digit ds && (nat_lt (number 10 ds) MAGNITUDE_LIMIT && ends_digits rest)
stands (atom x) rest = true

abbrev pub all_stand : List Piece → Bool
all_stand [] = true
all_stand (p ∷ ps) = stands p (pieces_text ps) && all_stand ps

-- Atoms have only bytes that stand for themselves.
abbrev pub AtomsArePlain : List Piece → Type 0
AtomsArePlain [] = ⊤
AtomsArePlain (atom x ∷ ps) = (list_all is_plain x ≡ true) × AtomsArePlain ps
AtomsArePlain (p ∷ ps) = AtomsArePlain ps
