-- The tokens of words, and what a word must be to be one token.
use Rattle.std.specs.Prelude.{ℕ, ℤ, pos, negsuc, ◌<◌, ◌≤◌, List, [], ◌∷◌, Bool, true, false, unsigned_abs, ⊤}
use Rattle.type_kinds.specs.declared.place.Place.{Place}
use Rattle.type_kinds.specs.declared.digits.TheConstants.{MAGNITUDE_LIMIT}
use Rattle.core_scan.specs.declared.token.Token.{Token}
use Rattle.core_scan.specs.declared.token.TokenKind.{TokenKind}
use Rattle.core_scan.specs.declared.token.TokenKind.TheVariants as k
use Rattle.core_scan.specs.Bytes.{past}
use Rattle.core_scan.specs.Vocabulary.{words, symbols, IsOneOf}
use Rattle.core_scan.specs.Spells.{IsName, IsFloat, is_variable_start}
use Rattle.core_print.specs.Words.{Word, reserved, symbol, variable, atom, integer, float, spelled}

-- digits alone spell an integer that isn't below 0
abbrev pub is_bare : ℤ → Bool
is_bare (pos n) = true
is_bare (negsuc n) = false

abbrev pub kind_of : Word → TokenKind
kind_of (reserved bytes) = k.Word bytes
kind_of (symbol bytes) = k.Symbol bytes
kind_of (variable name) = k.Variable name
kind_of (atom name) = k.Atom name
kind_of (integer n) = k.Integer n (is_bare n)
kind_of (float spelling) = k.Float spelling

-- A word of the language: it stands in a table, is a name, a float, or an integer below 2^127 in magnitude.
abbrev pub IsWord : Word → Type 0
IsWord (reserved bytes) = IsOneOf words bytes
IsWord (symbol bytes) = IsOneOf symbols bytes
IsWord (variable name) = IsName is_variable_start name
IsWord (atom name) = ⊤
IsWord (integer n) = unsigned_abs n < MAGNITUDE_LIMIT
IsWord (float spelling) = IsFloat spelling

abbrev pub AreWords : List Word → Type 0
AreWords [] = ⊤
AreWords (w ∷ ws) = IsWord w × AreWords ws

-- The tokens of words that have a space before each, where the first space is at the place.
abbrev pub tokens_behind : Place → List Word → List Token
tokens_behind place [] = []
tokens_behind place (w ∷ ws) =
    let start = past place (32 ∷ []) in
    record { kind = kind_of w; place = start } ∷ tokens_behind (past start (spelled w)) ws

-- The tokens of words in a line, which begins at the place.
abbrev pub tokens_of : Place → List Word → List Token
tokens_of place [] = []
tokens_of place (w ∷ ws) = record { kind = kind_of w; place = place } ∷ tokens_behind (past place (spelled w)) ws

-- each is a byte
abbrev pub AreBytes : List ℕ → Type 0
AreBytes [] = ⊤
AreBytes (b ∷ bs) = (b ≤ 255) × AreBytes bs
