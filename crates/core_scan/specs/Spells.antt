-- How each kind of token is spelled (Core Erlang 1.0.3 language specification, "Lexical definitions"), and which
-- spelling the bytes begin with.
use Rattle.std.specs.Prelude.{ℕ, ◌≡◌, ◌≢◌, ◌≤◌, ◌<◌, ◌⊎◌, List, [], ◌∷◌, ◌++◌, length, Bool, true, false, ◌||◌, ◌==◌, IsTrue, ℤ, pos, neg_ℤ, unsigned_abs, ⊤}
use Rattle.core_scan.specs.declared.token.TokenKind.{TokenKind}
use Rattle.core_scan.specs.declared.token.TokenKind.TheVariants.{Word, Variable, Integer, Float, Char, Atom, Text, Symbol}
use Rattle.type_kinds.specs.Digits.{is_digit, number}
use Rattle.type_kinds.specs.declared.digits.TheConstants.{MAGNITUDE_LIMIT}
use Rattle.core_scan.specs.Bytes.{is_lower, is_upper, is_name_byte}
use Rattle.core_scan.specs.Escapes.{AllOf, Escape, Quoted}
use Rattle.core_scan.specs.Vocabulary.{words, symbols, IsOneOf}

-- a first byte of this kind, and then name bytes
abbrev pub IsName : (ℕ → Bool) → List ℕ → Type 0
IsName first [] = ⊥
IsName first (b ∷ bs) = IsTrue (first b) × AllOf is_name_byte bs

-- an upper-case letter or `_`
abbrev pub is_variable_start : ℕ → Bool
is_variable_start b = is_upper b || b == 95

-- one decimal digit or more
abbrev pub IsDigits : List ℕ → Type 0
IsDigits [] = ⊥
IsDigits (b ∷ bs) = IsTrue (is_digit b) × AllOf is_digit bs

-- the sign of a number
pub data Sign : Type 0 where
  unsigned plus minus : Sign

-- its bytes: none, `+` or `-`
abbrev pub sign_text : Sign → List ℕ
sign_text unsigned = []
sign_text plus = 43 ∷ []
sign_text minus = 45 ∷ []

-- the number of a magnitude under a sign
abbrev pub signed : Sign → ℕ → ℤ
signed unsigned n = pos n
signed plus n = pos n
signed minus n = neg_ℤ (pos n)

-- whether there is no sign
abbrev pub is_bare : Sign → Bool
is_bare unsigned = true
is_bare plus = false
is_bare minus = false

-- nothing, or `e` or `E`, a sign and digits
abbrev pub IsExponent : List ℕ → Type 0
IsExponent [] = ⊤
IsExponent (e ∷ es) = ((e ≡ 101) ⊎ (e ≡ 69)) × (sign : Sign) × (digits : List ℕ) × IsDigits digits × (es ≡ sign_text sign ++ digits)

-- a sign, digits, a point, digits and an exponent
abbrev pub IsFloat : List ℕ → Type 0
IsFloat piece = (sign : Sign) × (whole : List ℕ) × (part : List ℕ) × (exponent : List ℕ) × IsDigits whole × IsDigits part × IsExponent exponent × (piece ≡ sign_text sign ++ whole ++ 46 ∷ part ++ exponent)

-- `$` and the byte itself, or `$`, a backslash and an escape
abbrev pub IsChar : ℕ → List ℕ → List ℕ → Type 0
IsChar c piece rest = ((piece ≡ 36 ∷ c ∷ []) × (32 ≤ c) × (c ≢ 127) × (c ≢ 92)) ⊎ ((escape : List ℕ) × (piece ≡ 36 ∷ 92 ∷ escape) × Escape escape c rest)

-- `piece` spells a token of this kind where `rest` follows. A word is any word here, and an integer any integer.
abbrev pub Spells : TokenKind → List ℕ → List ℕ → Type 0
Spells (Word w) piece rest = IsName is_lower piece × (w ≡ piece)
Spells (Variable x) piece rest = IsName is_variable_start piece × (x ≡ piece)
Spells (Integer n bare) piece rest = (sign : Sign) × (digits : List ℕ) × IsDigits digits × (piece ≡ sign_text sign ++ digits) × (n ≡ signed sign (number 10 digits)) × (bare ≡ is_bare sign)
Spells (Float s) piece rest = IsFloat piece × (s ≡ piece)
Spells (Char c) piece rest = IsChar c piece rest
Spells (Atom x) piece rest = Quoted 39 x piece rest
Spells (Text x) piece rest = Quoted 34 x piece rest
Spells (Symbol s) piece rest = IsOneOf symbols piece × (s ≡ piece)

-- the longest spelling that begins the bytes
pub record Longest (bytes : List ℕ) (kind : TokenKind) (piece rest : List ℕ) : Type 0 where
  pub splits : bytes ≡ piece ++ rest
  pub spells : Spells kind piece rest
  pub longest : (other : TokenKind) (more after : List ℕ) → bytes ≡ more ++ after → Spells other more after → length more ≤ length piece

-- what is spelled is a token: a word is reserved, and an integer's magnitude is below 2^127
abbrev pub IsToken : TokenKind → Type 0
IsToken (Word w) = IsOneOf words w
IsToken (Integer n bare) = unsigned_abs n < MAGNITUDE_LIMIT
IsToken _ = ⊤
