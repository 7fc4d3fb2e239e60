-- How far the parts of tokens reach from the front of the bytes: what the scanner's small functions give.
use Rattle.std.specs.Prelude.{ℕ, ◌+◌, ◌-◌, List, [], ◌∷◌, take, drop, min, Bool, true, false, ◌&&◌, ◌||◌, not, ◌==◌, nat_lt, nat_le, cond, Option, Some, None, option_map, ◌≡◌, ◌⊎◌, ⊤}
use Rattle.std.specs.List.{prefix_len}
use Rattle.core_scan.specs.declared.escapes.Escaped.{Escaped}
use Rattle.type_kinds.specs.Digits.{is_digit, number}
use Rattle.core_scan.specs.Bytes.{is_octal}
use Rattle.core_scan.specs.Escapes.{lettered, NoEscape}
use Rattle.core_scan.specs.Vocabulary.{symbols, sort_in}
use Rattle.core_scan.specs.declared.sort.Sort.{Sort}
use Rattle.core_scan.specs.declared.sort.Sort.TheVariants as s
use Rattle.core_scan.specs.Sorts.{code}

-- ---- escapes

-- the escape of `len` octal digits
abbrev pub octal_of : ℕ → List ℕ → Option Escaped
octal_of len bytes = cond (nat_lt (number 8 (take len bytes)) 256) (Some (record { value = number 8 (take len bytes); len = len })) None

-- the escape of `^` and the byte that comes first
abbrev pub control_of : List ℕ → Option Escaped
control_of [] = None
control_of (b ∷ bs) = cond (nat_le 64 b && nat_le b 95) (Some (record { value = b - 64; len = 2 })) None

-- the escape of `^` and a byte, or of a letter or mark
abbrev pub marked : List ℕ → Option Escaped
marked [] = None
marked (b ∷ bs) = cond (b == 94) (control_of bs) (option_map (λ v. record { value = v; len = 1 }) (lettered b))

-- the escape that comes first, after a backslash
abbrev pub escape_of : List ℕ → Option Escaped
escape_of bytes = cond (prefix_len is_octal bytes == 0) (marked bytes) (octal_of (min (prefix_len is_octal bytes) 3) bytes)

-- ---- numbers

-- how many bytes at the front are a sign
abbrev pub sign_len : List ℕ → ℕ
sign_len [] = 0
sign_len (b ∷ bs) = cond (b == 43 || b == 45) 1 0

-- how many are an exponent
abbrev pub exponent_len : List ℕ → ℕ
exponent_len [] = 0
exponent_len (e ∷ es) =
    cond (e == 101 || e == 69) (cond (prefix_len is_digit (drop (sign_len es) es) == 0) 0 (1 + sign_len es + prefix_len is_digit (drop (sign_len es) es))) 0

-- how many are a point, digits and an exponent
abbrev pub fraction_len : List ℕ → ℕ
fraction_len [] = 0
fraction_len (b ∷ bs) =
    cond (b == 46) (cond (prefix_len is_digit bs == 0) 0 (1 + prefix_len is_digit bs + exponent_len (drop (prefix_len is_digit bs) bs))) 0

-- ---- symbols

-- a sort that tokens of the language have
abbrev pub is_known : Sort → Bool
is_known sort = not (code sort == code s.Other)

-- these bytes are a symbol
unfoldable pub is_symbol : List ℕ → Bool
is_symbol bytes = is_known (sort_in symbols bytes)

-- a symbol of one byte
abbrev pub is_single : ℕ → Bool
is_single b = is_symbol (b ∷ [])

-- a symbol of two bytes
abbrev pub is_pair : ℕ → ℕ → Bool
is_pair a b = is_symbol (a ∷ b ∷ [])

-- how many bytes are a symbol, of this byte and those after it
abbrev pub second_len : ℕ → List ℕ → ℕ
second_len a [] = cond (is_single a) 1 0
second_len a (b ∷ bs) = cond (is_pair a b) 2 (cond (is_single a) 1 0)

-- how many bytes at the front are a symbol
abbrev pub symbol_len : List ℕ → ℕ
symbol_len [] = 0
symbol_len (a ∷ bs) = second_len a bs

-- ---- quotes

-- no byte or escape follows between quotes: the text ends, or the quote comes, or a backslash that begins no escape
abbrev pub IsStuck : ℕ → List ℕ → Type 0
IsStuck q [] = ⊤
IsStuck q (b ∷ bs) = (b ≡ q) ⊎ ((b ≡ 92) × NoEscape bs)

-- the text ends inside the escape whose backslash these bytes follow
abbrev pub is_cut_off : List ℕ → Bool
is_cut_off [] = true
is_cut_off (b ∷ []) = b == 94
is_cut_off (b ∷ c ∷ bs) = false
