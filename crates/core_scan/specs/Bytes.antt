-- Classes of bytes, and places in a text.
use Rattle.std.specs.Prelude.{ℕ, ◌+◌, List, length, Bool, ◌&&◌, ◌||◌, not, ◌==◌, nat_le, count_by}
use Rattle.type_kinds.specs.declared.place.Place.{Place}
use Rattle.type_kinds.specs.Digits.{is_digit}

-- `a` to `z`
abbrev pub is_lower : ℕ → Bool
is_lower b = nat_le 97 b && nat_le b 122

-- `A` to `Z`
abbrev pub is_upper : ℕ → Bool
is_upper b = nat_le 65 b && nat_le b 90

-- a digit of base 8, `0` to `7`
abbrev pub is_octal : ℕ → Bool
is_octal b = nat_le 48 b && nat_le b 55

-- a byte that words and variables have after their first: a letter, a digit, `_` or `@`
abbrev pub is_name_byte : ℕ → Bool
is_name_byte b = is_lower b || is_upper b || is_digit b || b == 95 || b == 64

-- a byte that separates tokens: 9 to 13, and the space
abbrev pub is_blank : ℕ → Bool
is_blank b = (nat_le 9 b && nat_le b 13) || b == 32

-- LF, which ends a line
abbrev pub is_line_feed : ℕ → Bool
is_line_feed b = b == 10

-- any other byte
abbrev pub is_no_line_feed : ℕ → Bool
is_no_line_feed b = not (b == 10)

-- where a text begins
abbrev pub start : Place
start = record { byte = 0; line = 1 }

-- the place just after these bytes, which begin at a place
abbrev pub past : Place → List ℕ → Place
past place bytes = record { byte = place.byte + length bytes; line = place.line + count_by is_line_feed bytes }
