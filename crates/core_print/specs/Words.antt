-- The words that canonical text is made of, and how they are spelled. Each is the spelling of one token.
use Rattle.std.specs.Prelude.{ℤ, ℕ, List, [], ◌∷◌, ◌++◌}
use Rattle.std.specs.Fmt.{signed_decimal}
use Rattle.type_kinds.specs.declared.atom.Atom.{Atom}
use Rattle.type_kinds.specs.Quoted.{quoted}

-- A reserved word or a symbol, by its bytes; a variable, an atom, an integer, or a float as it was spelled.
pub data Word : Type 0 where
  reserved : List ℕ → Word
  symbol : List ℕ → Word
  variable : Atom → Word
  atom : Atom → Word
  integer : ℤ → Word
  float : List ℕ → Word

-- An atom stands in quotes, an integer in decimal digits.
abbrev pub spelled : Word → List ℕ
spelled (reserved bytes) = bytes
spelled (symbol bytes) = bytes
spelled (variable name) = name
spelled (atom name) = quoted name
spelled (integer n) = signed_decimal n
spelled (float spelling) = spelling

-- words with a space before each
abbrev pub spaced : List Word → List ℕ
spaced [] = []
spaced (w ∷ ws) = 32 ∷ spelled w ++ spaced ws

-- words with a space between each two, and LF at the end
abbrev pub line : List Word → List ℕ
line [] = 10 ∷ []
line (w ∷ ws) = spelled w ++ spaced ws ++ 10 ∷ []
