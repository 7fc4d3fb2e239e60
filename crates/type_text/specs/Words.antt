-- Where a word of a type's text may end.
use Rattle.std.specs.Prelude.{◌≡◌, ℕ, Bool, true, false, ◌||◌, ◌==◌, List, [], ◌∷◌}
use Rattle.type_kinds.specs.Digits.{is_digit}

-- a comma, a brace or a parenthesis that closes
abbrev pub is_stop : ℕ → Bool
is_stop b = b == 44 || b == 125 || b == 41

-- what may follow a number: nothing, or what doesn't begin with a digit
abbrev pub WordStop : List ℕ → Type 0
WordStop [] = Unit {0}
WordStop (b ∷ bs) = is_digit b ≡ false

-- what may follow a type: nothing, or what begins with a comma or a bracket that closes
abbrev pub TypeStop : List ℕ → Type 0
TypeStop [] = Unit {0}
TypeStop (b ∷ bs) = is_stop b ≡ true
