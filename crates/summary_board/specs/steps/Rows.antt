-- Sets of numbers as rows of words of 64 bits. The lowest row has one bit for each number. Each row above has one bit for each word of
-- the row below, set exactly where that word isn't 0. The highest row is one word.
use Rattle.std.specs.Prelude.{◌≡◌, ◌↔◌, ℕ, ◌*◌, ◌/◌, ◌%◌, ◌^◌, ◌<◌, ◌≤◌, List, [], ◌∷◌, length, slice_index_or}
use Rattle.std.specs.Int.{bit_at}

-- the word of a row at a position, and 0 past the end
abbrev pub word_at : List ℕ → ℕ → ℕ
word_at row w = slice_index_or row w 0

-- the word isn't 0
abbrev pub IsUsed : List ℕ → ℕ → Type 0
IsUsed row w = 0 < word_at row w

-- the bit of the number is set
abbrev pub IsMarked : List ℕ → ℕ → Type 0
IsMarked row n = bit_at (word_at row (n / 64)) (n % 64) ≡ 1

-- the number is marked, and none below it is
abbrev pub IsLeastMarked : List ℕ → ℕ → Type 0
IsLeastMarked row n = IsMarked row n × ((k : ℕ) → k < n → IsMarked row k → ⊥)

abbrev pub lowest : List (List ℕ) → List ℕ
lowest [] = []
lowest (row ∷ rows) = row

-- the row lies under these
abbrev pub IsUnder : List ℕ → List (List ℕ) → Type 0
IsUnder row [] = length row ≡ 1
IsUnder row (above ∷ rows) = (length row ≤ 64 * length above) × ((w : ℕ) → IsMarked above w ↔ IsUsed row w)

abbrev pub AreTied : List (List ℕ) → Type 0
AreTied [] = Unit {0}
AreTied (row ∷ rows) = (length row ≤ 2 ^ 26) × IsUnder row rows × AreTied rows
