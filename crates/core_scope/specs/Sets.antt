-- Modules together: their names are distinct.
use Rattle.std.specs.Prelude.{◌≡◌, ℕ, ◌<◌, List, length, slice_get}
use Rattle.type_kinds.specs.declared.atom.Atom.{Atom}

-- The name at a position stands at an earlier one too.
abbrev pub StandsEarlier : List Atom → ℕ → Type 0
StandsEarlier names j = (i : ℕ) × (i < j) × (slice_get names i ≡ slice_get names j)

-- The second position is the least whose name stands earlier, and the first is the earliest of that name.
pub record FirstDuplicate (names : List Atom) (first second : ℕ) : Type 0 where
  pub within : second < length names
  pub same : slice_get names first ≡ slice_get names second
  pub before : first < second
  pub earliest : (i : ℕ) → i < first → slice_get names i ≡ slice_get names second → ⊥
  pub least : (j : ℕ) → j < second → StandsEarlier names j → ⊥
