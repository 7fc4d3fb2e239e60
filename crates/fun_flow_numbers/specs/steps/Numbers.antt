-- Lists of values with their positions as their numbers.
use Rattle.std.specs.Prelude.{◌≡◌, ℕ, List, Some, slice_get}

module _ {A : Type 0} where
  -- each value keeps its number
  abbrev pub KeepsNumbers : List A → List A → Type 0
  KeepsNumbers old new = (i : ℕ) (x : A) → slice_get old i ≡ Some x → slice_get new i ≡ Some x

  -- no value has two numbers
  abbrev pub AreApart : List A → Type 0
  AreApart xs = (i j : ℕ) (x : A) → slice_get xs i ≡ Some x → slice_get xs j ≡ Some x → i ≡ j
