-- Where the entry of a key stands in a table, or where one would go.
use Rattle.std.specs.Prelude.{◌≡◌, ℕ, List, Some, slice_get, slice_set}
use Rattle.std.specs.List.{insert}
use Rattle.std.specs.declared.cmp.Ordering.{Ordering}
use Rattle.type_lattice_model.specs.Tables.{put}

module _ {K X : Type 0} (R : K → K → Ordering) (k : K) (m : List (K × X)) (at : ℕ) where
  -- the key is at this position, so that what is put there is joined with what it holds
  abbrev pub StandsAt : Type 0
  StandsAt = (y : X) × ((slice_get m at ≡ Some (k, y)) × ((j : X → X → X) (x : X) → put R j k x m ≡ slice_set m at (k, j y x)))

  -- the key isn't there, and its entry goes to this position
  abbrev pub GoesAt : Type 0
  GoesAt = (j : X → X → X) (x : X) → put R j k x m ≡ insert m at (k, x)
