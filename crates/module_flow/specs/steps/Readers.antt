-- Which functions of a module read what is known of a function.
use Rattle.std.specs.Prelude.{◌≡◌, ℕ, List, [], Some, slice_get, slice_index_or}
use Rattle.std.specs.List.{Contains}
use Rattle.module_flow.specs.declared.visits.Visit.{Visit}

-- table: of each label the positions of the functions that read it
abbrev pub readers : (table : List (List ℕ)) → (label : ℕ) → List ℕ
readers table l = slice_index_or table l []

-- all that was noted stays
abbrev pub KeepsReaders : (before after : List (List ℕ)) → Type 0
KeepsReaders before after = (l q : ℕ) → Contains (readers before l) q → Contains (readers after l) q

-- the function at this position is noted for each of these labels
abbrev pub IsReader : List (List ℕ) → List ℕ → ℕ → Type 0
IsReader table ls q = (l : ℕ) → Contains ls l → Contains (readers table l) q

-- each function is noted for what its last walk read
pub record AreNoted (table : List (List ℕ)) (visits : List Visit) : Type 0 where
  pub own : (q : ℕ) (v : Visit) → slice_get visits q ≡ Some v → IsReader table v.own q
  pub given : (q : ℕ) (v : Visit) → slice_get visits q ≡ Some v → IsReader table v.given q
