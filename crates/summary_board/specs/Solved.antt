-- The written outputs of a work, component by component, on one thread and without a board.
use Rattle.std.specs.Prelude.{ℕ, zero, suc, List, [], ◌∷◌, ◌++◌, slice_get}
use Rattle.std.specs.Option.{option_to_list}

-- The items at these positions, in the order of the positions.
abbrev pub picked : {X : Type 0} → List X → List ℕ → List X
picked xs [] = []
picked xs (c ∷ cs) = option_to_list (slice_get xs c) ++ picked xs cs

module _ {P O : Type 0} (written : P → List O → O) (part : ℕ → P) (callees : ℕ → List ℕ) where
  -- The outputs of the components below the count: each is the written one of its part and of its callees' outputs.
  abbrev pub solved : ℕ → List O
  solved zero = []
  solved (suc c) = solved c ++ written (part c) (picked (solved c) (callees c)) ∷ []
