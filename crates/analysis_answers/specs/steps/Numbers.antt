-- Where a number as it is printed begins.
use Rattle.std.specs.Prelude.{◌≢◌, ℕ, List, [], ◌∷◌}

-- There is a first digit, and it isn't 0.
abbrev pub Begins : List ℕ → Type 0
Begins [] = ⊥
Begins (d ∷ ds) = d ≢ 48
