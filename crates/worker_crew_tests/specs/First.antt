-- What a component of a chain gives.
use Rattle.std.specs.Prelude.{ℕ, List, [], ◌∷◌}

-- The first input, or the part if there is none.
abbrev pub first_or : ℕ → List ℕ → ℕ
first_or part [] = part
first_or part (x ∷ xs) = x
