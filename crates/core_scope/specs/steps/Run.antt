-- Numbers that follow each other.
use Rattle.std.specs.Prelude.{ℕ, ◌+◌, List, [], ◌∷◌}

-- The list is n, n + 1 and so on, and k follows its last.
pub data Run : ℕ → List ℕ → ℕ → Type 0 where
  no_more : {n : ℕ} → Run n [] n
  and_then : {n k : ℕ} {xs : List ℕ} → Run (n + 1) xs k → Run n (n ∷ xs) k
