-- Assignments that give more slots a value.
use Rattle.std.specs.Prelude.{◌≡◌, ℕ, ◌<◌}
use Rattle.cons_tree.specs.Environments.{Assignment}

-- two assignments have the same value at each slot below m
abbrev pub Alike : ℕ → Assignment → Assignment → Type 0
Alike m a b = (i : ℕ) → i < m → a i ≡ b i

-- An assignment that has the values of another below m, and gives values to the slots from m to n so that something holds. It
-- holds whatever stands in the slots from n on.
pub record Extension (a : Assignment) (m n : ℕ) (P : Assignment → Type 0) : Type 0 where
  pub to : Assignment
  pub same : Alike m a to
  pub holds : (b : Assignment) → Alike n to b → P b
