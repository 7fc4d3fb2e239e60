-- How often one can go down from a type, to a smaller type at each step.
use Rattle.std.specs.Prelude.{ℕ, ◌≤◌}
use Rattle.type_kinds_sets.specs.Heights as heights
use Rattle.type_lattice.specs.Types.{Type4, Below}

-- from the type one can go down n times
abbrev pub Falls : ℕ → Type4 → Type 0
Falls n t = heights.Falls Below n t

-- the length of the longest way down
pub record IsHeight (n : ℕ) (t : Type4) : Type 0 where
  pub reached : Falls n t
  pub longest : (m : ℕ) → Falls m t → m ≤ n
