-- Solutions over environments of types.
use Rattle.std.specs.Prelude.{ℕ, [], ◌∷◌, Some, None}
use Rattle.type_lattice.specs.Types.{Type4, AreBelow, join, rank}
use Rattle.cons_tree.specs.Constraints.{Cons}
use Rattle.cons_tree.specs.Environments.{Types, State}
use Rattle.cons_tree.specs.Narrowing.{narrowed}
use Rattle.cons_tree.specs.Trails.{summed}
use Rattle.cons_tree.specs.declared.parts.Part.{Part}
use Rattle.cons_solve.specs.Solutions.{Space, greatest, Solves as SolvesOver}

-- slot by slot
abbrev pub joins : Types → Types → Types
joins [] ys = []
joins (x ∷ xs) [] = []
joins (x ∷ xs) (y ∷ ys) = join x y ∷ joins xs ys

abbrev pub ranks : Types → ℕ
ranks = summed rank

-- types slot by slot, narrowed by the rows of the table
abbrev pub environments : Space
environments = record { Env = Types; Part = Part; Leq = AreBelow; join = joins; rank = ranks; narrow = narrowed }

-- the environment solves the constraint
abbrev pub Solves : Cons Part → Types → Type 0
Solves c xs = SolvesOver environments c xs

-- the greatest environment below this one that solves the constraint
abbrev pub solution : Cons Part → Types → State
solution c xs = greatest environments c xs

-- a measure of types summed over an environment; Bottom has none
abbrev pub summed_over : (Type4 → ℕ) → State → ℕ
summed_over h None = 0
summed_over h (Some xs) = summed h xs
