-- How many functions a module has.
use Rattle.std.specs.Prelude.{ℕ, ◌≤◌, [], ◌∷◌, length}
use Rattle.core_ast.specs.Model as m
use Rattle.call_graph.specs.Calls.{functions_of}

-- It has at most n.
abbrev pub HasAtMost : m.Module → ℕ → Type 0
HasAtMost x n = length (functions_of (x ∷ [])) ≤ n
