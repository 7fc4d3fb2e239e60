-- How long the lists of the model are.
use Rattle.std.specs.Prelude.{ℕ, ◌+◌}
use Rattle.core_ast.specs.Model as m

-- How many expressions there are.
abbrev pub how_many : m.Trees → ℕ
how_many m.no_tree = 0
how_many (m.and_tree t ts) = how_many ts + 1

-- How many patterns there are.
abbrev pub how_many_patterns : m.Patterns → ℕ
how_many_patterns m.no_pattern = 0
how_many_patterns (m.and_pattern p ps) = how_many_patterns ps + 1
