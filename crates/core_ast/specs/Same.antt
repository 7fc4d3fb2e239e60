-- When two modules are the same apart from places: they are equal once every place is one and the same.
use Rattle.std.specs.Prelude.{◌≡◌, false, []}
use Rattle.core_ast.specs.declared.syntax.Mark.{Mark}
use Rattle.core_ast.specs.declared.syntax.VarName.{VarName}
use Rattle.core_ast.specs.Model as m
use Rattle.core_ast.specs.Compared.{compared_mark, compared_variable, compared, compared_all, compared_pairs, compared_segments, compared_steps}
use Rattle.core_ast.specs.Compared.{compared_clauses, compared_defs, compared_pattern, compared_patterns, compared_pat_pairs, compared_pat_segments}
pub use Rattle.core_ast.specs.Compared.{nowhere}

-- Marks, variables and trees without their places.
abbrev pub bare_mark : Mark → Mark
bare_mark = compared_mark false

abbrev pub bare_variable : VarName → VarName
bare_variable = compared_variable false

abbrev pub bare : m.Tree → m.Tree
bare = compared false

abbrev pub bare_all : m.Trees → m.Trees
bare_all = compared_all false

abbrev pub bare_pairs : m.Pairs → m.Pairs
bare_pairs = compared_pairs false

abbrev pub bare_segments : m.Segments → m.Segments
bare_segments = compared_segments false

abbrev pub bare_steps : m.Steps → m.Steps
bare_steps = compared_steps false

abbrev pub bare_clauses : m.Clauses → m.Clauses
bare_clauses = compared_clauses false

abbrev pub bare_defs : m.Defs → m.Defs
bare_defs = compared_defs false

abbrev pub bare_pattern : m.Pattern → m.Pattern
bare_pattern = compared_pattern false

abbrev pub bare_patterns : m.Patterns → m.Patterns
bare_patterns = compared_patterns false

abbrev pub bare_pat_pairs : m.PatPairs → m.PatPairs
bare_pat_pairs = compared_pat_pairs false

abbrev pub bare_pat_segments : m.PatSegments → m.PatSegments
bare_pat_segments = compared_pat_segments false

-- A module without its places.
abbrev pub without_places : m.Module → m.Module
without_places x = record x { export_places = []; defs = bare_defs x.defs }

-- The modules are equal apart from places.
abbrev pub Same : m.Module → m.Module → Type 0
Same x y = without_places x ≡ without_places y
