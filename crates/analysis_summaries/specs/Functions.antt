-- The functions of modules that are analysed together, as their summaries see them.
use Rattle.std.specs.Prelude.{ℕ, List, [], ◌∷◌, ◌++◌, map, slice_get, Option, Some, None}
use Rattle.core_ast.specs.Model as m
use Rattle.core_scope.specs.Names.{has_function}
use Rattle.call_graph.specs.Calls.{ModuleFunction, functions_of}
use Rattle.comp_rounds.specs.Rounds.{Function}

-- a function with its module, and whether that exports it
abbrev pub summarized : ModuleFunction → Function
summarized g = record {
  home = g.home;
  name = g.name;
  parameters = g.params;
  body = g.body;
  exported = has_function g.exports g.name;
}

-- the functions of modules, in the order of their numbers
abbrev pub all_functions : List m.Module → List Function
all_functions xs = map summarized (functions_of xs)

abbrev pub perhaps : Option Function → List Function
perhaps None = []
perhaps (Some g) = g ∷ []

-- the functions of these numbers
abbrev pub picked : List Function → List ℕ → List Function
picked fs [] = []
picked fs (i ∷ is) = perhaps (slice_get fs i) ++ picked fs is
