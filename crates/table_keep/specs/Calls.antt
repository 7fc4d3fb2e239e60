-- Which functions of other modules a module calls.
use Rattle.std.specs.Prelude.{◌||◌, if◌then◌else◌, List, [], ◌∷◌, ◌++◌}
use Rattle.std.specs.declared.cmp.Ordering.{Ordering}
use Rattle.std.specs.Ordering.{nat_cmp, ordering_then}
use Rattle.type_kinds.specs.declared.atom.Atom.{Atom}
use Rattle.type_kinds_sets.specs.Ascending.{merged}
use Rattle.type_kinds_sets.specs.Names.{name_cmp}
use Rattle.core_ast.specs.Model as m
use Rattle.core_scope.specs.Asks.{erlang}
use Rattle.core_scope.specs.Names.{same_atom}
use Rattle.call_graph.specs.Outside.{Called}
use Rattle.call_graph.specs.Targets.CallTarget.{defined, inner, remote}
use Rattle.call_graph.specs.Targets.{CallTarget, def_targets}

-- functions go by the module's name, and then by their own and its number of arguments
abbrev pub called_cmp : Called → Called → Ordering
called_cmp x y = ordering_then (name_cmp x.0 y.0) (ordering_then (name_cmp x.1.name y.1.name) (nat_cmp x.1.arity y.1.arity))

-- The target in a module of this name, where it is a call by literal names that leaves the module, and not into `erlang`, whose names
-- are the built-in functions.
abbrev pub leaving : (own : Atom) → CallTarget → List Called
leaving own (defined f n) = []
leaving own (inner f n) = []
leaving own (remote h f) = if same_atom h erlang || same_atom h own then [] else (h, f) ∷ []

abbrev pub all_leaving : (own : Atom) → List CallTarget → List Called
all_leaving own [] = []
all_leaving own (t ∷ ts) = leaving own t ++ all_leaving own ts

-- The functions of other modules that a module calls by literal names, in its whole text: each once, rising.
unfoldable pub called_functions : m.Module → List Called
called_functions x = merged called_cmp [] (all_leaving x.name (def_targets [] x.defs))

abbrev pub homes : List Called → List Atom
homes [] = []
homes (c ∷ cs) = c.0 ∷ homes cs

-- The modules of these functions: each once, rising.
unfoldable pub called_modules : m.Module → List Atom
called_modules x = merged name_cmp [] (homes (called_functions x))
