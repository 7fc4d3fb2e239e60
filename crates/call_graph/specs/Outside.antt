-- The calls that leave the modules: calls by literal names that go to no function of modules that are analysed together.
use Rattle.std.specs.Prelude.{Bool, ◌&&◌, ◌||◌, if◌then◌else◌, List, [], ◌∷◌, ◌++◌, Contains}
use Rattle.std.specs.List.{list_any}
use Rattle.type_kinds.specs.declared.atom.Atom.{Atom}
use Rattle.core_ast.specs.declared.syntax.FunName.{FunName}
use Rattle.core_ast.specs.Model as m
use Rattle.core_scope.specs.Asks.{erlang}
use Rattle.core_scope.specs.Names.{same_atom, same_function, has_function}
use Rattle.call_graph.specs.Targets.{CallTarget, targets}
use Rattle.call_graph.specs.Targets.CallTarget.{defined, inner, remote}
use Rattle.call_graph.specs.Calls.{ModuleFunction, functions_of, GoesTo}

-- What is called: the module's name, and the function's with its number of arguments.
abbrev pub Called : Type 0
Called = Atom × FunName

-- The function has this name, and this module, which exports it.
abbrev pub is_exported_as : (home : Atom) → (name : FunName) → ModuleFunction → Bool
is_exported_as home name g = same_atom home g.home && same_function name g.name && has_function g.exports name

-- The target, if it is a call by literal names that goes to none of these functions. A call into the module `erlang` is left out:
-- those names are the built-in functions.
abbrev pub outside_call : List ModuleFunction → CallTarget → List Called
outside_call gs (defined name count) = []
outside_call gs (inner name count) = []
outside_call gs (remote home name) = if same_atom home erlang || list_any (is_exported_as home name) gs then [] else (home, name) ∷ []

-- Those of targets, in their order.
abbrev pub outside_calls : List ModuleFunction → List CallTarget → List Called
outside_calls gs [] = []
outside_calls gs (t ∷ ts) = outside_call gs t ++ outside_calls gs ts

-- The calls in a function's body, at any depth, that go to no function of the modules, in the order of the text.
abbrev pub outside_of : List m.Module → ModuleFunction → List Called
outside_of xs f = outside_calls (functions_of xs) (targets [] f.body)

-- ---- what these calls are

-- Some function of the modules is what the target in the body of f goes to.
abbrev pub GoesInside : (xs : List m.Module) → (f : ModuleFunction) → CallTarget → Type 0
GoesInside xs f target = (g : ModuleFunction) × Contains (functions_of xs) g × GoesTo f target g
