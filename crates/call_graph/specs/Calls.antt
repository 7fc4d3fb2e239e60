-- The functions of modules that are analysed together, and which of them call which.
use Rattle.std.specs.Prelude.{◌≡◌, ◌≢◌, ℕ, Some, List, [], ◌∷◌, ◌++◌, Contains, slice_get}
use Rattle.type_kinds.specs.declared.atom.Atom.{Atom}
use Rattle.core_ast.specs.declared.syntax.Mark.{Mark}
use Rattle.core_ast.specs.declared.syntax.VarName.{VarName}
use Rattle.core_ast.specs.declared.syntax.FunName.{FunName}
use Rattle.core_ast.specs.Model as m
use Rattle.core_scope.specs.Asks.{erlang}
use Rattle.call_graph.specs.Targets.{CallTarget, targets}
use Rattle.call_graph.specs.Targets.CallTarget.{defined, inner, remote}

-- A function that a module defines: the module's name and exports, and its own definition.
pub record ModuleFunction : Type 0 where
  pub home : Atom
  pub exports : List FunName
  pub name : FunName
  pub mark : Mark
  pub params : List VarName
  pub body : m.Tree

-- The functions of definitions, in the order of the text.
abbrev pub functions_in : (home : Atom) → (exports : List FunName) → m.Defs → List ModuleFunction
functions_in home exports m.no_def = []
functions_in home exports (m.and_def f i xs t ds) = record { home = home; exports = exports; name = f; mark = i; params = xs; body = t } ∷ functions_in home exports ds

-- The functions of one module.
abbrev pub module_functions : m.Module → List ModuleFunction
module_functions x = functions_in x.name x.exports x.defs

-- The functions of modules: the modules in the order passed, each module's functions in that of the text.
abbrev pub functions_of : List m.Module → List ModuleFunction
functions_of [] = []
functions_of (x ∷ xs) = module_functions x ++ functions_of xs

-- A target in the body of f is the function g. A name that is applied is a function of f's own module, with any
-- number of arguments; a call reaches what a module exports, and in the module `erlang` nothing.
abbrev pub GoesTo : (f : ModuleFunction) → CallTarget → (g : ModuleFunction) → Type 0
GoesTo f (defined name count) g = (g.home ≡ f.home) × (g.name ≡ name)
GoesTo f (inner name count) g = ⊥
GoesTo f (remote home name) g = (g.home ≡ home) × (home ≢ erlang) × Contains g.exports name × (g.name ≡ name)

-- The function of number i calls that of number j: some target in the body of the first is the second.
pub record Calls (xs : List m.Module) (i j : ℕ) : Type 0 where
  pub caller : ModuleFunction
  pub callee : ModuleFunction
  pub target : CallTarget
  pub calling : slice_get (functions_of xs) i ≡ Some caller
  pub called : slice_get (functions_of xs) j ≡ Some callee
  pub stands : Contains (targets [] caller.body) target
  pub goes : GoesTo caller target callee
