-- Worked examples: the targets of expressions, the functions of modules, and the calls that go to none.
use Rattle.std.proofs.Common.{◌≡◌, [], ◌∷◌, List, refl, None, codes, false}
use Rattle.type_kinds.specs.declared.atom.Atom.{Atom}
use Rattle.core_ast.specs.declared.syntax.Mark.{Mark}
use Rattle.core_ast.specs.declared.syntax.FunName.{FunName}
use Rattle.core_ast.specs.declared.syntax.Literal.TheVariants as l
use Rattle.core_ast.specs.Model as m
use Rattle.core_scope.specs.Asks.{function_name}
use Rattle.call_graph.specs.Targets.{targets}
use Rattle.call_graph.specs.Targets.CallTarget.{defined, inner, remote}
use Rattle.call_graph.specs.Calls.{ModuleFunction, functions_of}
use Rattle.call_graph.specs.Outside.{Called, outside_of}

-- ---- words for the examples

abbrev mark : Mark
mark = record { label = 0; place = record { byte = 0; line = 1 }; note = record { line = None; generated = false } }

abbrev f : FunName
f = function_name (codes "f") 1

abbrev g : FunName
g = function_name (codes "g") 1

abbrev atom : Atom → m.Tree
atom x = m.literal mark (l.Atom x)

abbrev only : m.Tree → m.Trees
only t = m.and_tree t m.no_tree

abbrev one_def : FunName → m.Tree → m.Defs
one_def f t = m.and_def f mark [] t m.no_def

abbrev apply : FunName → m.Trees → m.Tree
apply f ts = m.apply mark (m.local mark f) ts

abbrev call : Atom → Atom → m.Trees → m.Tree
call home name ts = m.call mark (atom home) (atom name) ts

abbrev nil : m.Tree
nil = m.literal mark l.Nil

abbrev one_clause : m.Patterns → m.Tree → m.Tree → m.Clauses
one_clause ps guard t = m.and_clause mark ps guard t m.no_clause

-- ---- targets

-- the number of arguments counts as it stands, not the arity
applied_with_two : targets [] (apply f (m.and_tree nil (only nil))) ≡ defined f 2 ∷ []
applied_with_two = refl

-- a name as a value is no target
name_as_value : targets [] (m.tuple mark (only (m.local mark f))) ≡ []
name_as_value = refl

-- a `letrec` hides a function of the module, in its definitions and in its body, and not behind it
hidden : targets [] (m.tuple mark (m.and_tree (m.letrec mark (one_def f (apply f (only nil))) (apply f (only nil))) (only (apply f (only nil)))))
    ≡ inner f 1 ∷ inner f 1 ∷ defined f 1 ∷ []
hidden = refl

-- the arguments of an application have targets, behind its own
in_arguments : targets [] (apply f (only (apply g (only nil)))) ≡ defined f 1 ∷ defined g 1 ∷ []
in_arguments = refl

-- a call by literal names, and one whose module is computed
called_by_names : targets [] (call (codes "m") (codes "h") m.no_tree) ≡ remote (codes "m") (function_name (codes "h") 0) ∷ []
called_by_names = refl

called_by_variable : targets [] (m.call mark (m.variable mark (codes "M")) (atom (codes "h")) (only (apply f m.no_tree))) ≡ defined f 0 ∷ []
called_by_variable = refl

-- a fun inside
in_fun : targets [] (m.function mark [] (apply f m.no_tree)) ≡ defined f 0 ∷ []
in_fun = refl

-- the guard of a clause, its body, the key of a map in its pattern and the argument of a segment
in_clause : targets [] (m.case mark nil (one_clause
    (m.and_pattern (m.map_of mark (m.and_pat_pair (apply f m.no_tree) (m.binds mark (codes "X")) m.no_pat_pair))
    (m.and_pattern (m.binary_of mark (m.and_pat_segment (m.binds mark (codes "Y")) (only (apply g m.no_tree)) m.no_pat_segment)) m.no_pattern))
    (call (codes "erlang") (codes "h") m.no_tree) (apply f (only nil))))
    ≡ defined f 0 ∷ defined g 0 ∷ remote (codes "erlang") (function_name (codes "h") 0) ∷ defined f 1 ∷ []
in_clause = refl

-- ---- functions

abbrev module_of : Atom → List FunName → m.Defs → m.Module
module_of name exports ds = record { name = name; exports = exports; export_places = []; defs = ds; note = record { line = None; generated = false } }

abbrev function_of : Atom → List FunName → FunName → m.Tree → ModuleFunction
function_of home exports f t = record { home = home; exports = exports; name = f; mark = mark; params = []; body = t }

-- the functions of two modules, of which the first exports one
two_modules : functions_of (module_of (codes "m") (f ∷ []) (m.and_def f mark [] nil (one_def g nil)) ∷ module_of (codes "n") [] (one_def f nil) ∷ [])
    ≡ function_of (codes "m") (f ∷ []) f nil ∷ function_of (codes "m") (f ∷ []) g nil ∷ function_of (codes "n") [] f nil ∷ []
two_modules = refl

-- ---- calls that go to no function

-- modules, of which the first exports one function, and the second none
abbrev two : List m.Module
two = module_of (codes "m") (f ∷ []) (m.and_def f mark [] nil (one_def g nil)) ∷ module_of (codes "n") [] (one_def f nil) ∷ []

abbrev outside : m.Tree → List Called
outside t = outside_of two (function_of (codes "m") [] g t)

-- a function that its module exports is reached, one that it doesn't export isn't, nor one that it lacks, also where the call stands in that module
not_exported : outside (m.tuple mark (m.and_tree (call (codes "m") (codes "f") (only nil)) (m.and_tree (call (codes "m") (codes "g") (only nil)) (only (call (codes "n") (codes "f") (only nil))))))
    ≡ (codes "m", g) ∷ (codes "n", f) ∷ []
not_exported = refl

not_there : outside (m.tuple mark (m.and_tree (call (codes "m") (codes "f") m.no_tree) (only (call (codes "o") (codes "f") (only nil))))) ≡ (codes "m", function_name (codes "f") 0) ∷ (codes "o", f) ∷ []
not_there = refl

-- an argument stands behind the call that has it, and a call that stands twice is listed twice
twice : outside (call (codes "o") (codes "g") (only (call (codes "o") (codes "g") (only nil)))) ≡ (codes "o", g) ∷ (codes "o", g) ∷ []
twice = refl

-- built-in functions, names that are applied, and a call whose module is computed are left out
left_out : outside (m.tuple mark (m.and_tree (call (codes "erlang") (codes "h") m.no_tree) (m.and_tree (apply g m.no_tree) (only (m.call mark (m.variable mark (codes "M")) (atom (codes "h")) m.no_tree))))) ≡ []
left_out = refl
