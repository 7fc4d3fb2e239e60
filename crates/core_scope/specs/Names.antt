-- Names in scope: which variables are bound, and which functions are defined.
use Rattle.std.specs.Prelude.{Bool, ◌&&◌, if◌then◌else◌, List, [], ◌∷◌, ◌++◌, Contains, codes, nat_eq}
use Rattle.std.specs.List.{list_any}
use Rattle.std.specs.Cmp.Lexicographic.{pointwise}
use Rattle.type_kinds.specs.declared.atom.Atom.{Atom}
use Rattle.core_ast.specs.declared.syntax.VarName.{VarName}
use Rattle.core_ast.specs.declared.syntax.FunName.{FunName}
use Rattle.core_ast.specs.Model as m

-- No item stands twice.
abbrev pub Distinct : {A : Type 0} → List A → Type 0
Distinct [] = Unit {0}
Distinct (x ∷ xs) = (Contains xs x → ⊥) × Distinct xs

-- ---- tests of names

abbrev pub same_atom : Atom → Atom → Bool
same_atom = pointwise nat_eq

abbrev pub same_function : FunName → FunName → Bool
same_function f g = same_atom f.name g.name && nat_eq f.arity g.arity

-- The variable is among these.
abbrev pub has_variable : List Atom → Atom → Bool
has_variable xs x = list_any (same_atom x) xs

-- The function is among these.
abbrev pub has_function : List FunName → FunName → Bool
has_function fs f = list_any (same_function f) fs

-- ---- variables that are bound

-- the variable that binds nothing
abbrev pub wildcard : Atom
wildcard = codes "_"

-- What a variable binds where it stands in a pattern or a list of variables: itself, and `_` nothing.
abbrev pub bound : Atom → List Atom
bound x = if same_atom x wildcard then [] else x ∷ []

-- What a list of variables binds, in its order.
abbrev pub bound_by : List VarName → List Atom
bound_by [] = []
bound_by (x ∷ xs) = bound x.name ++ bound_by xs

-- What patterns bind, in the order of the text.
abbrev mutual
  pub pattern_bound : m.Pattern → List Atom
  pattern_bound (m.binds k x) = bound x
  pattern_bound (m.equals k l) = []
  pattern_bound (m.list_of k ps p) = patterns_bound ps ++ pattern_bound p
  pattern_bound (m.tuple_of k ps) = patterns_bound ps
  pattern_bound (m.map_of k ps) = pairs_bound ps
  pattern_bound (m.binary_of k ss) = segments_bound ss
  pattern_bound (m.alias k x p) = bound x.name ++ pattern_bound p

  pub patterns_bound : m.Patterns → List Atom
  patterns_bound m.no_pattern = []
  patterns_bound (m.and_pattern p ps) = pattern_bound p ++ patterns_bound ps

  pub pairs_bound : m.PatPairs → List Atom
  pairs_bound m.no_pat_pair = []
  pairs_bound (m.and_pat_pair key p ps) = pattern_bound p ++ pairs_bound ps

  pub segments_bound : m.PatSegments → List Atom
  segments_bound m.no_pat_segment = []
  segments_bound (m.and_pat_segment p args ss) = pattern_bound p ++ segments_bound ss

-- What the steps of a chain bind.
abbrev pub steps_bound : m.Steps → List Atom
steps_bound m.no_step = []
steps_bound (m.and_let k xs t ss) = bound_by xs ++ steps_bound ss
steps_bound (m.and_do k t ss) = steps_bound ss

-- ---- functions that are defined

-- The names of definitions, in the order of the text.
abbrev pub defined_names : m.Defs → List FunName
defined_names m.no_def = []
defined_names (m.and_def f k xs t ds) = f ∷ defined_names ds

-- ---- a scope

-- What an expression sees: the variables that are bound around it and the functions that are defined,
-- the outer before the inner.
pub record Scope : Type 0 where
  pub variables : List Atom
  pub functions : List FunName

abbrev pub with_variables : Scope → List Atom → Scope
with_variables s xs = record { variables = s.variables ++ xs; functions = s.functions }

abbrev pub with_functions : Scope → List FunName → Scope
with_functions s fs = record { variables = s.variables; functions = s.functions ++ fs }

-- What the funs of a module see.
abbrev pub module_scope : m.Module → Scope
module_scope x = record { variables = []; functions = defined_names x.defs }
