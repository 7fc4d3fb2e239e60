-- What an expression sees while its constraint is made: the slot of each variable that is bound around it, and the functions
-- of the `letrec`s around it.
use Rattle.std.specs.Prelude.{ℕ, ◌+◌, List, [], ◌∷◌, ◌++◌, Option, Some, None, if◌then◌else◌}
use Rattle.type_kinds.specs.declared.atom.Atom.{Atom}
use Rattle.core_ast.specs.declared.syntax.VarName.{VarName}
use Rattle.core_ast.specs.declared.syntax.FunName.{FunName}
use Rattle.core_scope.specs.Names.{same_atom, wildcard}

-- a variable with its slot
abbrev pub Binding : Type 0
Binding = Atom × ℕ

-- the variables, the outer before the inner, and the names of the functions
pub record Scope : Type 0 where
  pub variables : List Binding
  pub functions : List FunName

abbrev pub with_bindings : Scope → List Binding → Scope
with_bindings sc bs = record { variables = sc.variables ++ bs; functions = sc.functions }

abbrev pub with_functions : Scope → List FunName → Scope
with_functions sc fs = record { variables = sc.variables; functions = sc.functions ++ fs }

abbrev pub or_outer : Option ℕ → Option ℕ → Option ℕ
or_outer None o = o
or_outer (Some s) o = Some s

-- the slot of a variable: that of its innermost binding
abbrev pub slot_of : List Binding → Atom → Option ℕ
slot_of [] x = None
slot_of ((y, s) ∷ bs) x = or_outer (slot_of bs x) (if same_atom y x then Some s else None)

-- a variable at a slot. `_` binds nothing
abbrev pub binding : Atom → ℕ → List Binding
binding x s = if same_atom x wildcard then [] else (x, s) ∷ []

-- a list of variables, each at a slot of its own from this one on
abbrev pub bindings : List VarName → ℕ → List Binding
bindings [] s = []
bindings (x ∷ xs) s = binding x.name s ++ bindings xs (s + 1)
