-- What a walk sees at an expression: the variables with their slots, the functions of the `letrec`s around it, and the types
-- of the slots.
use Rattle.std.specs.Prelude.{ℕ, ◌+◌, List, [], ◌∷◌, ◌++◌, replicate, length, Option, Some, None}
use Rattle.type_kinds.specs.declared.atom.Atom.{Atom}
use Rattle.core_ast.specs.declared.syntax.VarName.{VarName}
use Rattle.core_ast.specs.declared.syntax.FunName.{FunName}
use Rattle.core_ast.specs.Model as m
use Rattle.core_scope.specs.Names.{defined_names}
use Rattle.type_lattice.specs.Types.{Type4}
use Rattle.cons_tree.specs.Environments.{Types, type_at}
use Rattle.cons_gen_rows.specs.Scopes.{Binding, Scope, bindings, slot_of}
use Rattle.module_flow_calls.specs.Functions.{defined_labels}
use Rattle.module_flow_calls.specs.TypeLists.{Given, as_many, value}

-- The variables, the outer before the inner, each with its slot; the functions, the outer before the inner, each with its
-- label; and the types of all slots that were given out.
pub record WalkScope : Type 0 where
  pub variables : List Binding
  pub functions : List FunName
  pub labels : List ℕ
  pub types : Types

-- nothing is seen
abbrev pub outermost : WalkScope
outermost = record { variables = []; functions = []; labels = []; types = [] }

-- the scope in which constraints are made
abbrev pub scope_in : WalkScope → Scope
scope_in sc = record { variables = sc.variables; functions = sc.functions }

abbrev pub type_of_slot : Types → Option ℕ → Option Type4
type_of_slot ts None = None
type_of_slot ts (Some s) = Some (type_at ts s)

-- the type of a variable
abbrev pub type_of : WalkScope → Atom → Option Type4
type_of sc x = type_of_slot sc.types (slot_of sc.variables x)

-- a variable that is bound
abbrev pub of_variable : Option Type4 → Given
of_variable None = None
of_variable (Some t) = value t

-- variables of these types, at the next slots
abbrev pub with_variables : WalkScope → List VarName → List Type4 → WalkScope
with_variables sc xs ts =
    record {
      variables = sc.variables ++ bindings xs (length sc.types);
      functions = sc.functions;
      labels = sc.labels;
      types = sc.types ++ as_many (length xs) ts;
    }

-- the functions of a `letrec`
abbrev pub with_functions : WalkScope → m.Defs → WalkScope
with_functions sc ds =
    record {
      variables = sc.variables;
      functions = sc.functions ++ defined_names ds;
      labels = sc.labels ++ defined_labels ds;
      types = sc.types;
    }

-- ---- what a `case` matches

-- with the values that clauses match, at the next slots
abbrev pub matching : WalkScope → List Type4 → WalkScope
matching sc ts =
    record { variables = sc.variables; functions = sc.functions; labels = sc.labels; types = sc.types ++ ts }

abbrev pub variable_name : m.Tree → Option Atom
variable_name (m.variable i x) = Some x
variable_name t = None

abbrev pub variable_names : m.Trees → List (Option Atom)
variable_names m.no_tree = []
variable_names (m.and_tree t ts) = variable_name t ∷ variable_names ts

-- which of n arguments are variables: the argument itself, or elements of a value list
abbrev pub argument_names : m.Tree → ℕ → List (Option Atom)
argument_names (m.values i ts) n = variable_names ts
argument_names (m.variable i x) n = Some x ∷ []
argument_names t n = replicate n None

abbrev pub slot_or : Option ℕ → ℕ → ℕ
slot_or None s = s
slot_or (Some r) s = r

abbrev pub argument_slot : List Binding → ℕ → Option Atom → ℕ
argument_slot bs s None = s
argument_slot bs s (Some x) = slot_or (slot_of bs x) s

-- the slots of the arguments: that of the variable, and of each other argument the one from s on that is its own by its position
abbrev pub argument_slots : List Binding → ℕ → List (Option Atom) → List ℕ
argument_slots bs s [] = []
argument_slots bs s (x ∷ xs) = argument_slot bs s x ∷ argument_slots bs (s + 1) xs
