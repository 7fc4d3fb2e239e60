-- What a walk sees at an expression, beside an environment of a run.
use Rattle.std.specs.Prelude.{◌≡◌, ℕ, Option, Some, None, length}
use Rattle.type_kinds.specs.declared.atom.Atom.{Atom}
use Rattle.core_ast.specs.declared.syntax.FunName.{FunName}
use Rattle.core_ast.specs.Model as m
use Rattle.core_scope.specs.Names.{defined_names}
use Rattle.type_lattice_model.specs.Values.{Env, closure, Local}
use Rattle.cons_tree.specs.Environments.{Assignment, LiesIn}
use Rattle.core_meaning.specs.Environments.{local_function}
use Rattle.core_meaning.specs.Programs.{function_named, locals_of}
use Rattle.module_flow_calls.specs.Functions.{defined_labels, label_named}
use Rattle.module_flow_state.specs.Scopes.{WalkScope, scope_in}
use Rattle.sound_laws.specs.Scopes.{StandsFor}

-- the functions of `letrec`s that are seen are those of the environment, each with its label
pub record FunctionsAre (home : Atom) (sc : WalkScope) (env : Env) : Type 0 where
  pub paired : length sc.functions ≡ length sc.labels
  pub others : (f : FunName) → local_function home env f ≡ None → label_named sc.functions sc.labels f ≡ None
  pub inner : (f : FunName) (label arity : ℕ) (around : Env) → local_function home env f ≡ Some (closure home label arity around) → label_named sc.functions sc.labels f ≡ Some label

-- The environment has values of the types that are seen: some values of all slots are of the slots' types, and those of the
-- variables are what the environment binds them to.
pub record IsSeen (home : Atom) (sc : WalkScope) (env : Env) : Type 0 where
  pub at : Assignment
  pub stands : StandsFor home (length sc.types) at (scope_in sc) env
  pub inside : LiesIn at sc.types
  pub functions : FunctionsAre home sc env

abbrev pub label_found : Option Local → Option ℕ
label_found None = None
label_found (Some d) = Some d.label

-- the innermost definition of a name is the first one: so it is where no name stands twice
abbrev pub NamesOnce : m.Defs → Type 0
NamesOnce ds = (f : FunName) → label_named (defined_names ds) (defined_labels ds) f ≡ label_found (function_named (locals_of ds) f)
