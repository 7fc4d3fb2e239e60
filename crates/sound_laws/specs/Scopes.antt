-- A scope of the text beside an environment of a run.
use Rattle.std.specs.Prelude.{◌≡◌, ℕ, ◌<◌, false, Some, None}
use Rattle.type_kinds.specs.declared.atom.Atom.{Atom}
use Rattle.core_ast.specs.declared.syntax.FunName.{FunName}
use Rattle.core_scope.specs.Names.{has_function}
use Rattle.type_lattice_model.specs.Values.{Value, Env}
use Rattle.cons_tree.specs.Environments.{Assignment}
use Rattle.core_meaning.specs.Environments.{value_of, local_function}
use Rattle.cons_gen_rows.specs.Scopes.{Scope, slot_of}

-- The scope stands for the environment of an expression of a module. What a variable is bound to stands in the variable's slot,
-- which is below m; and a function that the scope doesn't have is none of a `letrec` around.
pub record StandsFor (home : Atom) (m : ℕ) (a : Assignment) (sc : Scope) (env : Env) : Type 0 where
  pub variables : (x : Atom) (v : Value) → value_of env x ≡ Some v → (r : ℕ) × ((slot_of sc.variables x ≡ Some r) × ((r < m) × (a r ≡ v)))
  pub functions : (f : FunName) → has_function sc.functions f ≡ false → local_function home env f ≡ None
