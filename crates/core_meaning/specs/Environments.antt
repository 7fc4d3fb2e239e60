-- Environments of a run: what variables are bound to, and which functions of `letrec`s are in scope.
use Rattle.std.specs.Prelude.{List, [], ◌∷◌, Option, Some, None, if◌then◌else◌}
use Rattle.type_kinds.specs.declared.atom.Atom.{Atom}
use Rattle.core_ast.specs.declared.syntax.VarName.{VarName}
use Rattle.core_ast.specs.declared.syntax.FunName.{FunName}
use Rattle.core_scope.specs.Names.{same_atom, wildcard}
use Rattle.type_lattice_model.specs.Values.{Value, Values, no_value, and_value, Env, no_variable, and_variable, and_frame}
use Rattle.core_meaning.specs.Programs.{Program, function_named, closure_of, top_function}

-- one more variable. `_` binds nothing
abbrev pub with_variable : Atom → Value → Env → Env
with_variable x v env = if same_atom x wildcard then env else and_variable x v env

-- the variables bound to as many values, one after another
abbrev pub with_variables : List VarName → Values → Env → Env
with_variables [] vs env = env
with_variables (x ∷ xs) no_value env = env
with_variables (x ∷ xs) (and_value v vs) env = with_variables xs vs (with_variable x.name v env)

-- what a variable is bound to
abbrev pub value_of : Env → Atom → Option Value
value_of no_variable x = None
value_of (and_variable y v env) x = if same_atom y x then Some v else value_of env x
value_of (and_frame ds env) x = value_of env x

abbrev pub or_outer : Option Value → Option Value → Option Value
or_outer None o = o
or_outer (Some v) o = Some v

-- the closure of a function of a `letrec` around: its environment is the one that the `letrec` made
abbrev pub local_function : Atom → Env → FunName → Option Value
local_function home no_variable f = None
local_function home (and_variable y v env) f = local_function home env f
local_function home (and_frame ds env) f = or_outer (closure_of home (and_frame ds env) (function_named ds f)) (local_function home env f)

-- the closure of a function's name: of a `letrec` around, or else of the module
abbrev pub function_of : Program → Atom → Env → FunName → Option Value
function_of U home env f = or_outer (local_function home env f) (top_function U home f)
