-- How functions are listed.
use Rattle.std.specs.Prelude.{ℕ, zero, suc, List, [], ◌∷◌, Option, Some, None, nat_eq, if◌then◌else◌, slice_index}
use Rattle.type_kinds.specs.declared.atom.Atom.{Atom}
use Rattle.core_ast.specs.Model as m
use Rattle.core_scope.specs.Asks.{function_name}
use Rattle.core_scope.specs.Names.{same_atom}
use Rattle.core_lines.specs.Lines.{lines_of}
use Rattle.type_lattice_model.specs.Values.{Local}
use Rattle.core_meaning.specs.Programs.{Program, locals_of, module_named}
use Rattle.fun_flow_sets.specs.Items.{Item, anything, closure_at, external_function}
use Rattle.fun_flow_answers.specs.declared.target.Target.{Target}
use Rattle.fun_flow_answers.specs.declared.target.Target.TheVariants.{Fun, Name}

-- the position of the first module of this name
abbrev pub position_of : Program → Atom → ℕ
position_of [] x = zero
position_of (p ∷ ps) x = if same_atom p.name x then zero else suc (position_of ps x)

-- the first of the definitions with this label
abbrev pub defined_with : List Local → (label : ℕ) → Option Local
defined_with [] l = None
defined_with (d ∷ ds) l = if nat_eq d.label l then Some d else defined_with ds l

-- the line of the node at a label
abbrev pub line_at : m.Module → (label : ℕ) → ℕ
line_at x l = slice_index (lines_of x) l

-- a definition of the module by its name, and every other function as a fun
abbrev pub function_target : (position : ℕ) → m.Module → (label : ℕ) → Option Local → Target
function_target i x l (Some d) = Name x.name (function_name d.name d.arity)
function_target i x l None = Fun i l (line_at x l)

-- the function at a label of a module
abbrev pub target_in : (position label : ℕ) → Option m.Module → Option Target
target_in i l None = None
target_in i l (Some x) = Some (function_target i x l (defined_with (locals_of x.defs) l))

-- An external function is listed by its name, whether its module exports it or not. Anything is no target.
abbrev pub target_of : Program → Item → Option Target
target_of U anything = None
target_of U (closure_at home l n) = target_in (position_of U home) l (module_named U home)
target_of U (external_function home name n) = Some (Name home (function_name name n))

-- how many arguments a function takes
abbrev pub arity_of : Item → ℕ
arity_of anything = 0
arity_of (closure_at home l n) = n
arity_of (external_function home name n) = n
