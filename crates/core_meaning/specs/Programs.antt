-- Programs: the modules whose functions run, and what stands in them under a name or at a label.
use Rattle.std.specs.Prelude.{◌≡◌, ℕ, Bool, false, ◌&&◌, List, [], ◌∷◌, Option, Some, None, nat_eq, if◌then◌else◌}
use Rattle.type_kinds.specs.declared.atom.Atom.{Atom}
use Rattle.core_ast.specs.declared.syntax.Mark.{Mark}
use Rattle.core_ast.specs.declared.syntax.VarName.{VarName}
use Rattle.core_ast.specs.declared.syntax.FunName.{FunName}
use Rattle.core_ast.specs.Model as m
use Rattle.core_scope.specs.Asks.{erlang}
use Rattle.core_scope.specs.Names.{same_atom, has_function}
use Rattle.core_scope.specs.Functions.{LabelledFunction, labelled_function, functions_of}
use Rattle.type_lattice_model.specs.Values.{Value, Env, no_variable, closure, Local}

-- the modules, whose names differ
abbrev pub Program : Type 0
Program = List m.Module

abbrev pub module_named : Program → Atom → Option m.Module
module_named [] home = None
module_named (p ∷ ps) home = if same_atom p.name home then Some p else module_named ps home

-- the program has this module under its name
abbrev pub HasModule : Program → m.Module → Type 0
HasModule U p = module_named U p.name ≡ Some p

-- ---- functions by their labels

-- the first of the functions with this label
abbrev pub with_label : List LabelledFunction → ℕ → Option LabelledFunction
with_label [] l = None
with_label (f ∷ fs) l = if nat_eq f.label l then Some f else with_label fs l

abbrev pub in_module : Option m.Module → ℕ → Option LabelledFunction
in_module None l = None
in_module (Some p) l = with_label (functions_of p) l

-- the function at a label of a module of the program: a fun or a definition
abbrev pub function_at : Program → Atom → ℕ → Option LabelledFunction
function_at U home l = in_module (module_named U home) l

-- a function is what is found at its own label, under its name or none
abbrev pub IsAtLabel : Program → Atom → Mark → Option FunName → List VarName → m.Tree → Type 0
IsAtLabel U home k f xs t = function_at U home k.label ≡ Some (labelled_function k f xs t)

-- so is each of these definitions
abbrev pub AreAtLabels : Program → Atom → m.Defs → Type 0
AreAtLabels U home m.no_def = Unit {0}
AreAtLabels U home (m.and_def f k xs t ds) = IsAtLabel U home k (Some f) xs t × AreAtLabels U home ds

-- ---- functions by their names

-- definitions, by their names, arities and labels
abbrev pub locals_of : m.Defs → List Local
locals_of m.no_def = []
locals_of (m.and_def f k xs t ds) = record { name = f.name; arity = f.arity; label = k.label } ∷ locals_of ds

abbrev pub function_named : List Local → FunName → Option Local
function_named [] f = None
function_named (d ∷ ds) f = if same_atom d.name f.name && nat_eq d.arity f.arity then Some d else function_named ds f

-- the closure of a function that is found, over an environment
abbrev pub closure_of : Atom → Env → Option Local → Option Value
closure_of home env None = None
closure_of home env (Some d) = Some (closure home d.label d.arity env)

abbrev pub top_of_module : Atom → Option m.Module → FunName → Option Value
top_of_module home None f = None
top_of_module home (Some p) f = closure_of home no_variable (function_named (locals_of p.defs) f)

-- the closure of a function that a module of the program defines. It has captured nothing
abbrev pub top_function : Program → Atom → FunName → Option Value
top_function U home f = top_of_module home (module_named U home) f

-- ---- what a call by a module and a name finds

pub data Found : Type 0 where
  -- a function of the module `erlang`, whatever module of that name is among the program's
  built_in : Found
  -- a function that its module exports, and one that its module doesn't have or doesn't export
  exported : Found
  hidden : Found
  -- a function of another module
  outside : Found

abbrev pub exports_in : Option m.Module → FunName → Bool
exports_in None f = false
exports_in (Some p) f = has_function p.exports f

-- whether a module of the program exports the function
abbrev pub is_exported : Program → Atom → FunName → Bool
is_exported U home f = exports_in (module_named U home) f

abbrev pub found_in : Option m.Module → FunName → Found
found_in None f = outside
found_in (Some p) f = if has_function p.exports f then exported else hidden

abbrev pub found : Program → Atom → FunName → Found
found U home f = if same_atom home erlang then built_in else found_in (module_named U home) f
