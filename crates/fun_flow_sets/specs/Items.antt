-- What sets of functions may hold, the places that have such sets, and the rules that a text makes between them.
use Rattle.std.specs.Prelude.{ℕ, Bool, true, false, ◌&&◌, if◌then◌else◌, Option, Some, None, nat_eq}
use Rattle.type_kinds.specs.declared.atom.Atom.{Atom}
use Rattle.core_ast.specs.declared.syntax.FunName.{FunName}
use Rattle.core_scope.specs.Asks.{function_name}
use Rattle.type_lattice_model.specs.Values.{Value, closure, external, Local}
use Rattle.core_meaning.specs.Programs.{Program, module_named, function_named, locals_of, Found, built_in, exported, hidden, outside, found}
use Rattle.core_ast.specs.Model as m

-- What a set may hold: the closures of the function at a label of a module, with its arity; an external function; or `anything`,
-- with which nothing is known of the values.
pub data Item : Type 0 where
  anything : Item
  closure_at : (home : Atom) (label arity : ℕ) → Item
  external_function : (home name : Atom) (arity : ℕ) → Item

-- Where values are. Each place has one set.
pub data Place : Type 0 where
  -- no functions stand here, and any values
  nowhere anywhere : Place
  -- a value of the expression at a label of a module, by its number
  part : (home : Atom) (label number : ℕ) → Place
  -- a parameter of the function at a label of a module, by its number, and what the function gives
  parameter : (home : Atom) (label number : ℕ) → Place
  returned : (home : Atom) (label : ℕ) → Place

-- What a text asks of the sets.
pub data Rule : Type 0 where
  -- the set of a place holds an item
  holds : (p : Place) (x : Item) → Rule
  -- what the first place holds the second one holds
  flows : (from to : Place) → Rule
  -- what stands at the place is applied to n arguments, by the application at a label of a module
  applies : (operator : Place) (n : ℕ) (home : Atom) (label : ℕ) → Rule

-- ---- functions of modules

abbrev pub defined_in : Option m.Module → FunName → Option Local
defined_in None f = None
defined_in (Some p) f = function_named (locals_of p.defs) f

-- the definition of a name in a module of the program
abbrev pub defined_at : Program → Atom → FunName → Option Local
defined_at U home f = defined_in (module_named U home) f

-- where what a definition gives is found
abbrev pub result_of : Atom → Option Local → Option Place
result_of home None = None
result_of home (Some d) = Some (returned home d.label)

-- ---- what applying an item does

-- a call that finds this enters the definition only where the function is exported
abbrev pub called_result : Found → Atom → Option Local → Option Place
called_result built_in home d = None
called_result exported home d = result_of home d
called_result hidden home d = None
called_result outside home d = None

-- The result of the function that an item enters where it is applied to n arguments: closures of that arity enter their function,
-- and external functions of that arity the one that their module exports.
abbrev pub entered : Program → ℕ → Item → Option Place
entered U n anything = None
entered U n (closure_at home label arity) = if nat_eq arity n then Some (returned home label) else None
entered U n (external_function home name arity) = if nat_eq arity n then called_result (found U home (function_name name arity)) home (defined_at U home (function_name name arity)) else None

-- the function isn't of these modules
abbrev pub is_foreign : Found → Bool
is_foreign built_in = true
is_foreign exported = false
is_foreign hidden = false
is_foreign outside = true

-- Nothing is known of what the item gives where it is applied to n arguments: of `anything`, and of external functions of that
-- arity that are built in or of modules outside of the program.
abbrev pub is_unknown : Program → ℕ → Item → Bool
is_unknown U n anything = true
is_unknown U n (closure_at home label arity) = false
is_unknown U n (external_function home name arity) = nat_eq arity n && is_foreign (found U home (function_name name arity))

-- ---- the items of values

-- the item that a function value is; a foreign function is anything
abbrev pub item_of : Value → Item
item_of (closure home label arity env) = closure_at home label arity
item_of (external home name arity) = external_function home name arity
item_of v = anything
