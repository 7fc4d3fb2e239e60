-- The table of functions: what a look-up answers, and what a table of modules has.
use Rattle.std.specs.Prelude.{◌≡◌, ◌≢◌, ◌↔◌, ℕ, Bool, ◌&&◌, if◌then◌else◌, Option, Some, None, List, map, length, Contains, slice_get, nat_eq}
use Rattle.std.specs.List.{list_any}
use Rattle.std.specs.Map.{lookup}
use Rattle.type_kinds.specs.declared.atom.Atom.{Atom}
use Rattle.core_ast.specs.declared.syntax.FunName.{FunName}
use Rattle.core_ast.specs.Model as m
use Rattle.core_scope.specs.Names.{same_atom}
use Rattle.core_scope.specs.Asks.{erlang}
use Rattle.call_graph.specs.declared.keys.FunctionKey.{FunctionKey}
use Rattle.call_graph.specs.declared.table.FunctionEntry.{FunctionEntry}
use Rattle.call_graph.specs.declared.table.FunctionTable.{FunctionTable}
use Rattle.call_graph.specs.declared.table.Resolved.{Resolved}
use Rattle.call_graph.specs.declared.table.Resolved.TheVariants.{BuiltIn, NotPassed, NotExported, Function}
use Rattle.call_graph.specs.Calls.{ModuleFunction, functions_of}

-- ---- look-ups

abbrev pub key_of : Atom → FunName → FunctionKey
key_of home f = record { home = home; name = f.name; arity = f.arity }

abbrev pub same_key : FunctionKey → FunctionKey → Bool
same_key k l = same_atom k.home l.home && same_atom k.name l.name && nat_eq k.arity l.arity

abbrev pub entry_at : FunctionTable → FunctionKey → Option FunctionEntry
entry_at table k = lookup (same_key k) table.functions.entries

abbrev pub number_in : Option FunctionEntry → Option ℕ
number_in None = None
number_in (Some e) = Some e.number

-- The number of a module's function by its name, where there is such a function.
abbrev pub own_number : FunctionTable → (home : Atom) → FunName → Option ℕ
own_number table home f = number_in (entry_at table (key_of home f))

abbrev pub reached : Option FunctionEntry → Resolved
reached None = NotExported
reached (Some e) = if e.exported then Function e.number else NotExported

-- What a call by literal module and name reaches. The module `erlang` is the built-in functions, and never one of those
-- passed.
abbrev pub resolved : FunctionTable → (home : Atom) → FunName → Resolved
resolved table home f =
    if same_atom home erlang then BuiltIn else if list_any (same_atom home) table.modules.keys then reached (entry_at table (key_of home f)) else NotPassed

-- ---- the table of modules

-- A call by these literal names may go to the function.
abbrev pub IsReached : (home : Atom) → FunName → ModuleFunction → Type 0
IsReached home f g = (g.home ≡ home) × (home ≢ erlang) × Contains g.exports f × (g.name ≡ f)

-- A table has exactly the functions of these modules, under their numbers.
pub record IsTableOf (xs : List m.Module) (table : FunctionTable) : Type 0 where
  pub count : table.count ≡ length (functions_of xs)
  pub own : (home : Atom) (f : FunName) (j : ℕ) → (own_number table home f ≡ Some j) ↔ ((g : ModuleFunction) × (slice_get (functions_of xs) j ≡ Some g) × (g.home ≡ home) × (g.name ≡ f))
  pub reaches : (home : Atom) (f : FunName) (j : ℕ) → (resolved table home f ≡ Function j) ↔ ((g : ModuleFunction) × (slice_get (functions_of xs) j ≡ Some g) × IsReached home f g)
  pub built_in : (home : Atom) (f : FunName) → (resolved table home f ≡ BuiltIn) ↔ (home ≡ erlang)
  pub elsewhere : (home : Atom) (f : FunName) → (resolved table home f ≡ NotPassed) ↔ ((home ≢ erlang) × (Contains (map (λ x. x.name) xs) home → ⊥))
