-- A table of functions by name, of which the last one of a name counts.
use Rattle.std.specs.Prelude.{◌≡◌, ◌↔◌, ℕ, Bool, true, ◌<◌, Some, List, length, slice_get}
use Rattle.std.specs.List.{list_any}
use Rattle.type_kinds.specs.declared.atom.Atom.{Atom}
use Rattle.core_ast.specs.declared.syntax.FunName.{FunName}
use Rattle.core_scope.specs.Names.{same_atom}
use Rattle.call_graph.specs.declared.table.FunctionEntry.{FunctionEntry}
use Rattle.call_graph.specs.declared.table.FunctionTable.{FunctionTable}
use Rattle.call_graph.specs.Among.{IsLast}
use Rattle.call_graph.specs.Outside.{Called}
use Rattle.call_graph.specs.Tables.{key_of, entry_at, own_number}

-- A table has exactly these names, each under the last position at which it stands, as one that its module exports.
pub record FindsLast (table : FunctionTable) (names : List Called) : Type 0 where
  pub count : table.count ≡ length names
  pub numbers : (h : Atom) (f : FunName) (j : ℕ) → (own_number table h f ≡ Some j) ↔ IsLast names j h f
  pub reached : (h : Atom) (f : FunName) (e : FunctionEntry) → entry_at table (key_of h f) ≡ Some e
      → (e.exported ≡ true) × (list_any (same_atom h) table.modules.keys ≡ true)

-- The flags of the first functions tell whether each is the last one of its name.
pub record TellsLast (names : List Called) (flags : List Bool) : Type 0 where
  pub true_is : (j : ℕ) (h : Atom) (f : FunName) → slice_get flags j ≡ Some true → slice_get names j ≡ Some (h, f) → IsLast names j h f
  pub is_true : (j : ℕ) (h : Atom) (f : FunName) → j < length flags → IsLast names j h f → slice_get flags j ≡ Some true
