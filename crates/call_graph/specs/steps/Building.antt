-- How a table is built: one function after another.
use Rattle.std.specs.Prelude.{◌≡◌, ℕ, ◌+◌, List, [], ◌∷◌, length}
use Rattle.indexmap.specs.IndexMap.{insert_entry}
use Rattle.core_scope.specs.Names.{has_function}
use Rattle.call_graph.specs.declared.keys.FunctionKey.{FunctionKey}
use Rattle.call_graph.specs.declared.table.FunctionEntry.{FunctionEntry}
use Rattle.call_graph.specs.declared.table.FunctionTable.{FunctionTable}
use Rattle.call_graph.specs.Calls.{ModuleFunction}
use Rattle.call_graph.specs.Tables.{key_of, same_key}

abbrev pub Entries : Type 0
Entries = List (FunctionKey × FunctionEntry)

-- The key and the entry of a function that has the number.
abbrev pub function_key : ModuleFunction → FunctionKey
function_key f = key_of f.home f.name

abbrev pub entry_of : ℕ → ModuleFunction → FunctionEntry
entry_of n f = record { number = n; exported = has_function f.exports f.name }

-- The entries after functions, numbered from here on, were put in.
abbrev pub inserted : Entries → ℕ → List ModuleFunction → Entries
inserted es n [] = es
inserted es n (f ∷ fs) = inserted (insert_entry same_key es (function_key f) (entry_of n f)) (n + 1) fs

-- The entries of functions, numbered from here on.
abbrev pub numbered : ℕ → List ModuleFunction → Entries
numbered n [] = []
numbered n (f ∷ fs) = (function_key f, entry_of n f) ∷ numbered (n + 1) fs

-- The functions were put in behind those that were there.
pub record Adds (old new : FunctionTable) (fs : List ModuleFunction) : Type 0 where
  pub entries : new.functions.entries ≡ inserted old.functions.entries old.count fs
  pub count : new.count ≡ old.count + length fs
