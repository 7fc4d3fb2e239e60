-- Graphs whose nodes are the places of names.
use Rattle.std.specs.Prelude.{◌≡◌, ℕ, ◌↔◌, true, List, length, slice_get, Some}
use Rattle.type_kinds.specs.declared.atom.Atom.{Atom}
use Rattle.components.specs.Graph.{Leads}
use Rattle.table_keep.specs.Groups.{has}

-- the name at one place calls the name at another
pub record NameLeads (names : List Atom) (out : Atom → List Atom) (i j : ℕ) : Type 0 where
  pub caller : Atom
  pub callee : Atom
  pub calling : slice_get names i ≡ Some caller
  pub called : slice_get names j ≡ Some callee
  pub stands : has (out caller) callee ≡ true

-- its nodes are the places of the names, and its pairs are their calls
pub record IsGraphOf (names : List Atom) (out : Atom → List Atom) (graph : List (List ℕ)) : Type 0 where
  pub counted : length graph ≡ length names
  pub pairs : (i j : ℕ) → Leads graph i j ↔ NameLeads names out i j

-- the name at a place is among these
pub record IsNamed (names : List Atom) (called : List Atom) (j : ℕ) : Type 0 where
  pub name : Atom
  pub at : slice_get names j ≡ Some name
  pub among : has called name ≡ true
