-- A list of groups that was made for a table and for sources: each member with its positions.
use Rattle.std.specs.Prelude.{◌≡◌, ℕ, ◌<◌, Option, Some, None, List, Contains, length, map, slice_get}
use Rattle.type_kinds.specs.declared.atom.Atom.{Atom}
use Rattle.table_keep.specs.declared.source.Source.{Source}
use Rattle.table_keep.specs.declared.group_list.GroupMember.{GroupMember}
use Rattle.table_keep.specs.declared.group_list.GroupList.{GroupList}
use Rattle.table_keep.specs.Model.{sources_so, entries_so, source_of, entry_of}
use Rattle.table_file.specs.declared.tables.Table.{Table}

-- the names of members
abbrev pub member_names : List GroupMember → List Atom
member_names members = map (λ m. m.name) members

-- the names of the groups
abbrev pub lists_of : GroupList → List (List Atom)
lists_of list = map member_names list.groups

-- these are the members of one of the groups
abbrev pub IsGroupOf : GroupList → List GroupMember → Type 0
IsGroupOf list group = Contains list.groups group

-- the item at a position, if there is one
abbrev pub found_at : {A : Type 0} → List A → Option ℕ → Option A
found_at xs None = None
found_at xs (Some i) = slice_get xs i

abbrev pub IsWithin : {A : Type 0} → List A → Option ℕ → Type 0
IsWithin xs None = Unit {0}
IsWithin xs (Some i) = i < length xs

-- The member stands at these positions among the sources and the entries; where it has none, it isn't among them.
pub record IsMemberOf (table : Table) (sources : List Source) (m : GroupMember) : Type 0 where
  pub source_within : IsWithin sources m.source
  pub source_is : source_of (sources_so sources) m.name ≡ found_at (sources_so sources) m.source
  pub entry_within : IsWithin table.entries m.entry
  pub entry_is : entry_of (entries_so table) m.name ≡ found_at (entries_so table) m.entry

-- each member of each group does
abbrev pub IsListOf : (table : Table) → (sources : List Source) → GroupList → Type 0
IsListOf table sources list = (group : List GroupMember) (m : GroupMember) → IsGroupOf list group → Contains group m → IsMemberOf table sources m
