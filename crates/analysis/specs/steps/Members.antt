-- Members of a group, which stand at their positions.
use Rattle.std.specs.Prelude.{◌≡◌, List, Contains}
use Rattle.table_file.specs.declared.tables.Table.{Table}
use Rattle.table_keep.specs.declared.source.Source.{Source as HandedIn}
use Rattle.table_keep.specs.declared.group_list.GroupMember.{GroupMember}
use Rattle.table_keep.specs.Lists.{found_at, IsMemberOf, IsWithin}
use Rattle.table_keep.specs.Model.{entries_so, entry_of}

-- each member stands where it says
abbrev pub AreMembersOf : Table → List HandedIn → List GroupMember → Type 0
AreMembersOf table sources members = (m : GroupMember) → Contains members m → IsMemberOf table sources m

-- A member's entry is the one at its position, and where it has none there is none of its name.
pub record HasEntry (table : Table) (m : GroupMember) : Type 0 where
  pub within : IsWithin table.entries m.entry
  pub is : entry_of (entries_so table) m.name ≡ found_at (entries_so table) m.entry
