-- The members of groups, as they are found among the candidates.
use Rattle.std.specs.Prelude.{◌≡◌, ℕ, ◌<◌, Some, List, [], length, map, slice_get, slice_index_or}
use Rattle.type_kinds.specs.declared.atom.Atom.{Atom}
use Rattle.components.specs.Numbering.{Numbering, members_of}
use Rattle.table_keep.specs.declared.candidates.Positions.{Positions}
use Rattle.table_keep.specs.declared.group_list.GroupMember.{GroupMember}

-- a member as a name with its positions
abbrev pub as_found : GroupMember → Atom × Positions
as_found m = (m.name, record { source = m.source; entry = m.entry })

-- the members are what is found at these places
abbrev pub AreMembers : (found : List (Atom × Positions)) → (places : List ℕ) → List GroupMember → Type 0
AreMembers found places members = map (λ m. Some (as_found m)) members ≡ map (slice_get found) places

-- there are so many groups, and each has the members of its component
pub record AreGroupsOf (found : List (Atom × Positions)) (c : Numbering) (groups : List (List GroupMember)) (count : ℕ) : Type 0 where
  pub counted : length groups ≡ count
  pub members : (n : ℕ) → n < count → AreMembers found (members_of c n) (slice_index_or groups n [])
