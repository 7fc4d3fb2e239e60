-- Graphs over names, and their groups: names that reach each other, in an order in which each group calls only those before it.
use Rattle.std.specs.Prelude.{◌≡◌, ℕ, suc, ◌<◌, ◌≤◌, ◌⊎◌, ◌↔◌, Bool, true, cond, List, [], ◌∷◌, length, slice_index_or, IsTrue}
use Rattle.std.specs.List.{list_any}
use Rattle.type_kinds.specs.declared.atom.Atom.{Atom}
use Rattle.core_scope.specs.Names.{same_atom}
use Rattle.table_file.specs.Order.{rises, is_name_before}

-- whether a name is among these
abbrev pub has : List Atom → Atom → Bool
has names h = list_any (same_atom h) names

-- nodes: whether a name is a node; out: the names that a name calls, which may be no nodes
module _ (nodes : Atom → Bool) (out : Atom → List Atom) where
  -- one node calls another
  abbrev pub Leads : Atom → Atom → Type 0
  Leads a b = (nodes a ≡ true) × (nodes b ≡ true) × (has (out a) b ≡ true)

  pub data Reaches : Atom → Atom → Type 0 where
    by_call : (a b : Atom) → Leads a b → Reaches a b
    by_calls : (a b c : Atom) → Leads a b → Reaches b c → Reaches a c

  -- two names are together where they are equal or each reaches the other
  abbrev pub Together : Atom → Atom → Type 0
  Together a b = (a ≡ b) ⊎ (Reaches a b × Reaches b a)

-- the number of each node's group, how many groups there are, and each group's names
pub record Groups : Type 0 where
  pub number : Atom → ℕ
  pub count : ℕ
  pub members : ℕ → List Atom

-- the names of a name's group
abbrev pub group_of : Groups → Atom → List Atom
group_of g h = g.members (g.number h)

-- These are the groups of the nodes: nodes that are together have one number, a node calls none of a higher number, and the members
-- of a number rise by name.
pub record IsGroups (nodes : Atom → Bool) (out : Atom → List Atom) (g : Groups) : Type 0 where
  pub low : (a : Atom) → nodes a ≡ true → g.number a < g.count
  pub together : (a b : Atom) → nodes a ≡ true → nodes b ≡ true → (g.number a ≡ g.number b) ↔ Together nodes out a b
  pub downward : (a b : Atom) → Leads nodes out a b → g.number b ≤ g.number a
  pub members : (n : ℕ) (a : Atom) → (has (g.members n) a ≡ true) ↔ ((nodes a ≡ true) × (g.number a ≡ n))
  pub sorted : (n : ℕ) → IsTrue (rises is_name_before (g.members n))

-- ---- groups as a list

-- the position of the first list that has the name
abbrev pub position_in : List (List Atom) → Atom → ℕ
position_in [] h = 0
position_in (names ∷ more) h = cond (has names h) 0 (suc (position_in more h))

-- the names of the group at a position
abbrev pub group_at : List (List Atom) → ℕ → List Atom
group_at lists n = slice_index_or lists n []

-- groups by a list of them, whose numbers are their positions
abbrev pub groups_in : List (List Atom) → Groups
groups_in lists = record { number = position_in lists; count = length lists; members = group_at lists }
