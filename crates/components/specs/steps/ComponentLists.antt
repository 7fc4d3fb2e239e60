-- The lists of the members and of the callees of components, as far as they have been made.
use Rattle.std.specs.Prelude.{◌≡◌, ℕ, ◌<◌, ◌↔◌, List, [], length, Contains, slice_index, slice_index_or}
use Rattle.components.specs.Graph.{targets}
use Rattle.components.specs.Lists.{Ascending}
use Rattle.components.specs.Numbering.{ComponentCalls}

-- the list of a component
abbrev pub list_of : List (List ℕ) → ℕ → List ℕ
list_of lists n = slice_index_or lists n []

-- Each list has, ascending, the nodes below `end` that are of this component.
pub record MembersTo (component_of : List ℕ) (lists : List (List ℕ)) (count end : ℕ) : Type 0 where
  pub sizes : length lists ≡ count
  pub sorted : (n : ℕ) → Ascending (list_of lists n)
  pub exact : (n f : ℕ) → Contains (list_of lists n) f ↔ ((f < end) × (slice_index component_of f ≡ n))

-- The lists of the members of all components.
abbrev pub IsMembers : List ℕ → List (List ℕ) → ℕ → Type 0
IsMembers component_of lists count = MembersTo component_of lists count (length component_of)

-- The lists of the callees of the first components.
pub record CalleesTo (graph : List (List ℕ)) (component_of : List ℕ) (lists : List (List ℕ)) (end : ℕ) : Type 0 where
  pub sizes : length lists ≡ end
  pub sorted : (n : ℕ) → n < end → Ascending (list_of lists n)
  pub exact : (n m : ℕ) → n < end → Contains (list_of lists n) m ↔ ComponentCalls graph component_of n m

-- m is the component of one of the first targets, and isn't `own`.
abbrev pub ComponentAmong : List ℕ → ℕ → List ℕ → ℕ → ℕ → Type 0
ComponentAmong component_of own ts end m = (m ≡ own → ⊥) × ((k : ℕ) × (k < end) × (slice_index component_of (slice_index ts k) ≡ m))

-- One of the first nodes leads to a node of the component m, which isn't `own`.
abbrev pub CalledFrom : List (List ℕ) → List ℕ → ℕ → List ℕ → ℕ → ℕ → Type 0
CalledFrom graph component_of own nodes end m =
    (j : ℕ) × (j < end) × ComponentAmong component_of own (targets graph (slice_index nodes j)) (length (targets graph (slice_index nodes j))) m
