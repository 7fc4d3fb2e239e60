-- The numbering of a graph's components, as contracts see it, and what it promises.
use Rattle.std.specs.Prelude.{◌≡◌, ℕ, ◌<◌, ◌≤◌, ◌⊎◌, ◌↔◌, List, [], length, Contains, slice_index, slice_index_or, refl}
use Rattle.std.specs.Coded.{Coded, code_by, coded×, coded_list, coded_ℕ}
use Rattle.components.specs.Graph.{Leads, Together}
use Rattle.components.specs.Lists.{Ascending}

-- The number of each node's component, how many components there are, and of each component the members and the
-- other components that they lead to.
pub record Numbering : Type 0 where
  pub component_of : List ℕ
  pub count : ℕ
  pub members : List (List ℕ)
  pub callees : List (List ℕ)

-- The record as a tuple, so that a numbering is a value that contracts can see.
abbrev pub numbering_code : Coded Numbering
numbering_code =
    code_by ((List ℕ × ℕ) × (List (List ℕ) × List (List ℕ))) (coded× (coded× (coded_list coded_ℕ) coded_ℕ) (coded× (coded_list (coded_list coded_ℕ)) (coded_list (coded_list coded_ℕ))))
    (λ e. ((e.component_of, e.count), (e.members, e.callees))) (λ p. record { component_of = p.0.0; count = p.0.1; members = p.1.0; callees = p.1.1 }) (λ _. refl)

-- The number of a node's component.
abbrev pub component_of_node : Numbering → ℕ → ℕ
component_of_node c f = slice_index c.component_of f

-- The members of a component.
abbrev pub members_of : Numbering → ℕ → List ℕ
members_of c n = slice_index_or c.members n []

-- The other components that a component leads to.
abbrev pub callees_of : Numbering → ℕ → List ℕ
callees_of c n = slice_index_or c.callees n []

-- Each node has one component, whose number is below the count.
abbrev pub NumberingNodes : List (List ℕ) → Numbering → Type 0
NumberingNodes graph c = (length c.component_of ≡ length graph) × ((f : ℕ) → f < length graph → component_of_node c f < c.count)

-- Two nodes have one component exactly where they are together.
abbrev pub NumberingTogether : List (List ℕ) → Numbering → Type 0
NumberingTogether graph c =
    (f g : ℕ) → f < length graph → g < length graph → (component_of_node c f ≡ component_of_node c g) ↔ Together graph f g

-- A pair leads to the same component or to one with a lower number.
abbrev pub NumberingDownward : List (List ℕ) → Numbering → Type 0
NumberingDownward graph c = (f g : ℕ) → Leads graph f g → component_of_node c g ≤ component_of_node c f

-- Each number below the count is some node's.
abbrev pub NumberingUsed : List (List ℕ) → Numbering → Type 0
NumberingUsed graph c = (n : ℕ) → n < c.count → (f : ℕ) × (f < length graph) × (component_of_node c f ≡ n)

-- The component c is ready when n numbers are given: every other component that its members lead to has one
-- of these.
abbrev pub ReadyAt : List (List ℕ) → List ℕ → ℕ → ℕ → Type 0
ReadyAt graph component_of n c = (f g : ℕ) → slice_index component_of f ≡ c → Leads graph f g → (slice_index component_of g ≡ c) ⊎ (slice_index component_of g < n)

-- Each next number goes to the ready component whose least member is least: where the component of f has no
-- lower number and is ready, the component n has a member that is at most f.
abbrev pub InReady : List (List ℕ) → List ℕ → ℕ → Type 0
InReady graph component_of count =
    (n f : ℕ) → n < count → f < length graph → n ≤ slice_index component_of f → ReadyAt graph component_of n (slice_index component_of f) → (g : ℕ) × (g ≤ f) × (slice_index component_of g ≡ n)

-- The numbers are given in ready order.
abbrev pub NumberingReady : List (List ℕ) → Numbering → Type 0
NumberingReady graph c = InReady graph c.component_of c.count

-- The members of a component are the nodes with its number.
abbrev pub NumberingMembers : List (List ℕ) → Numbering → Type 0
NumberingMembers graph c = (n f : ℕ) → Contains (members_of c n) f ↔ ((f < length graph) × (component_of_node c f ≡ n))

-- A pair leads from the component n to another component, m.
abbrev pub ComponentCalls : List (List ℕ) → List ℕ → ℕ → ℕ → Type 0
ComponentCalls graph component_of n m =
    (m ≡ n → ⊥) × ((f : ℕ) × (g : ℕ) × (slice_index component_of f ≡ n) × Leads graph f g × (slice_index component_of g ≡ m))

-- The callees of a component are the other components that its members lead to.
abbrev pub NumberingCallees : List (List ℕ) → Numbering → Type 0
NumberingCallees graph c = (n m : ℕ) → n < c.count → Contains (callees_of c n) m ↔ ComponentCalls graph c.component_of n m

-- What every numbering keeps: its lists are ascending, one for each component, and callees have lower numbers.
pub record IsNumbering (c : Numbering) : Type 0 where
  pub members_sizes : length c.members ≡ c.count
  pub callees_sizes : length c.callees ≡ c.count
  pub members_sorted : (n : ℕ) → n < c.count → Ascending (members_of c n)
  pub callees_sorted : (n : ℕ) → n < c.count → Ascending (callees_of c n)
  pub callees_below : (n m : ℕ) → n < c.count → Contains (callees_of c n) m → m < n
