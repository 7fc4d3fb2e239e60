-- What the search for strong components keeps true. The path holds the nodes that are open, cut into
-- blocks: each block is a part of one component, and leads to the next block. The pending targets are
-- those of the pairs that lead out of open nodes and that the search hasn't looked at.
use Rattle.std.specs.Prelude.{◌≡◌, ℕ, ◌+◌, ◌<◌, ◌≤◌, ◌⊎◌, List, length, All, sum_by, slice_index, slice_index_or}
use Rattle.components.specs.declared.search.NodeState.{NodeState}
use Rattle.components.specs.declared.search.NodeState.TheVariants.{Unseen, Open, Closed}
use Rattle.components.specs.declared.search.Block.{Block}
use Rattle.components.specs.Graph.{Leads, Reaches, Together}

-- How far the search is with a node.
abbrev pub state_of : List NodeState → ℕ → NodeState
state_of states f = slice_index_or states f Unseen

-- 1 for a node that the search hasn't seen
abbrev pub fresh : NodeState → ℕ
fresh Unseen = 1
fresh (Open _) = 0
fresh (Closed _) = 0

-- f is g, or reaches it.
abbrev pub Walk : List (List ℕ) → ℕ → ℕ → Type 0
Walk graph f g = (f ≡ g) ⊎ Reaches graph f g

-- The position j is in the block of the position i, or in a later one.
abbrev pub FromBlock : List Block → ℕ → ℕ → Type 0
FromBlock blocks i j = All (λ b. b.first ≤ i → b.first ≤ j) blocks

-- g is closed, or open and not below the block of the position i.
abbrev pub Settled : List NodeState → List Block → ℕ → ℕ → Type 0
Settled states blocks i g =
    ((c : ℕ) × (state_of states g ≡ Closed c)) ⊎ ((j : ℕ) × (state_of states g ≡ Open j) × FromBlock blocks i j)

-- g is pending, and not below the block of the position i.
abbrev pub Awaits : List ℕ → List Block → ℕ → ℕ → Type 0
Awaits pending blocks i g =
    (k : ℕ) × (k < length pending) × (slice_index pending k ≡ g) × All (λ b. b.first ≤ i → b.below ≤ k) blocks

-- The pending target at k is that of a pair from an open node, which stands in the same block.
abbrev pub HasSource : List (List ℕ) → List ℕ → List Block → ℕ → ℕ → Type 0
HasSource graph path blocks k g =
    (i : ℕ) × (i < length path) × Leads graph (slice_index path i) g
    × All (λ b. (b.first ≤ i → b.below ≤ k) × (b.below ≤ k → b.first ≤ i)) blocks

-- The block a stands before the block b.
abbrev pub Before : Block → Block → Type 0
Before a b = (a.first < b.first) × (a.below ≤ b.below)

-- The start of a path
abbrev pub bottom : Block
bottom = record { first = 0; below = 0 }

-- The blocks cut the whole path: each begins after the one before it, and the first at the path's start.
pub record Cut (blocks : List Block) (path pending : List ℕ) : Type 0 where
  pub ascending : (i j : ℕ) → i < j → j < length blocks → Before (slice_index_or blocks i bottom) (slice_index_or blocks j bottom)
  pub within : All (λ b. (b.first < length path) × (b.below ≤ length pending)) blocks
  pub whole : 0 < length path → (k : ℕ) × (k < length blocks) × ((slice_index_or blocks k bottom).first ≡ 0)

-- What is true at each step: states and path agree; closed nodes lead to closed nodes with no greater number,
-- and those with one number are together; a node of the path reaches every node of its own block and of later
-- ones, and each pair from it leads to a closed node, to one of its own block or of a later one, or is pending;
-- and the numbers given, the blocks and the unseen nodes are at most as many as the nodes.
pub record Sound (graph : List (List ℕ)) (states : List NodeState) (path pending : List ℕ) (blocks : List Block) (cursor count : ℕ) : Type 0 where
  pub sizes : length states ≡ length graph
  pub on_path : (p : ℕ) → p < length path → state_of states (slice_index path p) ≡ Open p
  pub open_position : (f p : ℕ) → state_of states f ≡ Open p → (p < length path) × (slice_index path p ≡ f)
  pub closed_below : (f c : ℕ) → state_of states f ≡ Closed c → c < count
  pub closed_leads : (f g c : ℕ) → state_of states f ≡ Closed c → Leads graph f g → (d : ℕ) × (state_of states g ≡ Closed d) × (d ≤ c)
  pub closed_together : (f g c : ℕ) → state_of states f ≡ Closed c → state_of states g ≡ Closed c → Together graph f g
  pub closed_used : (c : ℕ) → c < count → (f : ℕ) × (state_of states f ≡ Closed c)
  pub joined : (i j : ℕ) → i < length path → j < length path → FromBlock blocks i j → Walk graph (slice_index path i) (slice_index path j)
  pub open_leads : (i g : ℕ) → i < length path → Leads graph (slice_index path i) g → Settled states blocks i g ⊎ Awaits pending blocks i g
  pub sources : (k : ℕ) → k < length pending → HasSource graph path blocks k (slice_index pending k)
  pub cut : Cut blocks path pending
  pub passed : (f : ℕ) → f < cursor → state_of states f ≡ Unseen → ⊥
  pub fits : count + length blocks + sum_by fresh states ≤ length graph

-- The nodes between two positions of the path are closed, with one number, and no other state changes.
pub record Closes (states states' : List NodeState) (path : List ℕ) (first last number : ℕ) : Type 0 where
  pub same_length : length states' ≡ length states
  pub shut : (p : ℕ) → first ≤ p → p < last → state_of states' (slice_index path p) ≡ Closed number
  pub others : (f : ℕ) → ((p : ℕ) → first ≤ p → p < last → slice_index path p ≡ f → ⊥) → state_of states' f ≡ state_of states f
  pub same_fresh : sum_by fresh states' ≡ sum_by fresh states
