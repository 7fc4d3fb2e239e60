-- What the steps of the search require of its state and leave.
use Rattle.std.specs.Prelude.{◌≡◌, ℕ, ◌-◌, ◌<◌, ◌≤◌, ◌⊎◌, List, [], ◌∷◌, ◌++◌, length, slice_index}
use Rattle.components.specs.declared.search.NodeState.{NodeState}
use Rattle.components.specs.declared.search.NodeState.TheVariants.{Unseen, Open, Closed}
use Rattle.components.specs.declared.search.Block.{Block}
use Rattle.components.specs.declared.search.Search.{Search}
use Rattle.components.specs.declared.search.Look.{Look}
use Rattle.components.specs.declared.search.Look.TheVariants.{Enter, Close, Merge, Settled}
use Rattle.components.specs.steps.Search.{state_of, Walk, Sound}

-- What is true at each step, of the code's state.
abbrev pub IsSound : List (List ℕ) → Search → Type 0
IsSound graph s = Sound graph s.states.items s.path s.pending.items s.blocks s.cursor s.count

-- A node of the graph that the search hasn't seen, and that every open node reaches.
pub record Enterable (graph : List (List ℕ)) (s : Search) (node : ℕ) : Type 0 where
  pub low : node < length graph
  pub unseen : state_of s.states.items node ≡ Unseen
  pub reached : (i : ℕ) → i < length s.path → Walk graph (slice_index s.path i) node

-- All nodes have been seen, and none is open.
abbrev pub Idle : List (List ℕ) → Search → Type 0
Idle graph s = (s.path ≡ []) × (length graph ≤ s.cursor)

-- The last of the blocks.
abbrev pub TopIs : List Block → Block → Type 0
TopIs blocks t = (rest : List Block) × (blocks ≡ rest ++ t ∷ [])

-- the last pending target
abbrev pub last_pending : Search → ℕ
last_pending s = slice_index s.pending.items (length s.pending.items - 1)

-- The last pending target is of the block t and stands on the path below it.
abbrev pub LeadsBack : Search → Block → Type 0
LeadsBack s t = (t.below < length s.pending.items) × ((p : ℕ) × (state_of s.states.items (last_pending s) ≡ Open p) × (p < t.first))

-- The last pending target is of the block t, and is closed or stands in this block.
abbrev pub IsKnown : Search → Block → Type 0
IsKnown s t =
    (t.below < length s.pending.items)
    × (((c : ℕ) × (state_of s.states.items (last_pending s) ≡ Closed c)) ⊎ ((p : ℕ) × (state_of s.states.items (last_pending s) ≡ Open p) × (t.first ≤ p)))

-- What a look at the last block finds.
abbrev pub IsLook : List (List ℕ) → Search → Block → Look → Type 0
IsLook graph s t (Enter node) = Enterable graph s node
IsLook graph s t Close = length s.pending.items ≤ t.below
IsLook graph s t Merge = LeadsBack s t
IsLook graph s t Settled = IsKnown s t

-- Every node has its component.
abbrev pub AllClosed : List NodeState → Type 0
AllClosed states = (f : ℕ) → f < length states → (c : ℕ) × (state_of states f ≡ Closed c)

-- The list has the component of each node.
abbrev pub ComponentsAre : List NodeState → List ℕ → Type 0
ComponentsAre states component_of = (length component_of ≡ length states) × ((f : ℕ) → f < length states → state_of states f ≡ Closed (slice_index component_of f))
