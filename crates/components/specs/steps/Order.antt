-- What holds while components get their numbers in ready order. A component watches one of its callees that has
-- no number, and looks for the next such callee as soon as that one gets its number.
use Rattle.std.specs.Prelude.{◌≡◌, ℕ, ◌+◌, ◌<◌, ◌≤◌, ◌⊎◌, List, [], ◌∷◌, length, Contains, sum_by, slice_index, slice_index_or, Option, None, Some}
use Rattle.components.specs.declared.ready.Watcher.{Watcher}
use Rattle.components.specs.declared.ready.Order.{Order}
use Rattle.components.specs.Graph.{targets, Leads}
use Rattle.components.specs.Lists.{Ascending}

-- The number of a component, if it has one.
abbrev pub rank_of : List (Option ℕ) → ℕ → Option ℕ
rank_of ranks c = slice_index_or ranks c None

-- 1 for a component without a number
abbrev pub unranked : Option ℕ → ℕ
unranked None = 1
unranked (Some _) = 0

-- The component has a number.
abbrev pub Ranked : List (Option ℕ) → ℕ → Type 0
Ranked ranks c = (r : ℕ) × (rank_of ranks c ≡ Some r)

-- The component has a number below n.
abbrev pub RankedBelow : List (Option ℕ) → ℕ → ℕ → Type 0
RankedBelow ranks n c = (r : ℕ) × (rank_of ranks c ≡ Some r) × (r < n)

-- what the positions past the end of a list of watchers count as
abbrev pub nobody : Watcher
nobody = record { component = 0; at = 0 }

-- The watchers of a component.
abbrev pub watchers_of : List (List Watcher) → ℕ → List Watcher
watchers_of watchers e = slice_index_or watchers e []

-- The callees of the watching component that stand before the watched one have numbers.
abbrev pub PassedTo : List (List ℕ) → List (Option ℕ) → ℕ → ℕ → Type 0
PassedTo callees ranks component at =
    (component < length callees) × ((q : ℕ) → q < at → q < length (targets callees component) → Ranked ranks (slice_index (targets callees component) q))

-- The callee at a position is e.
abbrev pub WatchesAt : List (List ℕ) → ℕ → ℕ → ℕ → Type 0
WatchesAt callees component at e = (at < length (targets callees component)) × (slice_index (targets callees component) at ≡ e)

-- The component is among the watchers.
abbrev pub Among : List Watcher → ℕ → Type 0
Among ws c = (k : ℕ) × (k < length ws) × ((slice_index_or ws k nobody).component ≡ c)

-- The component watches one that has no number.
abbrev pub Waits : List (Option ℕ) → List (List Watcher) → ℕ → Type 0
Waits ranks watchers c = (e : ℕ) × (rank_of ranks e ≡ None) × Among (watchers_of watchers e) c

-- What is true at each step: each number given is one component's, whose callees have lower numbers; no component
-- that was ready when a number was given is below the one that got it; and each component without a number is
-- ready, waits for a callee without a number, or has to look for one.
pub record Ordered (callees : List (List ℕ)) (ranks : List (Option ℕ)) (ready : List ℕ) (watchers : List (List Watcher)) (again : List Watcher) (count : ℕ) : Type 0 where
  pub sizes : length ranks ≡ length callees
  pub tables : length watchers ≡ length callees
  pub rank_low : (c r : ℕ) → rank_of ranks c ≡ Some r → r < count
  pub callees_first : (c e r : ℕ) → rank_of ranks c ≡ Some r → Leads callees c e → RankedBelow ranks r e
  pub apart : (c d r : ℕ) → rank_of ranks c ≡ Some r → rank_of ranks d ≡ Some r → c ≡ d
  pub used : (r : ℕ) → r < count → (c : ℕ) × (rank_of ranks c ≡ Some r)
  pub least_first : (r d c : ℕ) → rank_of ranks d ≡ Some r → c < length callees → ((q : ℕ) → rank_of ranks c ≡ Some q → r ≤ q)
      → ((e : ℕ) → Leads callees c e → RankedBelow ranks r e) → d ≤ c
  pub is_ready : (c : ℕ) → Contains ready c → (c < length callees) × ((e : ℕ) → Leads callees c e → Ranked ranks e)
  pub everyone : (c : ℕ) → c < length callees → rank_of ranks c ≡ None → Contains ready c ⊎ (Waits ranks watchers c ⊎ Among again c)
  pub watching : (e k : ℕ) → k < length (watchers_of watchers e)
      → PassedTo callees ranks (slice_index_or (watchers_of watchers e) k nobody).component (slice_index_or (watchers_of watchers e) k nobody).at
      × WatchesAt callees (slice_index_or (watchers_of watchers e) k nobody).component (slice_index_or (watchers_of watchers e) k nobody).at e
  pub passed : (k : ℕ) → k < length again → PassedTo callees ranks (slice_index_or again k nobody).component (slice_index_or again k nobody).at
  pub fits : count + sum_by unranked ranks ≤ length callees

-- The same, of the code's state.
abbrev pub IsOrdered : List (List ℕ) → Order → Type 0
IsOrdered callees s = Ordered callees s.ranks.items s.ready s.watchers s.again s.count

-- The component was the least ready one and has no number: it has been taken from the ready ones.
abbrev pub TakenFrom : List (List ℕ) → Order → ℕ → Type 0
TakenFrom callees s component =
    (ready : List ℕ) × Ordered callees s.ranks.items ready s.watchers s.again s.count × (ready ≡ component ∷ s.ready) × Ascending ready
    × (rank_of s.ranks.items component ≡ None)

-- Every component once, at the position of its first callee.
abbrev pub FirstWatchers : List Watcher → ℕ → Type 0
FirstWatchers ws count = (length ws ≡ count) × ((k : ℕ) → k < count → slice_index_or ws k nobody ≡ record { component = k; at = 0 })

-- Callees are components.
abbrev pub IsInside : List (List ℕ) → Type 0
IsInside callees = (c e : ℕ) → Leads callees c e → e < length callees

-- No component leads back to itself: each has a level, above those of its callees.
abbrev pub IsAcyclic : List (List ℕ) → Type 0
IsAcyclic callees = (level : ℕ → ℕ) × ((c e : ℕ) → Leads callees c e → level e < level c)

-- Every component has a number.
abbrev pub AllRanked : List (Option ℕ) → Type 0
AllRanked ranks = (c : ℕ) → c < length ranks → Ranked ranks c

-- The list has the number of each component.
abbrev pub RanksAre : List (Option ℕ) → List ℕ → Type 0
RanksAre ranks numbers = (length numbers ≡ length ranks) × ((c : ℕ) → c < length ranks → rank_of ranks c ≡ Some (slice_index numbers c))

-- The numbers of components in ready order: each number goes to the least component that has none and whose
-- callees have theirs.
pub record InReadyOrder (callees : List (List ℕ)) (numbers : List ℕ) (count : ℕ) : Type 0 where
  pub sizes : length numbers ≡ length callees
  pub below : (c : ℕ) → c < length callees → slice_index numbers c < count
  pub used : (n : ℕ) → n < count → (c : ℕ) × (c < length callees) × (slice_index numbers c ≡ n)
  pub apart : (c d : ℕ) → c < length callees → d < length callees → slice_index numbers c ≡ slice_index numbers d → c ≡ d
  pub callees_first : (c e : ℕ) → Leads callees c e → slice_index numbers e < slice_index numbers c
  pub least_first : (c d : ℕ) → c < length callees → d < length callees → slice_index numbers d ≤ slice_index numbers c
      → ((e : ℕ) → Leads callees c e → slice_index numbers e < slice_index numbers d) → d ≤ c
