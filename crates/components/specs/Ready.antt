-- The numberings of components in ready order. The pairs of a graph leave room for one.
use Rattle.std.specs.Prelude.{◌≡◌, ℕ, ◌<◌, ◌↔◌, List, length}
use Rattle.components.specs.Graph.{Leads}
use Rattle.components.specs.Numbering.{Numbering, NumberingNodes, NumberingTogether, NumberingDownward, NumberingUsed, NumberingReady, NumberingMembers, NumberingCallees, IsNumbering}

-- The numbering has the components of the graph, in ready order.
pub record IsReadyNumbering (graph : List (List ℕ)) (c : Numbering) : Type 0 where
  pub nodes : NumberingNodes graph c
  pub together : NumberingTogether graph c
  pub downward : NumberingDownward graph c
  pub used : NumberingUsed graph c
  pub ready : NumberingReady graph c
  pub members : NumberingMembers graph c
  pub callees : NumberingCallees graph c
  pub kept : IsNumbering c

-- Two graphs have as many nodes, and the same pairs, which lead to their own nodes. The lists of a node's pairs may differ in
-- their order.
pub record SamePairs (graph other : List (List ℕ)) : Type 0 where
  pub counted : length graph ≡ length other
  pub inside : (f g : ℕ) → Leads graph f g → g < length graph
  pub pairs : (f g : ℕ) → Leads graph f g ↔ Leads other f g

-- Each graph whose pairs lead to its own nodes has a numbering in ready order.
abbrev pub SomeNumbering : Type 0
SomeNumbering = (graph : List (List ℕ)) → ((f g : ℕ) → Leads graph f g → g < length graph) → (c : Numbering) × IsReadyNumbering graph c
