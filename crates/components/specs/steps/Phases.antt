-- What the two phases of the numbering give: the components that the search closes, and the same ones in ready
-- order.
use Rattle.std.specs.Prelude.{◌≡◌, ℕ, ◌<◌, ◌≤◌, List, length, slice_index}
use Rattle.components.specs.Graph.{Leads, Together}
use Rattle.components.specs.Numbering.{InReady}

-- Nodes with one number are together, and pairs lead to numbers that are no greater.
pub record StrongComponents (graph : List (List ℕ)) (component_of : List ℕ) (count : ℕ) : Type 0 where
  pub sizes : length component_of ≡ length graph
  pub below : (f : ℕ) → f < length graph → slice_index component_of f < count
  pub joined : (f g : ℕ) → f < length graph → g < length graph → slice_index component_of f ≡ slice_index component_of g → Together graph f g
  pub downward : (f g : ℕ) → Leads graph f g → slice_index component_of g ≤ slice_index component_of f

-- The same, and nodes that are together have one number; the numbers are in ready order.
pub record ReadyComponents (graph : List (List ℕ)) (component_of : List ℕ) (count : ℕ) : Type 0 where
  pub strong : StrongComponents graph component_of count
  pub together : (f g : ℕ) → f < length graph → g < length graph → Together graph f g → slice_index component_of f ≡ slice_index component_of g
  pub used : (n : ℕ) → n < count → (f : ℕ) × (f < length graph) × (slice_index component_of f ≡ n)
  pub ready : InReady graph component_of count
