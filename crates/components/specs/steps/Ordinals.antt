-- Ordinals in the order of first occurrence.
use Rattle.std.specs.Prelude.{◌≡◌, ℕ, ◌+◌, ◌<◌, ◌≤◌, ◌⊎◌, ◌↔◌, List, length, slice_index, slice_index_or, slice_set, Option, None, Some}

-- Nodes have equal ordinals exactly where they have equal components, and each ordinal is first met after all lower ones.
pub record HasOrdinals (component_of ordinals : List ℕ) (count : ℕ) : Type 0 where
  pub sizes : length ordinals ≡ length component_of
  pub same : (f g : ℕ) → f < length component_of → g < length component_of → (slice_index component_of f ≡ slice_index component_of g) ↔ (slice_index ordinals f ≡ slice_index ordinals g)
  pub below : (f : ℕ) → f < length component_of → slice_index ordinals f < count
  pub used : (l : ℕ) → l < count → (f : ℕ) × (f < length component_of) × (slice_index ordinals f ≡ l)
  pub by_least : (f l : ℕ) → f < length component_of → l ≤ slice_index ordinals f → (g : ℕ) × (g ≤ f) × (slice_index ordinals g ≡ l)

-- The ordinal of a component, if it has been met.
abbrev pub ordinal_of : List (Option ℕ) → ℕ → Option ℕ
ordinal_of table h = slice_index_or table h None

-- What holds after some nodes: the table has the ordinal of each component that has been met, and the ordinals are as above.
pub record Labelling (component_of : List ℕ) (table : List (Option ℕ)) (ordinals : List ℕ) (count : ℕ) : Type 0 where
  pub known : (f : ℕ) → f < length ordinals → ordinal_of table (slice_index component_of f) ≡ Some (slice_index ordinals f)
  pub from_node : (h l : ℕ) → ordinal_of table h ≡ Some l → (l < count) × ((f : ℕ) × (f < length ordinals) × (slice_index component_of f ≡ h) × (slice_index ordinals f ≡ l))
  pub apart : (h i l : ℕ) → ordinal_of table h ≡ Some l → ordinal_of table i ≡ Some l → h ≡ i
  pub used : (l : ℕ) → l < count → (f : ℕ) × (f < length ordinals) × (slice_index ordinals f ≡ l)
  pub by_least : (f l : ℕ) → f < length ordinals → l ≤ slice_index ordinals f → (g : ℕ) × (g ≤ f) × (slice_index ordinals g ≡ l)
  pub few : count ≤ length ordinals

-- A component that has been met has its ordinal. Another one gets the next ordinal.
abbrev pub NextOrdinal : List (Option ℕ) → ℕ → ℕ → ℕ → List (Option ℕ) → ℕ → Type 0
NextOrdinal table count h l table' count' =
    ((ordinal_of table h ≡ Some l) × (table' ≡ table) × (count' ≡ count))
    ⊎ ((ordinal_of table h ≡ None) × (l ≡ count) × (table' ≡ slice_set table h (Some count)) × (count' ≡ count + 1))
