-- What the places of a program hold, over numbers.
use Rattle.std.specs.Prelude.{◌≡◌, ◌↔◌, ℕ, List, Option, Some, slice_get}
use Rattle.components.specs.Graph.{Leads}
use Rattle.core_meaning.specs.Programs.{Program}
use Rattle.fun_flow_places.specs.declared.places.FlowPlace.{FlowPlace}
use Rattle.fun_flow_places.specs.declared.places.Item.{Item}
use Rattle.fun_flow_places.specs.Naming.{item_named, place_named}
use Rattle.fun_flow_sets.specs.Items as s
use Rattle.fun_flow_sets.specs.Sets.{Holds}

-- the places and the items by their numbers, and for each number of a place those of the items that it holds
pub record HeldNumbers : Type 0 where
  pub places : List FlowPlace
  pub items : List Item
  pub sets : List (List ℕ)

-- the place holds the item of this number
abbrev pub HoldsNumber : HeldNumbers → FlowPlace → ℕ → Type 0
HoldsNumber held p x = (a : ℕ) × (slice_get held.places a ≡ Some p) × Leads held.sets a x

-- the item of a number
abbrev pub item_at : HeldNumbers → ℕ → Option Item
item_at held x = slice_get held.items x

-- A number that the place holds has an item, which stands for this one of the program.
pub record IsHeld (U : Program) (held : HeldNumbers) (p : FlowPlace) (x : s.Item) : Type 0 where
  pub number : ℕ
  pub there : HoldsNumber held p number
  pub item : Item
  pub at : item_at held number ≡ Some item
  pub named : item_named U item ≡ x

-- Each number that is held has an item, and what is held is exactly what the least sets of the program hold.
pub record AreSetsOf (U : Program) (held : HeldNumbers) : Type 0 where
  pub known : (p : FlowPlace) (x : ℕ) → HoldsNumber held p x → (y : Item) × (item_at held x ≡ Some y)
  pub exact : (p : FlowPlace) (x : s.Item) → IsHeld U held p x ↔ Holds U (place_named U p) x
