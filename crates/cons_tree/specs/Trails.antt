-- An array of types with its trail: which slots were lowered, and what they were.
use Rattle.std.specs.Prelude.{◌≡◌, ℕ, ◌+◌, ◌<◌, ◌≤◌, Bool, cond, List, [], ◌∷◌, ◌++◌, Some, None, length, set}
use Rattle.type_lattice.specs.Types.{Type4, Below}
use Rattle.cons_tree.specs.Environments.{Types, State}
use Rattle.cons_tree.specs.declared.slots.TrailEntry.{TrailEntry}
use Rattle.cons_tree.specs.declared.slots.Slots.{Slots}

-- what a call on the array says: whether an environment is left, and then it is the array
abbrev pub answer : Bool → Types → State
answer alive xs = cond alive (Some xs) None

-- the array with what a trail says of its slots; of several entries for a slot the first one counts, which is the oldest
abbrev pub laid : List TrailEntry → Types → Types
laid [] xs = xs
laid (f ∷ fs) xs = set (laid fs xs) f.slot f.ty

-- the entries speak of slots of the array
abbrev pub Within : ℕ → List TrailEntry → Type 0
Within n [] = Unit {0}
Within n (f ∷ fs) = (f.slot < n) × Within n fs

-- a measure of types that is lower at each smaller type, as rank and height are
abbrev pub Falling : (Type4 → ℕ) → Type 0
Falling h = (s t : Type4) → Below s t → (s ≡ t → ⊥) → h s < h t

abbrev pub summed : (Type4 → ℕ) → Types → ℕ
summed h [] = 0
summed h (x ∷ xs) = h x + summed h xs

-- An array was lowered: what was added to its trail gives back what it was, and by each measure that falls it lost one for
-- each entry at least.
pub record Trailed (old new : Slots) : Type 0 where
  pub added : List TrailEntry
  pub trail : new.trail ≡ old.trail ++ added
  pub back : laid added new.types ≡ old.types
  pub within : Within (length new.types) added
  pub paid : (h : Type4 → ℕ) → Falling h → summed h new.types + length added ≤ summed h old.types
