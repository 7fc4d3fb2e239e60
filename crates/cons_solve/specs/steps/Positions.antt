-- An index of the members of a list that name a slot, and a queue of members that wait.
use Rattle.std.specs.Prelude.{◌≡◌, ℕ, ◌<◌, Bool, true, false, ◌⊎◌, List, [], ◌∷◌, length, get_or, map, nat_eq}
use Rattle.std.specs.List.{filter}
use Rattle.cons_tree.specs.Constraints.{Cons, constraint}
use Rattle.cons_tree.specs.declared.parts.Part.{Part}
use Rattle.cons_tree.specs.declared.parts.Constraint.{Constraint}
use Rattle.cons_tree.specs.declared.slots.TrailEntry.{TrailEntry}
use Rattle.cons_solve.specs.Frames.{Free}
use Rattle.cons_solve.specs.declared.index.Naming.{Naming}

abbrev pub Has : List ℕ → ℕ → Type 0
Has [] j = ⊥
Has (x ∷ xs) j = (x ≡ j) ⊎ Has xs j

abbrev pub Once : List ℕ → Type 0
Once [] = Unit {0}
Once (x ∷ xs) = (Has xs x → ⊥) × Once xs

-- the namings of one slot
abbrev pub named : List Naming → ℕ → List Naming
named index s = filter (λ n. nat_eq s n.slot) index

-- the members that name a slot
unfoldable pub here : List Naming → ℕ → List ℕ
here index s = map (λ n. n.member) (named index s)

-- a member was entered: where it isn't entered, the slot is as told
pub record Grown (P : ℕ → Type 0) (j : ℕ) (old new : List Naming) : Type 0 where
  pub kept : (s k : ℕ) → Has (here old s) k → Has (here new s) k
  pub entered : (s : ℕ) → (Has (here new s) j → ⊥) → P s

-- a member names only slots where it is entered
abbrev pub Covers : List Constraint → List Naming → Type 0
Covers ms index = (j s : ℕ) → j < length ms → (Has (here index s) j → ⊥) → (x : Constraint) → Free s (constraint (get_or ms j x))

-- the constraint names no slot of the entries
abbrev pub FreeAll : List TrailEntry → Cons Part → Type 0
FreeAll [] c = Unit {0}
FreeAll (f ∷ fs) c = Free f.slot c × FreeAll fs c

-- the queue has just the members whose flag is up, each once
pub record Queued (flags : List Bool) (queue : List ℕ) : Type 0 where
  pub stands : (j : ℕ) → get_or flags j false ≡ true → Has queue j
  pub flagged : (j : ℕ) → Has queue j → get_or flags j false ≡ true
  pub once : Once queue

-- members of the list were enqueued, but for one
pub record Enqueued (except : ℕ) (members : List ℕ) (flags new : List Bool) : Type 0 where
  pub long : length new ≡ length flags
  pub calm : (j : ℕ) → get_or new j true ≡ false → (get_or flags j true ≡ false) × ((j ≡ except → ⊥) → Has members j → ⊥)

-- the same for the members at the slots of the entries
pub record Woke (except : ℕ) (index : List Naming) (told : List TrailEntry) (flags new : List Bool) : Type 0 where
  pub long : length new ≡ length flags
  pub calm : (j : ℕ) → get_or new j true ≡ false → (get_or flags j true ≡ false) × ((j ≡ except → ⊥) → (k : ℕ) → k < length told → (f : TrailEntry) → Has (here index (get_or told k f).slot) j → ⊥)
