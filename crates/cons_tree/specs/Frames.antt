-- Slots that a part doesn't name.
use Rattle.std.specs.Prelude.{◌≡◌, ℕ, List, [], ◌∷◌, Some, None, set}
use Rattle.type_lattice.specs.Types.{Type4}
use Rattle.cons_tree.specs.Environments.{State}
use Rattle.cons_tree.specs.declared.parts.Part.{Part}
use Rattle.cons_tree.specs.declared.parts.Part.TheVariants.{Bound, Equal, Tuple, Cons, Builtin, Call}

-- the slots that a part names
abbrev pub slots_of : Part → List ℕ
slots_of (Bound v t) = v ∷ []
slots_of (Equal v w) = v ∷ w ∷ []
slots_of (Tuple v ws) = v ∷ ws
slots_of (Cons v h t) = v ∷ h ∷ t ∷ []
slots_of (Call v args sig) = v ∷ args
slots_of (Builtin v args ts f) = v ∷ args

-- the slot is none of these
abbrev pub IsNone : ℕ → List ℕ → Type 0
IsNone s [] = Unit {0}
IsNone s (r ∷ rs) = (r ≡ s → ⊥) × IsNone s rs

-- the environment with another type in a slot
abbrev pub with_slot : ℕ → Type4 → State → State
with_slot s t None = None
with_slot s t (Some xs) = Some (set xs s t)
