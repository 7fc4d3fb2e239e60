-- Environments: a type for each slot, or Bottom. Which values they let into the slots, and how one slot is narrowed.
use Rattle.std.specs.Prelude.{ℕ, cond, List, Option, Some, None, get_or, set}
use Rattle.type_lattice_model.specs.Values.{Value}
use Rattle.type_lattice.specs.Types.{Type4, HasType, AreBelow, any, is_none, meet}
use Rattle.cons_tree.specs.Signatures.{has_none}
use Rattle.cons_tree.specs.declared.parts.Env.{Env}
use Rattle.cons_tree.specs.declared.parts.Env.TheVariants as env

-- a type for each slot
abbrev pub Types : Type 0
Types = List Type4

-- the type of a slot; past the last one a slot may have any value
abbrev pub type_at : Types → ℕ → Type4
type_at xs s = get_or xs s any

-- an environment; None stands for Bottom
abbrev pub State : Type 0
State = Option Types

-- the next step from an environment, of which Bottom has none
abbrev pub on_types : State → (Types → State) → State
on_types None f = None
on_types (Some xs) f = f xs

-- what a caller passes: with a slot at none it is Bottom
abbrev pub state_of : Env → State
state_of (env.Types xs) = cond (has_none xs) None (Some xs)
state_of env.Bottom = None

-- what a caller gets back
abbrev pub env_of : State → Env
env_of None = env.Bottom
env_of (Some xs) = env.Types xs

-- the slot with this type, and Bottom where that is none
abbrev pub with_type : Types → ℕ → Type4 → State
with_type xs s t = cond (is_none t) None (Some (set xs s t))

-- the slot narrowed to the meet of its type and another
unfoldable pub lowered : Types → ℕ → Type4 → State
lowered xs s t = with_type xs s (meet (type_at xs s) t)

-- environments are ordered slot by slot, and Bottom is below all
abbrev pub IsBelow : State → State → Type 0
IsBelow None r = Unit {0}
IsBelow (Some xs) None = ⊥
IsBelow (Some xs) (Some ys) = AreBelow xs ys

-- a value for each slot
abbrev pub Assignment : Type 0
Assignment = ℕ → Value

-- each slot's value is of its type; in Bottom there is no assignment
abbrev pub LiesIn : Assignment → Types → Type 0
LiesIn a xs = (s : ℕ) → HasType (a s) (type_at xs s)

abbrev pub LiesInState : Assignment → State → Type 0
LiesInState a None = ⊥
LiesInState a (Some xs) = LiesIn a xs
