-- What of the contributions of a walk a state has taken in for good, function by function.
use Rattle.std.specs.Prelude.{◌≡◌, ◌≤◌, ◌⊎◌, ℕ, nat_eq, nat_lt, cond, List, [], ◌∷◌, ◌++◌, Option, Some, None}
use Rattle.type_lattice.specs.Types.{Type4, any, join}
use Rattle.module_flow_state.specs.declared.states.FlowFun.{FlowFun}
use Rattle.module_flow_state.specs.declared.states.Contribution.{Contribution}
use Rattle.module_flow_state.specs.declared.states.Contribution.TheVariants.{Enters, Returns}
use Rattle.module_flow_state.specs.States.{FlowState, anys, changed, entered, entered_with, returning, joined_rounds, widened_one}
use Rattle.module_flow_state.specs.steps.Reading.{label_of}

-- the contributions for one function, and those for others
abbrev pub own : ℕ → List Contribution → List Contribution
own l [] = []
own l (g ∷ gs) = cond (nat_eq l (label_of g)) (g ∷ own l gs) (own l gs)

abbrev pub others : ℕ → List Contribution → List Contribution
others l [] = []
others l (g ∷ gs) = cond (nat_eq l (label_of g)) (others l gs) (g ∷ others l gs)

-- a function after it has taken a contribution for it, and several
abbrev pub taking : FlowFun → Contribution → FlowFun
taking f (Enters l ts) = entered f ts
taking f (Returns l t) = returning f t

abbrev pub taking_all : FlowFun → List Contribution → FlowFun
taking_all f [] = f
taking_all f (g ∷ gs) = taking_all (taking f g) gs

-- a function after the round of this number
abbrev pub next_one : ℕ → (old made : FlowFun) → FlowFun
next_one k f n = cond (nat_lt k joined_rounds) n (widened_one f n)

-- taking the contribution again changes nothing
abbrev pub Absorbs : FlowFun → Contribution → Type 0
Absorbs f (Enters l ts) = entered_with f.params ts ≡ f.params
Absorbs f (Returns l t) = join f.result t ≡ f.result

-- what the contribution is joined to may be anything already
abbrev pub IsWide : Option (List Type4) → Type 0
IsWide None = ⊥
IsWide (Some us) = anys us ≡ us

abbrev pub Wide : FlowFun → Contribution → Type 0
Wide f (Enters l ts) = IsWide f.params
Wide f (Returns l t) = f.result ≡ any

-- No round from this one on changes the function by the contribution.
abbrev pub Has : ℕ → FlowFun → Contribution → Type 0
Has k f g = Absorbs f g ⊎ ((joined_rounds ≤ k) × Wide f g)

abbrev pub HasAll : ℕ → FlowFun → List Contribution → Type 0
HasAll k f [] = Unit {0}
HasAll k f (g ∷ gs) = Has k f g × HasAll k f gs

abbrev pub KeptIn : ℕ → FlowState → List Contribution → Type 0
KeptIn k [] gs = Unit {0}
KeptIn k (f ∷ fs) gs = HasAll k f (own f.label gs) × KeptIn k fs (others f.label gs)

-- the function of a label, where one stands
abbrev pub functions_at : FlowState → ℕ → List FlowFun
functions_at [] l = []
functions_at (f ∷ fs) l = cond (nat_eq f.label l) (f ∷ []) (functions_at fs l)

-- the functions that contributions are for, one for each contribution
abbrev pub functions_given : FlowState → List Contribution → List FlowFun
functions_given st [] = []
functions_given st (g ∷ gs) = functions_at st (label_of g) ++ functions_given st gs

-- the state with functions widened, from what they were before
abbrev pub widens : FlowState → (old : List FlowFun) → FlowState
widens st [] = st
widens st (f ∷ fs) = widens (changed st f.label (λ n. widened_one f n)) fs
