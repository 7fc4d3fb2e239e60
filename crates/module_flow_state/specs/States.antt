-- The state of a module's flow: of each function, top-level or of a `letrec`, the types of its parameters, or that it isn't
-- entered, and the type of its result. Functions go by their labels.
use Rattle.std.specs.Prelude.{ℕ, nat_eq, nat_lt, cond, List, [], ◌∷◌, replicate, length, Option, Some, None, if◌then◌else◌}
use Rattle.type_lattice.specs.Types.{Type4, none, any, join}
use Rattle.type_lattice.specs.Inclusion.{is_same}
use Rattle.module_flow_calls.specs.TypeLists.{Given, are_same, first, joins, where_given}
use Rattle.module_flow_state.specs.declared.states.FlowFun.{FlowFun}
use Rattle.module_flow_state.specs.declared.states.Contribution.{Contribution}
use Rattle.module_flow_state.specs.declared.states.Contribution.TheVariants.{Enters, Returns}

abbrev pub FlowState : Type 0
FlowState = List FlowFun

-- the parameters of a function, where it is entered
abbrev pub parameters_of : FlowState → ℕ → Option (List Type4)
parameters_of [] l = None
parameters_of (f ∷ fs) l = if nat_eq f.label l then f.params else parameters_of fs l

-- the result of a function
abbrev pub result_of : FlowState → ℕ → Type4
result_of [] l = none
result_of (f ∷ fs) l = if nat_eq f.label l then f.result else result_of fs l

-- ---- what a walk gives to the state

-- a function gives a value
abbrev pub returns : ℕ → Given → List Contribution
returns l g = where_given g (λ ts. Returns l (first ts) ∷ [])

abbrev pub entered_with : Option (List Type4) → List Type4 → Option (List Type4)
entered_with None ts = Some ts
entered_with (Some us) ts = Some (joins us ts)

-- a function that is entered with arguments of these types, and one that gives a value of this type
abbrev pub entered : FlowFun → List Type4 → FlowFun
entered f ts = record { label = f.label; name = f.name; params = entered_with f.params ts; result = f.result }

abbrev pub returning : FlowFun → Type4 → FlowFun
returning f t = record { label = f.label; name = f.name; params = f.params; result = join f.result t }

-- the state with the function of this label changed
abbrev pub changed : FlowState → ℕ → (FlowFun → FlowFun) → FlowState
changed [] l change = []
changed (f ∷ fs) l change = if nat_eq f.label l then change f ∷ fs else f ∷ changed fs l change

abbrev pub takes_one : FlowState → Contribution → FlowState
takes_one st (Enters l ts) = changed st l (λ f. entered f ts)
takes_one st (Returns l t) = changed st l (λ f. returning f t)

-- one contribution after the other
abbrev pub takes : FlowState → List Contribution → FlowState
takes st [] = st
takes st (g ∷ gs) = takes (takes_one st g) gs

-- ---- widening

abbrev pub anys : List Type4 → List Type4
anys ts = replicate (length ts) any

-- Parameters that a late round would change may be anything; so may those of a function that it enters first.
abbrev pub widened_parameters : (old new : Option (List Type4)) → Option (List Type4)
widened_parameters None None = None
widened_parameters None (Some us) = Some (anys us)
widened_parameters (Some ts) None = Some ts
widened_parameters (Some ts) (Some us) = Some (cond (are_same ts us) ts (anys ts))

abbrev pub widened_result : (old new : Type4) → Type4
widened_result t u = cond (is_same t u) t any

abbrev pub widened_one : (old new : FlowFun) → FlowFun
widened_one f n =
    record {
      label = f.label;
      name = f.name;
      params = widened_parameters f.params n.params;
      result = widened_result f.result n.result;
    }

abbrev pub widened : FlowState → FlowState → FlowState
widened [] ns = []
widened (f ∷ fs) [] = []
widened (f ∷ fs) (n ∷ ns) = widened_one f n ∷ widened fs ns

-- how many rounds take all that a walk gives
abbrev pub joined_rounds : ℕ
joined_rounds = 12

-- the state after the round of this number, from what the round makes of it
abbrev pub next_state : ℕ → (old made : FlowState) → FlowState
next_state k old made = cond (nat_lt k joined_rounds) made (widened old made)
