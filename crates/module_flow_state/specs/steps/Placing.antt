-- Where the functions of a state stand, by their labels.
use Rattle.std.specs.Prelude.{◌≡◌, ℕ, suc, Bool, true, false, ◌&&◌, List, [], ◌∷◌, Option, Some, None, nat_eq, cond}
use Rattle.std.specs.Map.{lookup}
use Rattle.core_scope.specs.Names.{same_function}
use Rattle.type_lattice.specs.Types.{Type4}
use Rattle.type_lattice.specs.Inclusion.{is_same}
use Rattle.module_flow_state.specs.States.{FlowState}
use Rattle.module_flow_calls.specs.TypeLists.{are_same}
use Rattle.module_flow_state.specs.declared.states.FlowFun.{FlowFun}

abbrev pub after_one : Option ℕ → Option ℕ
after_one None = None
after_one (Some i) = Some (suc i)

-- the position of the first function of a label
abbrev pub position_of : FlowState → ℕ → Option ℕ
position_of [] l = None
position_of (f ∷ fs) l = cond (nat_eq f.label l) (Some 0) (after_one (position_of fs l))

-- the table has the position of each label
abbrev pub ArePlaced : FlowState → List (ℕ × ℕ) → Type 0
ArePlaced fs positions = (l : ℕ) → lookup (nat_eq l) positions ≡ position_of fs l

-- whether two functions are the same in the flow
abbrev pub are_same_parameters : Option (List Type4) → Option (List Type4) → Bool
are_same_parameters None None = true
are_same_parameters None (Some us) = false
are_same_parameters (Some ts) None = false
are_same_parameters (Some ts) (Some us) = are_same ts us

abbrev pub is_same_function : FlowFun → FlowFun → Bool
is_same_function f g =
    nat_eq f.label g.label && same_function f.name g.name && are_same_parameters f.params g.params && is_same f.result g.result
