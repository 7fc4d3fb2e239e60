-- What it is for a state to take in what a walk gives.
use Rattle.std.specs.Prelude.{◌≡◌, ℕ, Bool, false, ◌||◌, nat_eq, length, List, [], ◌∷◌, Some, IsTrue}
use Rattle.type_lattice.specs.Types.{Type4, Below, AreBelow}
use Rattle.module_flow_state.specs.declared.states.Contribution.{Contribution}
use Rattle.module_flow_state.specs.declared.states.Contribution.TheVariants.{Enters, Returns}
use Rattle.module_flow_state.specs.States.{FlowState, parameters_of, result_of}

-- the labels of the functions of a state, and whether one has this label
abbrev pub labels_of : FlowState → List ℕ
labels_of [] = []
labels_of (f ∷ fs) = f.label ∷ labels_of fs

abbrev pub stands : FlowState → ℕ → Bool
stands [] l = false
stands (f ∷ fs) l = nat_eq f.label l || stands fs l

-- type by type, up to the shorter list's end
abbrev pub EachBelow : List Type4 → List Type4 → Type 0
EachBelow [] us = Unit {0}
EachBelow (t ∷ ts) [] = Unit {0}
EachBelow (t ∷ ts) (u ∷ us) = Below t u × EachBelow ts us

-- A function that stands in the state is entered there with at least these types, and gives at least this one.
abbrev pub IsTaken : FlowState → Contribution → Type 0
IsTaken st (Enters l ts) = IsTrue (stands st l) → (us : List Type4) × ((parameters_of st l ≡ Some us) × EachBelow ts us)
IsTaken st (Returns l t) = IsTrue (stands st l) → Below t (result_of st l)

abbrev pub AreTaken : FlowState → List Contribution → Type 0
AreTaken st [] = Unit {0}
AreTaken st (g ∷ gs) = IsTaken st g × AreTaken st gs

-- ---- with as many types as a function has parameters

-- counts: how many parameters the function of a label has
module _ (counts : ℕ → ℕ) where
  -- each function that is entered has as many types of parameters
  abbrev pub AreCounted : FlowState → Type 0
  AreCounted [] = Unit {0}
  AreCounted (f ∷ fs) = ((us : List Type4) → f.params ≡ Some us → length us ≡ counts f.label) × AreCounted fs

  -- each function is entered with as many
  abbrev pub GiveCounted : List Contribution → Type 0
  GiveCounted [] = Unit {0}
  GiveCounted (Enters l ts ∷ gs) = (length ts ≡ counts l) × GiveCounted gs
  GiveCounted (Returns l t ∷ gs) = GiveCounted gs

-- the same, where there are as many types
abbrev pub IsWhollyTaken : FlowState → Contribution → Type 0
IsWhollyTaken st (Enters l ts) = IsTrue (stands st l) → (us : List Type4) × ((parameters_of st l ≡ Some us) × AreBelow ts us)
IsWhollyTaken st (Returns l t) = IsTrue (stands st l) → Below t (result_of st l)

abbrev pub AreWhollyTaken : FlowState → List Contribution → Type 0
AreWhollyTaken st [] = Unit {0}
AreWhollyTaken st (g ∷ gs) = IsWhollyTaken st g × AreWhollyTaken st gs
