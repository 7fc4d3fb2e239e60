-- What it is for a state to take in what a walk gives, and for a walk to be the one that reports at labels.
use Rattle.std.specs.Prelude.{◌≡◌, ◌⊎◌, ℕ, List, [], ◌∷◌}
use Rattle.type_lattice.specs.Types.{Below}
use Rattle.warn_list.specs.declared.finding.Finding.{Finding}
use Rattle.warn_list.specs.declared.finding.FindingKind.{FindingKind}
use Rattle.warn_list.specs.declared.finding.FindingKind.TheVariants.{NoReturn, DeadCall, DeadClause, NeverCalled, UnknownFunction}
use Rattle.module_flow_state.specs.declared.states.Contribution.{Contribution}
use Rattle.module_flow_state.specs.declared.states.Contribution.TheVariants.{Enters, Returns}
use Rattle.module_flow_state.specs.States.{result_of}
use Rattle.module_flow_state.specs.World.{World}
use Rattle.sound_laws_flow.specs.steps.Fine.{IsEntered}

abbrev pub Member : ℕ → List ℕ → Type 0
Member l [] = ⊥
Member l (k ∷ ks) = (l ≡ k) ⊎ Member l ks

-- no label stands twice
abbrev pub Distinct : List ℕ → Type 0
Distinct [] = Unit {0}
Distinct (l ∷ ls) = (Member l ls → ⊥) × Distinct ls

-- something is reported at the label
abbrev pub Reports : ℕ → List Finding → Type 0
Reports l [] = ⊥
Reports l (f ∷ fs) = (l ≡ f.label) ⊎ Reports l fs

-- a call or a clause that is found never to give a value, or to be chosen
abbrev pub IsDead : FindingKind → Type 0
IsDead (NoReturn f) = ⊥
IsDead (DeadCall t) = Unit {0}
IsDead DeadClause = Unit {0}
IsDead (NeverCalled f) = ⊥
IsDead (UnknownFunction x f) = ⊥

abbrev pub AreDead : List Finding → Type 0
AreDead [] = Unit {0}
AreDead (f ∷ fs) = IsDead f.kind × AreDead fs

-- all is reported at these labels, of calls and clauses
pub record AreAt (fs : List Finding) (ls : List ℕ) : Type 0 where
  pub at : (l : ℕ) → Reports l fs → Member l ls
  pub dead : AreDead fs

module _ (W : World) (D : ℕ → Type 0) where
  abbrev pub IsTaken : Contribution → Type 0
  IsTaken (Enters l ts) = IsEntered W D D l ts
  IsTaken (Returns l t) = Below t (result_of W.state l)

  abbrev pub AreTaken : List Contribution → Type 0
  AreTaken [] = Unit {0}
  AreTaken (g ∷ gs) = IsTaken g × AreTaken gs

  -- No label stands twice; what is reported at these labels is among these findings; and the contributions are taken.
  pub record Takes (ls : List ℕ) (fs : List Finding) (gs : List Contribution) : Type 0 where
    pub distinct : Distinct ls
    pub only : (l : ℕ) → Member l ls → D l → Reports l fs
    pub taken : AreTaken gs
