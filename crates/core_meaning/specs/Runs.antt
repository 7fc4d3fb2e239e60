-- Evaluation with fuel, runs, and their stages.
use Rattle.std.specs.Prelude.{◌≡◌, ◌⊎◌, ℕ, zero, suc, true, [], Some}
use Rattle.type_kinds.specs.declared.atom.Atom.{Atom}
use Rattle.core_ast.specs.declared.syntax.FunName.{FunName}
use Rattle.type_lattice_model.specs.Canonical.{IsCanonical}
use Rattle.type_lattice_model.specs.Values.{Value, Values}
use Rattle.bif_types.specs.Closures.{HoldsClosure}
use Rattle.core_meaning.specs.Programs.{Program, is_exported, top_function}
use Rattle.core_meaning.specs.Meaning.{Outcome, gives, fails, raised, stopped, made, Trace, Among, Meanings, Enter, Step, AreOutside}

-- Without fuel an evaluation stops at once; with some its parts have one less. W says which values come from outside.
abbrev pub EvalWith : Program → (Value → Type 0) → ℕ → Meanings
EvalWith U W zero = λ home env t o tr. (o ≡ fails stopped) × (tr ≡ [])
EvalWith U W (suc n) = λ home env t o tr. Step U W (EvalWith U W n) home env t o tr

-- the outcome is no stop: more fuel doesn't change it
abbrev pub HasEnded : Outcome → Type 0
HasEnded (gives vs) = Unit {0}
HasEnded (fails raised) = Unit {0}
HasEnded (fails stopped) = ⊥

-- a value of which each closure is one of M, and in which maps have their one form
abbrev pub IsWorldly : (Value → Type 0) → Value → Type 0
IsWorldly M v = IsCanonical v × ((c : Value) → HoldsClosure c v → M c)

-- a run, where M says which closures were made before: an exported function, or such a closure, is entered with values from
-- outside and any fuel
pub record RunWith (U : Program) (M : Value → Type 0) (tr : Trace) : Type 0 where
  pub start : Value
  pub args : Values
  pub fuel : ℕ
  pub outcome : Outcome
  pub begins : ((home : Atom) × ((f : FunName) × ((is_exported U home f ≡ true) × (top_function U home f ≡ Some start)))) ⊎ M start
  pub worldly : AreOutside (IsWorldly M) args
  pub enters : Enter U (IsWorldly M) (EvalWith U (IsWorldly M) fuel) start args outcome tr

-- the closure was made in a run of a stage below. So whatever comes back from outside was made before, and no order of
-- processes has to be told
abbrev pub WasMade : Program → ℕ → Value → Type 0
WasMade U zero c = ⊥
WasMade U (suc k) c = WasMade U k c ⊎ ((tr : Trace) × (RunWith U (λ v. WasMade U k v) tr × Among (made c) tr))

-- the values that come from outside in a run of a stage
abbrev pub IsOutside : Program → ℕ → Value → Type 0
IsOutside U k v = IsWorldly (λ c. WasMade U k c) v

-- an evaluation of a stage with some fuel, of an expression of a module
abbrev pub Eval : Program → (stage fuel : ℕ) → Meanings
Eval U k n = EvalWith U (λ v. IsOutside U k v) n

-- the same of a function that is entered with some arguments
abbrev pub EnterAt : Program → (stage fuel : ℕ) → Value → Values → Outcome → Trace → Type 0
EnterAt U k n = Enter U (λ v. IsOutside U k v) (Eval U k n)

-- a run of a stage
abbrev pub Run : Program → ℕ → Trace → Type 0
Run U k tr = RunWith U (λ c. WasMade U k c) tr

-- an exported function has a run of the stage with these values and this fuel: it is defined, and entering it has an outcome and
-- a trace
pub record HasRun (U : Program) (stage fuel : ℕ) (home : Atom) (f : FunName) (vs : Values) : Type 0 where
  pub start : Value
  pub outcome : Outcome
  pub trace : Trace
  pub under : top_function U home f ≡ Some start
  pub enters : EnterAt U stage fuel start vs outcome trace
  pub runs : Run U stage trace
