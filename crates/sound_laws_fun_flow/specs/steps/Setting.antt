-- What the invariant of runs is about: a program, rules, which values come from outside, and what is known of them.
use Rattle.std.specs.Prelude.{◌≡◌, ℕ, true, List, Some}
use Rattle.type_kinds.specs.declared.atom.Atom.{Atom}
use Rattle.core_ast.specs.Model as m
use Rattle.core_ast.specs.declared.syntax.FunName.{FunName}
use Rattle.core_scope.specs.declared.ask.Ask.{Ask}
use Rattle.type_lattice_model.specs.Values.{Value, Values, Env, count}
use Rattle.bif_types.specs.Closures.{HoldsClosure, HoldClosure}
use Rattle.bif_types.specs.Results.{BifMay, is_exact, one_value}
use Rattle.core_meaning.specs.Meaning.{Outcome, gives, fails, Event, made, chosen, applied, entered, gave, back, Trace}
use Rattle.core_meaning.specs.Programs.{Program, module_named, AreAtLabels, is_exported}
use Rattle.core_meaning_values.specs.Covered.{Covered, AreCovered, CoveredEnv}
use Rattle.core_meaning_values.specs.Functions.{HoldsFunction, HoldFunction}
use Rattle.fun_flow_sets.specs.Items.{Place, Rule, applies, defined_at}
use Rattle.fun_flow_sets.specs.Rules.{places, rules, rules_of_definitions, opens_definition}
use Rattle.fun_flow_sets.specs.Scopes.{Scope, no_place}
use Rattle.sound_laws.specs.Knowledge.{EachEvent}
use Rattle.sound_laws_fun_flow.specs.steps.Inside.{IsIn, LieIn, Fits, AreRules, OfClosure, OfFrame}

-- what built-in functions hand on
pub record HandOn : Type 0 where
  pub closures : (f : Atom) (vs : Values) (v c : Value) → is_exact f (count vs) ≡ true → BifMay f vs v → HoldsClosure c v → HoldClosure c vs
  pub functions : (f : Atom) (vs : Values) (v c : Value) → is_exact f (count vs) ≡ true → BifMay f vs v → HoldsFunction c v → HoldFunction c vs

module _ (U : Program) (R : Rule → Type 0) where
  abbrev pub IsCov : Value → Type 0
  IsCov v = Covered (OfClosure U R) (OfFrame U R) v

  abbrev pub AreCov : Values → Type 0
  AreCov vs = AreCovered (OfClosure U R) (OfFrame U R) vs

  abbrev pub IsCovEnv : Atom → Env → Type 0
  IsCovEnv home env = CoveredEnv (OfClosure U R) (OfFrame U R) home env

  -- the rules have those of all definitions, which stand at their labels, and open what is exported
  pub record HasProgram : Type 0 where
    pub definitions : (home : Atom) (p : m.Module) → module_named U home ≡ Some p → AreAtLabels U home p.defs × AreRules U R (rules_of_definitions U home no_place p.defs)
    pub exports : (home : Atom) (f : FunName) → is_exported U home f ≡ true → AreRules U R (opens_definition home (defined_at U home f))

  -- What is allowed of an event: closures that are made are covered, and what is applied is in the set of its place.
  abbrev pub IsAllowed : Event → Type 0
  IsAllowed (made c) = IsCov c
  IsAllowed (chosen home label) = Unit {0}
  IsAllowed (applied home label c) = (p : Place) × ((n : ℕ) × (R (applies p n home label) × IsIn U R p c))
  IsAllowed (entered c vs) = Unit {0}
  IsAllowed (gave c vs v) = Unit {0}
  IsAllowed (back home label v) = Unit {0}

pub record Setting : Type 1 where
  pub program : Program
  pub rule : Rule → Type 0
  pub from : Value → Type 0
  pub hand_on : HandOn
  pub has : HasProgram program rule
  pub world : (v : Value) → from v → IsCov program rule v

module _ (Z : Setting) where
  abbrev pub In : Place → Value → Type 0
  In p v = IsIn Z.program Z.rule p v

  abbrev pub AllOk : Trace → Type 0
  AllOk tr = EachEvent (IsAllowed Z.program Z.rule) tr

  abbrev pub Cov : Value → Type 0
  Cov v = IsCov Z.program Z.rule v

  abbrev pub Covs : Values → Type 0
  Covs vs = AreCov Z.program Z.rule vs

  abbrev pub CovEnv : Atom → Env → Type 0
  CovEnv home env = IsCovEnv Z.program Z.rule home env

  -- values are in the sets of these places, and covered
  abbrev pub Result : List Place → Outcome → Type 0
  Result ps (gives vs) = LieIn Z.program Z.rule ps vs × Covs vs
  Result ps (fails f) = Unit {0}

  -- one value is in the set of the place, and covered
  abbrev pub Came : Place → Outcome → Type 0
  Came p (gives vs) = (v : Value) × ((vs ≡ one_value v) × (In p v × Cov v))
  Came p (fails f) = Unit {0}

  -- In a covered environment that fits the scope, and where the rules of the expression are there, each event is allowed, and the
  -- values are in the sets of the expression's places.
  abbrev pub Invariant : (Atom → Env → m.Tree → Outcome → Trace → Type 0) → Type 0
  Invariant E = (home : Atom) (env : Env) (sc : Scope) (t : m.Tree) (o : Outcome) (tr : Trace) (k : Ask) → E home env t o tr → CovEnv home env → Fits Z.program Z.rule sc env → AreRules Z.program Z.rule (rules Z.program home sc k t)
      → AllOk tr × Result (places Z.program home sc k t) o
