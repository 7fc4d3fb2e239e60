-- Functions that are entered: with arguments in the sets of their parameters, they give values in the sets of their results.
use Rattle.std.proofs.Common.{◌≡◌, ℕ, List, [], ◌∷◌, length, refl, sym, subst}
use Rattle.type_kinds.specs.declared.atom.Atom.{Atom}
use Rattle.core_ast.specs.Model as m
use Rattle.core_ast.specs.declared.syntax.VarName.{VarName}
use Rattle.core_scope.specs.Asks.{one_value}
use Rattle.type_lattice_model.specs.Values.{Value, closure, Values, Env, Local, count}
use Rattle.bif_types.specs.Results as bif
use Rattle.core_meaning.specs.Environments as run
use Rattle.core_meaning.specs.Meaning.{Outcome, gives, fails, gave, Trace, Enter, enter_gives, enter_fails}
use Rattle.core_meaning_values.proofs.Coverage.{bound_covered}
use Rattle.fun_flow_sets.specs.Items.{Place, anywhere, returned}
use Rattle.fun_flow_sets.specs.Rules.{places, in_function}
use Rattle.fun_flow_sets.specs.Scopes.{Scope, first, parameters}
use Rattle.sound_laws.proofs.Traces.{both_traces}
use Rattle.sound_laws_fun_flow.specs.steps.Inside.{AreArguments, Fits, AreRules, body_rules, StandsAt, OfClosure, OfFrame}
use Rattle.sound_laws_fun_flow.specs.steps.Setting.{Setting, IsAllowed, AllOk, In, Cov, Covs, CovEnv, Result, Came, Invariant}
use Rattle.sound_laws_fun_flow.proofs.Finding.{IsFound}
use Rattle.sound_laws_fun_flow.proofs.Fitting.{fits_bound}
use Rattle.sound_laws_fun_flow.proofs.Lying.{in_world, in_flow, arguments_lie, open_arguments}

module _ (Z : Setting) where
  pub came_more : (p q : Place) (o : Outcome) → ((v : Value) → In Z p v → In Z q v) → Came Z p o → Came Z q o
  came_more p q (gives vs) f h = (h.0, (h.1.0, (f h.0 h.1.1.0, h.1.1.1)))
  came_more p q (fails f) g h = tt

  pub came_anywhere : (p : Place) (o : Outcome) → Came Z p o → Came Z anywhere o
  came_anywhere p o h = came_more p anywhere o (λ v k. in_world Z.program Z.rule v) h

  pub came_result : (p : Place) (o : Outcome) → Came Z p o → Result Z (p ∷ []) o
  came_result p (gives vs) h = subst (λ z. Result Z (p ∷ []) (gives z)) (sym h.1.0) ((h.1.1.0, tt), (h.1.1.1, tt))
  came_result p (fails f) h = tt

  -- what is in the first of some places came there
  pub one_came : (ps : List Place) (v : Value) → Result Z ps (gives (bif.one_value v)) → Came Z (first ps) (gives (bif.one_value v))
  one_came ps v h = (v, (refl, (h.0.0, h.1.0)))

  module _ (E : Atom → Env → m.Tree → Outcome → Trace → Type 0) (each : Invariant Z E) where
    -- a body whose text is among the rules
    body_inv : (home : Atom) (label : ℕ) (xs : List VarName) (t : m.Tree) (sc : Scope) (env : Env) (vs : Values) (o : Outcome) (tr : Trace) → E home (run.with_variables xs vs env) t o tr → length xs ≡ count vs → CovEnv Z home env
        → Covs Z vs → Fits Z.program Z.rule sc env → AreArguments Z.program Z.rule home label 0 vs → AreRules Z.program Z.rule (body_rules Z.program Z.rule home label xs t sc)
        → AllOk Z tr × Result Z (places Z.program home (in_function Z.program home label xs sc) one_value t) o
    body_inv home label xs t sc env vs o tr x n c cv fit ar a =
        each home (run.with_variables xs vs env) (in_function Z.program home label xs sc) t o tr one_value x
        (bound_covered (OfClosure Z.program Z.rule) (OfFrame Z.program Z.rule) home xs vs env cv c)
        (fits_bound Z.program Z.rule xs vs (parameters home label 0 (length xs)) sc env n (arguments_lie Z.program Z.rule home label 0 (length xs) vs ar) fit)
        a.1

    -- a closure that stands in a scope is entered with arguments in the sets of its parameters
    pub closure_entered : {home : Atom} {label arity : ℕ} {env : Env} {vs : Values} {o : Outcome} {tr : Trace} (sc : Scope) → Enter Z.program Z.from E (closure home label arity env) vs o tr → CovEnv Z home env
        → Fits Z.program Z.rule sc env → StandsAt Z.program Z.rule home label sc → Covs Z vs → AreArguments Z.program Z.rule home label 0 vs → AllOk Z tr × Came Z (returned home label) o
    closure_entered {home} {label} {arity} {env} sc (enter_gives {c = c} {vs = vs} {v = v} {tr = tr} n at many x) cw fit stands cv ar =
        let text = stands c at in
        let i = body_inv home label c.parameters c.body sc env vs _ tr x many cw cv fit ar text in
        let p = first (places Z.program home (in_function Z.program home label c.parameters sc) one_value c.body) in
        ((tt, both_traces (IsAllowed Z.program Z.rule) tr (gave (closure home label arity env) vs v ∷ []) i.0 (tt, tt)), (v, (refl, (in_flow Z.program Z.rule p (returned home label) v text.0 i.1.0.0, i.1.1.0))))
    closure_entered {home} {label} {arity} {env} sc (enter_fails {c = c} {vs = vs} {tr = tr} n at many x) cw fit stands cv ar =
        ((tt, (body_inv home label c.parameters c.body sc env vs _ tr x many cw cv fit ar (stands c at)).0), tt)

    pub enter_arity : {home : Atom} {label arity : ℕ} {env : Env} {vs : Values} {o : Outcome} {tr : Trace} → Enter Z.program Z.from E (closure home label arity env) vs o tr → arity ≡ count vs
    enter_arity (enter_gives n at many x) = n
    enter_arity (enter_fails n at many x) = n

    abbrev home_of : Value → Atom
    home_of (closure home label arity env) = home
    home_of v = []

    abbrev label_of : Value → ℕ
    label_of (closure home label arity env) = label
    label_of v = 0

    -- a covered closure may be entered with anything
    pub value_entered : {c : Value} {vs : Values} {o : Outcome} {tr : Trace} → Enter Z.program Z.from E c vs o tr → Cov Z c → Covs Z vs → AllOk Z tr × Came Z (returned (home_of c) (label_of c)) o
    value_entered (enter_gives {home = home} {label = label} {arity = arity} {vs = vs} n at many x) cw cv =
        closure_entered cw.1.0.0 (enter_gives n at many x) cw.0 cw.1.0.1.0 cw.1.0.1.1 cv (open_arguments Z.program Z.rule home label 0 arity vs n cw.1.1)
    value_entered (enter_fails {home = home} {label = label} {arity = arity} {vs = vs} n at many x) cw cv =
        closure_entered cw.1.0.0 (enter_fails n at many x) cw.0 cw.1.0.1.0 cw.1.0.1.1 cv (open_arguments Z.program Z.rule home label 0 arity vs n cw.1.1)

    -- so may a definition that is found
    pub found_entered : {home : Atom} {c : Value} {d : Local} {vs : Values} {o : Outcome} {tr : Trace} → IsFound Z.program Z.rule home c d → Enter Z.program Z.from E c vs o tr → Covs Z vs
        → AreArguments Z.program Z.rule home d.label 0 vs → AllOk Z tr × Came Z (returned home d.label) o
    found_entered {home} {c} {d} {vs} {o} {tr} f x cv ar =
        closure_entered f.scope (subst (λ z. Enter Z.program Z.from E z vs o tr) f.is x) f.covered f.fits f.stands cv ar

    pub found_arity : {home : Atom} {c : Value} {d : Local} {vs : Values} {o : Outcome} {tr : Trace} → IsFound Z.program Z.rule home c d → Enter Z.program Z.from E c vs o tr → d.arity ≡ count vs
    found_arity {home} {c} {d} {vs} {o} {tr} f x = enter_arity (subst (λ z. Enter Z.program Z.from E z vs o tr) f.is x)
