-- Functions that are entered: in what their bodies see, with the parameters of the state or with anything.
use Rattle.std.proofs.Common.{◌≡◌, ◌⊎◌, ℕ, Bool, true, false, if◌then◌else◌, List, [], ◌∷◌, replicate, Option, Some, None, inl, inr, refl, sym, ap, ◌∙◌, subst}
use Rattle.std.proofs.lemmas.Option.{same_Some}
use Rattle.type_kinds.specs.declared.atom.Atom.{Atom}
use Rattle.core_ast.specs.Model as m
use Rattle.core_ast.specs.declared.syntax.FunName.{FunName}
use Rattle.core_scope.specs.declared.ask.Ask.TheVariants.{Exactly}
use Rattle.core_scope.specs.Functions.{LabelledFunction}
use Rattle.core_scope.specs.Names.{defined_names, has_function, same_atom}
use Rattle.core_scope.specs.Asks.{erlang}
use Rattle.type_lattice_model.specs.Values.{Value, nil, closure, Values, no_value, and_value, Env, no_variable, Local, count}
use Rattle.type_lattice.specs.Types.{Type4, HasType, HasTypes, any}
use Rattle.bif_types.specs.Results.{BifMay, is_exact}
use Rattle.cons_tree.specs.Facts.{TypeFacts}
use Rattle.core_meaning.specs.Meaning.{Outcome, gives, fails, gave, entered, Trace, Enter, enter_gives, enter_fails, Called, call_built_in}
use Rattle.core_meaning.specs.Meaning.{call_enters, call_outside, call_raises, Apply, apply_closure, apply_external, apply_foreign, apply_raises}
use Rattle.core_meaning.specs.Programs.{module_named, function_at, function_named, closure_of, locals_of, top_of_module, top_function, is_exported, exports_in, built_in, exported, hidden, found, found_in}
use Rattle.module_flow_calls.specs.Functions.{defined_labels, label_named}
use Rattle.module_flow_state.specs.Scopes.{WalkScope, outermost}
use Rattle.module_flow_calls.specs.TypeLists.{as_many, first}
use Rattle.module_flow_state.specs.Scopes as see
use Rattle.module_flow_state.specs.States.{parameters_of, result_of}
use Rattle.module_flow_walk.specs.Walk.{walk}
use Rattle.sound_laws.proofs.Summaries.{of_module}
use Rattle.sound_laws_flow.specs.steps.Covered.{defs_in}
use Rattle.sound_laws_flow.specs.steps.Seen.{IsSeen, label_found}
use Rattle.sound_laws_flow.proofs.Coverage.{bound_covered, each_held_is, by_held}
use Rattle.sound_laws_flow.proofs.Results.{first_has}
use Rattle.sound_laws_flow.proofs.Setting.{Setting, V, IsCov, AreCov, IsCovEnv, Ok, AllOk, IsKnown, Borne, Results, Invariant, known_front, both_ok}
use Rattle.sound_laws_flow.proofs.WalkScopes.{any_have, as_many_have, open_have, seen_with}

abbrev home_of : Value → Atom
home_of (closure home label arity env) = home
home_of v = []

abbrev label_of : Value → ℕ
label_of (closure home label arity env) = label
label_of v = 0

abbrev arity_of : Value → ℕ
arity_of (closure home label arity env) = arity
arity_of v = 0

abbrev captured_by : Value → Env
captured_by (closure home label arity env) = env
captured_by v = no_variable

-- nothing is seen, and there is nothing
pub outermost_seen : (T : TypeFacts) (home : Atom) → IsSeen home outermost no_variable
outermost_seen T home = record {
  at = λ i. nil;
  stands = record { variables = λ x v e. absurd cc; functions = λ f h. refl };
  inside = λ s. T.every nil;
  functions = record { paired = refl; others = λ f e. refl; inner = λ f l n around e. absurd cc };
}

module _ (Z : Setting) (E : Atom → Env → m.Tree → Outcome → Trace → Type 0) (each : Invariant Z E) where
  -- a value came back, covered, and of the type that the walk of the body gives
  abbrev pub Came : Atom → ℕ → WalkScope → List Type4 → Outcome → Type 0
  Came home l sc ps (gives vs) = (v : Value) × ((vs ≡ and_value v no_value) × (IsCov Z v
      × ((c : LabelledFunction) × ((function_at Z.program home l ≡ Some c) × ((ts : List Type4) × ((walk (V Z home) (see.with_variables sc c.parameters ps) (Exactly 1) c.body ≡ Some ts) × HasType v (first ts)))))))
  Came home l sc ps (fails f) = Unit {0}

  -- a closure is entered where this is seen around it, with parameters of these types
  pub entered_with : {home : Atom} {l n : ℕ} {env : Env} {vs : Values} {o : Outcome} {tr : Trace} (sc : WalkScope) (ps : List Type4) → Enter Z.program Z.from E (closure home l n env) vs o tr → IsKnown Z tr → IsCovEnv Z home env
      → IsSeen home sc env → AreCov Z vs → HasTypes vs (as_many (count vs) ps) → Borne Z home l sc ps → Ok Z (entered (closure home l n env) vs) → AllOk Z tr × Came home l sc ps o
  entered_with {home} {l} {n} {env} sc ps (enter_gives {c = c} {vs = vs} {v = v} {tr = tr} a at many x) k ce s cv h f ok =
      let known : IsKnown Z tr = known_front Z tr (gave (closure home l n env) vs v ∷ []) (k.0.1, k.1.1) in
      let i = each home _ (see.with_variables sc c.parameters ps) _ _ _ (Exactly 1) x known (bound_covered Z.program Z.callee Z.states Z.dead_clause Z.dead_call home c.parameters vs env cv ce)
      (seen_with Z.types c.parameters vs ps s many (subst (λ j. HasTypes vs (as_many j ps)) (sym many) h)) (f c at) in
      let j = i.1.1 refl in
      ((ok, both_ok Z tr (gave (closure home l n env) vs v ∷ []) i.0 (tt, tt)), (v, (refl, (i.1.0.0, (c, (at, (j.0, (j.1.0, first_has v j.0 j.1.1))))))))
  entered_with {home} {l} {n} {env} sc ps (enter_fails {c = c} {vs = vs} {tr = tr} a at many x) k ce s cv h f ok =
      let i = each home _ (see.with_variables sc c.parameters ps) _ _ _ (Exactly 1) x (k.0.1, k.1.1) (bound_covered Z.program Z.callee Z.states Z.dead_clause Z.dead_call home c.parameters vs env cv ce)
      (seen_with Z.types c.parameters vs ps s many (subst (λ j. HasTypes vs (as_many j ps)) (sym many) h)) (f c at) in
      ((ok, i.0), tt)

  -- what comes back is of the state's result
  pub came_result : (home : Atom) (l : ℕ) (sc : WalkScope) (ps : List Type4) (vs : Values) → Came home l sc ps (gives vs) → Results Z home l sc ps
      → (v : Value) × ((vs ≡ and_value v no_value) × (IsCov Z v × HasType v (result_of (Z.states home) l)))
  came_result home l sc ps vs k r =
      let at = k.1.1.1 in
      let walked = at.1.1 in
      (k.0, (k.1.0, (k.1.1.0, r at.0 walked.0 at.1.0 walked.1.0 k.0 walked.1.1)))

  -- ---- closures that may be entered with anything

  abbrev pub CameOne : Outcome → Type 0
  CameOne (gives vs) = (v : Value) × ((vs ≡ and_value v no_value) × IsCov Z v)
  CameOne (fails f) = Unit {0}

  only_one : (home : Atom) (l : ℕ) (sc : WalkScope) (ps : List Type4) (o : Outcome) → Came home l sc ps o → CameOne o
  only_one home l sc ps (gives vs) k = (k.0, (k.1.0, k.1.1.0))
  only_one home l sc ps (fails f) k = tt

  enter_arity : {home : Atom} {l n : ℕ} {env : Env} {vs : Values} {o : Outcome} {tr : Trace} → Enter Z.program Z.from E (closure home l n env) vs o tr → n ≡ count vs
  enter_arity (enter_gives a at many x) = a
  enter_arity (enter_fails a at many x) = a

  -- a function that its module defines, entered with values of the state's parameters
  pub top_allowed : (home : Atom) (l n : ℕ) (env : Env) (vs : Values) → ((f : FunName) → top_function Z.program home f ≡ Some (closure home l n env)
      → (ps : List Type4) × ((parameters_of (Z.states home) l ≡ Some ps) × HasTypes vs ps)) → Ok Z (entered (closure home l n env) vs)
  top_allowed home l n env vs h other f label arity around e is =
      let of = of_module Z.program other f home l n env Z.stand is in
      let labels : l ≡ label = ap label_of e in
      let homes : home ≡ other = of.same_home in
      let r = h f (subst (λ z. top_function Z.program z f ≡ Some (closure home l n env)) (sym homes) is) in
      (r.0, (subst (λ z. parameters_of (Z.states z) label ≡ Some r.0) homes (subst (λ z. parameters_of (Z.states home) z ≡ Some r.0) labels r.1.0), r.1.1))

  closure_entered : {home : Atom} {l n : ℕ} {env : Env} {vs : Values} {o : Outcome} {tr : Trace} → Enter Z.program Z.from E (closure home l n env) vs o tr → IsKnown Z tr → IsCov Z (closure home l n env) → AreCov Z vs
      → AllOk Z tr × CameOne o
  closure_entered {home} {l} {n} {env} {vs} {o} x k cw cv =
      let position = cw.1.0 in
      let sc = position.0 in
      let arity = enter_arity x in
      let r = entered_with sc [] x k cw.0 position.1.0 cv (any_have Z.types vs) position.1.1 (top_allowed home l n env vs (λ f is. (replicate n any, (cw.1.1 f is, open_have Z.types vs n (sym arity))))) in
      (r.0, only_one home l sc [] o r.1)

  pub value_entered : {w : Value} {vs : Values} {o : Outcome} {tr : Trace} → Enter Z.program Z.from E w vs o tr → IsKnown Z tr → IsCov Z w → AreCov Z vs → AllOk Z tr × CameOne o
  value_entered (enter_gives a at many x) k cw cv = closure_entered (enter_gives a at many x) k cw cv
  value_entered (enter_fails a at many x) k cw cv = closure_entered (enter_fails a at many x) k cw cv

  -- ---- functions of modules

  -- what a module defines: its label, and that it has captured nothing
  pub record IsTop (home : Atom) (f : FunName) (c : Value) : Type 0 where
    pub label : ℕ
    pub arity : ℕ
    pub is : c ≡ closure home label arity no_variable
    pub named : label_named (V Z home).names (V Z home).labels f ≡ Some label

  pub is_top : (home : Atom) (f : FunName) (c : Value) → top_function Z.program home f ≡ Some c → IsTop home f c
  is_top home f c h = by (module_named Z.program home) refl h
    where
      at_name : (p : m.Module) → module_named Z.program home ≡ Some p → (o : Option Local) → function_named (locals_of p.defs) f ≡ o → closure_of home no_variable o ≡ Some c → IsTop home f c
      at_name p e None q k = absurd cc
      at_name p e (Some d) q k =
          let once = (Z.settled home).names f in
          let here : label_named (defined_names (defs_in (module_named Z.program home))) (defined_labels (defs_in (module_named Z.program home))) f ≡ label_found (function_named (locals_of (defs_in (Some p))) f) =
          subst (λ o. label_named (defined_names (defs_in (module_named Z.program home))) (defined_labels (defs_in (module_named Z.program home))) f ≡ label_found (function_named (locals_of (defs_in o)) f)) e once in
          record { label = d.label; arity = d.arity; is = sym (same_Some _ _ k); named = here ∙ ap label_found q }

      by : (o : Option m.Module) → module_named Z.program home ≡ o → top_of_module home o f ≡ Some c → IsTop home f c
      by None e k = absurd cc
      by (Some p) e k = at_name p e (function_named (locals_of p.defs) f) refl k

  -- an exported function may be entered with anything
  pub export_entered : {w : Value} {vs : Values} {o : Outcome} {tr : Trace} (home : Atom) (f : FunName) → is_exported Z.program home f ≡ true → top_function Z.program home f ≡ Some w → Enter Z.program Z.from E w vs o tr
      → IsKnown Z tr → AreCov Z vs → AllOk Z tr × CameOne o
  export_entered {w} {vs} {o} {tr} home f exp is x k cv =
      let t = is_top home f w is in
      let top : top_function Z.program home f ≡ Some (closure home t.label t.arity no_variable) = is ∙ ap Some t.is in
      let y = subst (λ z. Enter Z.program Z.from E z vs o tr) t.is x in
      let opens = (Z.settled home).exports f t.label t.arity exp top in
      let ps = replicate t.arity any in
      let arity = enter_arity y in
      let have = open_have Z.types vs t.arity (sym arity) in
      let b = (Z.settled home).bodies f t.label t.arity ps top opens in
      let r = entered_with outermost ps y k tt (outermost_seen Z.types home) cv (as_many_have vs ps have) b.0 (top_allowed home t.label t.arity no_variable vs (λ g q. (ps, (opens, have)))) in
      (r.0, only_one home t.label outermost ps o r.1)

  -- ---- calls and applications of values

  exported_is : (home : Atom) (f : FunName) → found Z.program home f ≡ exported → is_exported Z.program home f ≡ true
  exported_is home f h = by (same_atom home erlang) (module_named Z.program home) h
    where
      at : (b : Bool) → (if b then exported else hidden) ≡ exported → b ≡ true
      at true q = refl
      at false q = absurd cc

      by : (b : Bool) (o : Option m.Module) → (if b then built_in else found_in o f) ≡ exported → exports_in o f ≡ true
      by true o q = absurd cc
      by false None q = absurd cc
      by false (Some p) q = at (has_function p.exports f) q

  built_in_covered : (name : Atom) (vs : Values) (v : Value) → BifMay name vs v → (is_exact name (count vs) ≡ true) ⊎ Z.from v → AreCov Z vs → IsCov Z v
  built_in_covered name vs v may (inl e) cv = by_held Z.program Z.callee Z.states Z.dead_clause Z.dead_call v (λ c i. each_held_is Z.program Z.callee Z.states Z.dead_clause Z.dead_call vs c cv (Z.held name vs v c e may i))
  built_in_covered name vs v may (inr w) cv = Z.world v w

  pub called_covered : {home name : Atom} {vs : Values} {o : Outcome} {tr : Trace} → Called Z.program Z.from E home name vs o tr → IsKnown Z tr → AreCov Z vs → AllOk Z tr × CameOne o
  called_covered {home} {name} {vs} (call_built_in {v = v} e may w) k cv = (tt, (v, (refl, built_in_covered name vs v may w cv)))
  called_covered {home} {name} {vs} (call_enters e is x) k cv = export_entered home (record { name = name; arity = count vs }) (exported_is home (record { name = name; arity = count vs }) e) is x k cv
  called_covered (call_outside {v = v} e w) k cv = (tt, (v, (refl, Z.world v w)))
  called_covered call_raises k cv = (tt, tt)

  pub applied_covered : {w : Value} {vs : Values} {o : Outcome} {tr : Trace} → Apply Z.program Z.from E w vs o tr → IsKnown Z tr → IsCov Z w → AreCov Z vs → AllOk Z tr × CameOne o
  applied_covered (apply_closure x) k cw cv = value_entered x k cw cv
  applied_covered (apply_external a x) k cw cv = called_covered x k cv
  applied_covered (apply_foreign {v = v} a w) k cw cv = (tt, (v, (refl, Z.world v w)))
  applied_covered apply_raises k cw cv = (tt, tt)
