-- Functions that are called by their names, and values that are applied.
use Rattle.std.proofs.Common.{◌≡◌, ◌⊎◌, ℕ, ◌&&◌, ◌||◌, Bool, true, false, if◌then◌else◌, List, [], Option, Some, None, eq-eqb, inl, inr, refl, sym, ap, ◌∙◌, subst}
use Rattle.std.specs.Prelude.{codes}
use Rattle.type_kinds.specs.declared.atom.Atom.{Atom}
use Rattle.core_ast.specs.Model as m
use Rattle.core_ast.specs.declared.syntax.FunName.{FunName}
use Rattle.core_scope.specs.Asks.{erlang, function_name}
use Rattle.core_scope.specs.Names.{same_atom, same_function, has_function}
use Rattle.core_scope.proofs.NameLaws.{function_is}
use Rattle.type_lattice_model.specs.Values.{Value, closure, external, foreign, Values, Env, Local, count}
use Rattle.bif_types.specs.Results.{BifMay, is_exact, one_value}
use Rattle.core_meaning.specs.Meaning.{Outcome, gives, Trace, Enter, enter_gives, enter_fails, Called, call_built_in, call_enters, call_outside, call_raises, Apply, apply_closure, apply_external, apply_foreign, apply_raises}
use Rattle.core_meaning.specs.Programs.{Program, module_named, built_in, exported, hidden, found, found_in, exports_in, is_exported, top_function}
use Rattle.core_meaning_values.proofs.Coverage.{by_held, each_held_is}
use Rattle.fun_flow_sets.specs.Items.{Item, anything, closure_at, external_function, Place, anywhere, part, returned, applies, defined_at, result_of, called_result, entered, is_foreign, is_unknown}
use Rattle.fun_flow_sets.specs.Rules.{all_into, found_place, found_rules, given_by, handing_on, opens_definition}
use Rattle.fun_flow_sets.specs.Sets.{may_enter, may_give}
use Rattle.sound_laws_fun_flow.specs.steps.Inside.{MayHave, LieInEach, AreRules, OfClosure, OfFrame}
use Rattle.sound_laws_fun_flow.specs.steps.Setting.{Setting, AllOk, In, Cov, Covs, Came, Invariant}
use Rattle.sound_laws_fun_flow.proofs.Entering.{came_more, value_entered, found_entered, found_arity}
use Rattle.sound_laws_fun_flow.proofs.Finding.{top_found}
use Rattle.sound_laws_fun_flow.proofs.Lying.{in_any, in_world, have_more, all_in, open_arguments}

-- `hd`, `tl` and `element` give exactly what Erlang's do
one_exact : (f g : FunName) → same_function f g ≡ true → is_exact g.name g.arity ≡ true → is_exact f.name f.arity ≡ true
one_exact f g e h = subst (λ z. is_exact z.name z.arity ≡ true) (sym (function_is f g e)) h

handing_exact : (f : FunName) → has_function handing_on f ≡ true → is_exact f.name f.arity ≡ true
handing_exact f e = first (same_function f (function_name (codes "hd") 1)) refl (same_function f (function_name (codes "tl") 1)) refl (same_function f (function_name (codes "element") 2)) refl e
  where
    first : (a : Bool) → same_function f (function_name (codes "hd") 1) ≡ a → (b : Bool) → same_function f (function_name (codes "tl") 1) ≡ b → (c : Bool) → same_function f (function_name (codes "element") 2) ≡ c
        → (a || (b || (c || false))) ≡ true → is_exact f.name f.arity ≡ true
    first true p b q c r h = one_exact f (function_name (codes "hd") 1) p refl
    first false p true q c r h = one_exact f (function_name (codes "tl") 1) q refl
    first false p false q true r h = one_exact f (function_name (codes "element") 2) r refl
    first false p false q false r h = absurd cc

-- what is found to be exported is
exported_is : (U : Program) (home : Atom) (f : FunName) → found U home f ≡ exported → is_exported U home f ≡ true
exported_is U home f e = of_name (same_atom home erlang) e
  where
    listed : (b : Bool) → (if b then exported else hidden) ≡ exported → b ≡ true
    listed true q = refl
    listed false q = absurd cc

    of_module : (o : Option m.Module) → found_in o f ≡ exported → exports_in o f ≡ true
    of_module None q = absurd cc
    of_module (Some p) q = listed (has_function p.exports f) q

    of_name : (b : Bool) → (if b then built_in else found_in (module_named U home) f) ≡ exported → is_exported U home f ≡ true
    of_name true q = absurd cc
    of_name false q = of_module (module_named U home) q

module _ (Z : Setting) (E : Atom → Env → m.Tree → Outcome → Trace → Type 0) (each : Invariant Z E) where
  -- what a built-in function gives is covered
  built_in_covered : (name : Atom) (vs : Values) (v : Value) → BifMay name vs v → (is_exact name (count vs) ≡ true) ⊎ Z.from v → Covs Z vs → Cov Z v
  built_in_covered name vs v may (inl e) cv = by_held (OfClosure Z.program Z.rule) (OfFrame Z.program Z.rule) v (λ c i. each_held_is (OfClosure Z.program Z.rule) (OfFrame Z.program Z.rule) vs c cv (Z.hand_on.closures name vs v c e may i))
  built_in_covered name vs v may (inr w) cv = Z.world v w

  -- an exported function is entered
  exported_entered : (home name : Atom) (vs : Values) (c : Value) (o : Outcome) (tr : Trace) → found Z.program home (function_name name (count vs)) ≡ exported → top_function Z.program home (function_name name (count vs)) ≡ Some c
      → Enter Z.program Z.from E c vs o tr → Covs Z vs → AllOk Z tr × ((d : Local) × ((defined_at Z.program home (function_name name (count vs)) ≡ Some d) × Came Z (returned home d.label) o))
  exported_entered home name vs c o tr at top x cv =
      let f = function_name name (count vs) in
      let t = top_found Z.program Z.rule Z.has home f c top in
      let opening = subst (λ z. AreRules Z.program Z.rule (opens_definition home z)) t.1.0 (Z.has.exports home f (exported_is Z.program home f at)) in
      let i = found_entered Z E each t.1.1 x cv (open_arguments Z.program Z.rule home t.0.label 0 t.0.arity vs (found_arity Z E each t.1.1 x) opening) in
      (i.0, (t.0, (t.1.0, i.1)))

  -- a call by names that are found
  pub called_by_name : {x name : Atom} {vs : Values} {o : Outcome} {tr : Trace} (home : Atom) (label : ℕ) (ps : List Place) → Called Z.program Z.from E x name vs o tr → Covs Z vs → LieInEach Z.program Z.rule ps vs
      → AreRules Z.program Z.rule (found_rules home label (found Z.program x (function_name name (count vs))) (function_name name (count vs)) ps)
      → AllOk Z tr × Came Z (found_place Z.program home label (found Z.program x (function_name name (count vs))) x (function_name name (count vs))) o
  called_by_name home label ps (call_built_in {home = x} {name = name} {vs = vs} {v = v} at may w) cv h a =
      let f = function_name name (count vs) in (
        tt,
        (
          v,
          (
            refl,
            (
              subst (λ z. In Z (found_place Z.program home label z x f) v) (sym at) (by (has_function handing_on f) refl (subst (λ z. AreRules Z.program Z.rule (found_rules home label z f ps)) at a)),
              built_in_covered name vs v may w cv,
            ),
          ),
        ),
      )
    where
      by : (b : Bool) → has_function handing_on (function_name name (count vs)) ≡ b → AreRules Z.program Z.rule (if b then all_into ps (part home label 0) else []) → In Z (if b then part home label 0 else anywhere) v
      by true e rs = λ c i. all_in Z.program Z.rule ps (part home label 0) vs h rs c (Z.hand_on.functions name vs v c (handing_exact (function_name name (count vs)) e) may i)
      by false e rs = in_world Z.program Z.rule v
  called_by_name home label ps (call_enters {home = x} {name = name} {vs = vs} {c = c} {o = o} {tr = tr} at top y) cv h a =
      let f = function_name name (count vs) in
      let i = exported_entered x name vs c o tr at top y cv in
      (i.0, subst (λ z. Came Z (found_place Z.program home label z x f) o) (sym at) (subst (λ z. Came Z (given_by x z) o) (sym i.1.1.0) i.1.1.1))
  called_by_name home label ps (call_outside {home = x} {name = name} {vs = vs} {v = v} at w) cv h a =
      (tt, (v, (refl, (subst (λ z. In Z (found_place Z.program home label z x (function_name name (count vs))) v) (sym at) (in_world Z.program Z.rule v), Z.world v w))))
  called_by_name home label ps call_raises cv h a = (tt, tt)

  -- a call by names that are computed: of its value nothing is said
  pub called_anywhere : {x name : Atom} {vs : Values} {o : Outcome} {tr : Trace} → Called Z.program Z.from E x name vs o tr → Covs Z vs → AllOk Z tr × Came Z anywhere o
  called_anywhere (call_built_in {name = name} {vs = vs} {v = v} at may w) cv = (tt, (v, (refl, (in_world Z.program Z.rule v, built_in_covered name vs v may w cv))))
  called_anywhere (call_enters {home = x} {name = name} {vs = vs} {c = c} {o = o} {tr = tr} at top y) cv =
      let i = exported_entered x name vs c o tr at top y cv in
      (i.0, came_more Z (returned x i.1.0.label) anywhere o (λ v k. in_world Z.program Z.rule v) i.1.1.1)
  called_anywhere (call_outside {v = v} at w) cv = (tt, (v, (refl, (in_world Z.program Z.rule v, Z.world v w))))
  called_anywhere call_raises cv = (tt, tt)

  -- ---- values that are applied

  -- what the function of an item gives is what the application gives
  from_entered : (p q : Place) (n : ℕ) (home : Atom) (label : ℕ) (x : Item) → Z.rule (applies p n home label) → entered Z.program n x ≡ Some q → MayHave Z.program Z.rule p x → (v : Value) → In Z q v
      → In Z (part home label 0) v
  from_entered p q n home label x r e (inl a) v h = in_any Z.program Z.rule (part home label 0) v (may_give r a refl)
  from_entered p q n home label x r e (inr i) v h = λ c j. have_more Z.program Z.rule q (part home label 0) _ (λ y k. may_enter r i e k) (h c j)

  from_unknown : (p : Place) (n : ℕ) (home : Atom) (label : ℕ) (x : Item) → Z.rule (applies p n home label) → is_unknown Z.program n x ≡ true → MayHave Z.program Z.rule p x → (v : Value) → In Z (part home label 0) v
  from_unknown p n home label x r e (inl a) v = in_any Z.program Z.rule (part home label 0) v (may_give r a refl)
  from_unknown p n home label x r e (inr i) v = in_any Z.program Z.rule (part home label 0) v (may_give r i e)

  closure_enters : (home : Atom) (label arity n : ℕ) → arity ≡ n → entered Z.program n (closure_at home label arity) ≡ Some (returned home label)
  closure_enters home label arity n e = ap (λ b. if b then Some (returned home label) else None) (eq-eqb arity n e)

  external_enters : (home name : Atom) (arity n : ℕ) (d : Local) → arity ≡ n → found Z.program home (function_name name n) ≡ exported → defined_at Z.program home (function_name name n) ≡ Some d
      → entered Z.program n (external_function home name arity) ≡ Some (returned home d.label)
  external_enters home name arity n d e at is =
      let f = function_name name arity in
      let there : called_result (found Z.program home f) home (defined_at Z.program home f) ≡ Some (returned home d.label) =
      subst (λ z. called_result (found Z.program home (function_name name z)) home (defined_at Z.program home (function_name name z)) ≡ Some (returned home d.label)) (sym e)
      (ap (λ z. called_result z home (defined_at Z.program home (function_name name n))) at ∙ ap (λ z. result_of home z) is) in
      ap (λ b. if b then called_result (found Z.program home f) home (defined_at Z.program home f) else None) (eq-eqb arity n e) ∙ there

  external_unknown : (home name : Atom) (arity n : ℕ) → arity ≡ n → is_foreign (found Z.program home (function_name name n)) ≡ true → is_unknown Z.program n (external_function home name arity) ≡ true
  external_unknown home name arity n e h =
      let there : is_foreign (found Z.program home (function_name name arity)) ≡ true = subst (λ z. is_foreign (found Z.program home (function_name name z)) ≡ true) (sym e) h in
      ap (λ b. b && is_foreign (found Z.program home (function_name name arity))) (eq-eqb arity n e) ∙ there

  pub value_applied : {c : Value} {vs : Values} {o : Outcome} {tr : Trace} (p : Place) (home : Atom) (label : ℕ) → Apply Z.program Z.from E c vs o tr → Z.rule (applies p (count vs) home label) → In Z p c → Cov Z c → Covs Z vs
      → AllOk Z tr × Came Z (part home label 0) o
  value_applied {o = o} p home label (apply_closure (enter_gives {home = x} {label = l} {arity = arity} {env = env} {vs = vs} {v = v} n at many y)) r h cw cv =
      let i = value_entered Z E each (enter_gives n at many y) cw cv in
      (i.0, came_more Z (returned x l) (part home label 0) (gives (one_value v)) (from_entered p (returned x l) (count vs) home label (closure_at x l arity) r (closure_enters x l arity (count vs) n) (h (closure x l arity env) refl)) i.1)
  value_applied p home label (apply_closure (enter_fails n at many y)) r h cw cv = ((value_entered Z E each (enter_fails n at many y) cw cv).0, tt)
  value_applied p home label (apply_external {home = x} {name = name} {arity = arity} {vs = vs} {o = o} {tr = tr} n y) r h cw cv = by y
    where
      listed : MayHave Z.program Z.rule p (external_function x name arity)
      listed = h (external x name arity) refl

      by : {o : Outcome} {tr : Trace} → Called Z.program Z.from E x name vs o tr → AllOk Z tr × Came Z (part home label 0) o
      by (call_built_in {v = v} at may w) = (
        tt,
        (
          v,
          (
            refl,
            (
              from_unknown p (count vs) home label (external_function x name arity) r (external_unknown x name arity (count vs) n (ap is_foreign at)) listed v,
              built_in_covered name vs v may w cv,
            ),
          ),
        ),
      )
      by (call_enters {c = c} {o = o} {tr = tr} at top z) =
          let i = exported_entered x name vs c o tr at top z cv in (
            i.0,
            came_more Z (returned x i.1.0.label) (part home label 0) o (from_entered p (returned x i.1.0.label) (count vs) home label (external_function x name arity) r
                (external_enters x name arity (count vs) i.1.0 n at i.1.1.0) listed) i.1.1.1,
          )
      by (call_outside {v = v} at w) = (tt, (v, (refl, (from_unknown p (count vs) home label (external_function x name arity) r (external_unknown x name arity (count vs) n (ap is_foreign at)) listed v, Z.world v w))))
      by call_raises = (tt, tt)
  value_applied p home label (apply_foreign {x = x} {arity = arity} {vs = vs} {v = v} n w) r h cw cv =
      (tt, (v, (refl, (from_unknown p (count vs) home label anything r refl (h (foreign x arity) refl) v, Z.world v w))))
  value_applied p home label apply_raises r h cw cv = (tt, tt)
