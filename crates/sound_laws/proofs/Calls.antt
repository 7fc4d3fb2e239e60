-- What calls and applications give satisfies what they add to the rows.
use Rattle.std.proofs.Common.{◌≡◌, ℕ, suc, Bool, true, false, if◌then◌else◌, List, [], ◌∷◌, length, Option, Some, None, refl, sym, ap, ◌∙◌, subst, eq-eqb}
use Rattle.std.proofs.lemmas.Option.{same_Some}
use Rattle.type_kinds.proofs.Truths.{second}
use Rattle.type_kinds.specs.declared.atom.Atom.{Atom}
use Rattle.type_lattice_model.specs.Values.{Value, closure, Values, no_value, and_value, Env, no_variable, and_variable, and_frame, Local, count}
use Rattle.type_lattice.specs.Kinds.{HasArity}
use Rattle.type_lattice.specs.Types.{HasType, HasTypes, none}
use Rattle.core_ast.specs.declared.syntax.FunName.{FunName}
use Rattle.core_ast.specs.Model as m
use Rattle.core_scope.specs.Asks.{erlang, function_name}
use Rattle.core_scope.specs.Names.{same_atom, has_function}
use Rattle.cons_tree.specs.Constraints.{only}
use Rattle.cons_tree.specs.Environments.{Assignment}
use Rattle.cons_tree.specs.declared.parts.Part.TheVariants.{Call}
use Rattle.cons_tree.specs.Satisfied.{values_of}
use Rattle.cons_tree.specs.declared.parts.Summary.{Summary}
use Rattle.cons_tree.specs.declared.parts.Callee.{Callee}
use Rattle.cons_tree.specs.declared.parts.Callee.TheVariants.{Known, Local as of_module, Undefined, Unknown}
use Rattle.bif_types.specs.declared.bif.Bif.{Bif}
use Rattle.bif_types.specs.Results.{BifMay}
use Rattle.bif_types.specs.Table.{looked_up}
use Rattle.core_meaning.specs.Programs.{Program, module_named, function_named, closure_of, locals_of, top_of_module, top_function, exported, hidden, built_in, outside, Found, found_in}
use Rattle.core_meaning.specs.Environments.{or_outer, local_function, function_of}
use Rattle.core_meaning.proofs.FunctionLaws.{named_arity}
use Rattle.core_meaning.specs.Meaning.{Outcome, gives, gave, Trace, Enter, enter_gives, Called, call_built_in, call_enters, call_outside, Apply, apply_closure, apply_external, apply_foreign}
use Rattle.cons_gen_rows.specs.Words.{bound}
use Rattle.cons_gen_rows.specs.Passes.{Knowledge, signature, by_summary, by_names, by_name, built_in_rows, with_result, called_rows, applied_rows}
use Rattle.sound_laws.specs.Facts.{Facts}
use Rattle.sound_laws.specs.Knowledge.{Allows, IsHonest, summary_of, Within, BearsOut, AllBearOut}
use Rattle.sound_laws.specs.Satisfied.{SatRows}
use Rattle.sound_laws.proofs.Parts.{back_bears}

-- ---- the arity of a function that is found by its name

closure_arity : (home : Atom) (env : Env) (ds : List Local) (f : FunName) (c : Value) → closure_of home env (function_named ds f) ≡ Some c → HasArity c f.arity
closure_arity home env ds f c h = by (function_named ds f) refl h
  where
    by : (o : Option Local) → function_named ds f ≡ o → closure_of home env o ≡ Some c → HasArity c f.arity
    by None e q = absurd cc
    by (Some d) e q = subst (λ z. HasArity z f.arity) (same_Some _ _ q) (named_arity ds f d e)

-- what is found first, or else further out
outer_cases : (o p : Option Value) (c : Value) (G : Value → Type 0) → or_outer o p ≡ Some c → (o ≡ Some c → G c) → (p ≡ Some c → G c) → G c
outer_cases None p c G h first second = second h
outer_cases (Some v) p c G h first second = first h

local_arity : (home : Atom) (env : Env) (f : FunName) (c : Value) → local_function home env f ≡ Some c → HasArity c f.arity
local_arity home no_variable f c h = absurd cc
local_arity home (and_variable x v env) f c h = local_arity home env f c h
local_arity home (and_frame ds env) f c h =
    outer_cases (closure_of home (and_frame ds env) (function_named ds f)) (local_function home env f) c (λ z. HasArity z f.arity) h (closure_arity home (and_frame ds env) ds f c) (local_arity home env f c)

module_arity : (home : Atom) (o : Option m.Module) (f : FunName) (c : Value) → top_of_module home o f ≡ Some c → HasArity c f.arity
module_arity home None f c h = absurd cc
module_arity home (Some p) f c h = closure_arity home no_variable (locals_of p.defs) f c h

pub function_arity : (U : Program) (home : Atom) (env : Env) (f : FunName) (c : Value) → function_of U home env f ≡ Some c → HasArity c f.arity
function_arity U home env f c h =
    outer_cases (local_function home env f) (top_function U home f) c (λ z. HasArity z f.arity) h (local_arity home env f c) (module_arity home (module_named U home) f c)

module _ (F : Facts) (P : Knowledge) (U : Program) (W : Value → Type 0) (honest : IsHonest P U) (E : Atom → Env → m.Tree → Outcome → Trace → Type 0) where
  -- ---- one value

  enters_one : {c : Value} {vs ws : Values} {tr : Trace} → Enter U W E c vs (gives ws) tr → (v : Value) × (ws ≡ and_value v no_value)
  enters_one (enter_gives {v = v} a e n x) = (v, refl)

  pub called_one : {x name : Atom} {vs ws : Values} {tr : Trace} → Called U W E x name vs (gives ws) tr → (v : Value) × (ws ≡ and_value v no_value)
  called_one (call_built_in {v = v} e may w) = (v, refl)
  called_one (call_enters e k x) = enters_one x
  called_one (call_outside {v = v} e w) = (v, refl)

  pub applied_one : {c : Value} {vs ws : Values} {tr : Trace} → Apply U W E c vs (gives ws) tr → (v : Value) × (ws ≡ and_value v no_value)
  applied_one (apply_closure x) = enters_one x
  applied_one (apply_external a x) = called_one x
  applied_one (apply_foreign {v = v} a w) = (v, refl)

  pub entered_one : {c : Value} {vs ws : Values} {tr : Trace} → Enter U W E c vs (gives ws) tr → (v : Value) × (ws ≡ and_value v no_value)
  entered_one x = enters_one x

  -- ---- what is applied is a function of as many arguments

  enters_function : {c : Value} {vs ws : Values} {tr : Trace} → Enter U W E c vs (gives ws) tr → HasArity c (count vs)
  enters_function (enter_gives a e n x) = a

  pub applied_function : {c : Value} {vs ws : Values} {tr : Trace} → Apply U W E c vs (gives ws) tr → HasArity c (count vs)
  applied_function (apply_closure x) = enters_function x
  applied_function (apply_external a x) = a
  applied_function (apply_foreign a w) = a

  -- ---- what a function gave

  gave_bears : {c : Value} {vs : Values} {v : Value} {tr : Trace} → Enter U W E c vs (gives (and_value v no_value)) tr → AllBearOut P U tr → BearsOut P U (gave c vs v)
  gave_bears (enter_gives {home = home} {label = label} {arity = arity} {env = env} {vs = vs} {v = v} {tr = tr} a e n x) g = (back_bears P U tr (gave (closure home label arity env) vs v ∷ []) g.1).0

  -- a function that its module defines under a name gave what lies within its summary
  pub within : {c : Value} {vs : Values} {v : Value} {tr : Trace} (home : Atom) (f : FunName) → top_function U home f ≡ Some c → Enter U W E c vs (gives (and_value v no_value)) tr → AllBearOut P U tr
      → (s : Summary) → P.own home f ≡ false → summary_of (P.callee home f) ≡ Some s → Within (signature P s) vs v
  within home f top x g s own known = gave_bears x g home f s top own known

  -- ---- rows of calls

  by_summary_holds : (home : Atom) (f : FunName) (summary : Summary) (s : ℕ) (ss : List ℕ) (b : Assignment) (vs : Values) (v : Value) → (P.own home f ≡ false → Within (signature P summary) vs v)
      → values_of b ss ≡ vs → b s ≡ v → SatRows (by_summary P home f summary s ss) b
  by_summary_holds home f summary s ss b vs v h e i = by (P.own home f) h
    where
      by : (c : Bool) → (c ≡ false → Within (signature P summary) vs v) → SatRows (if c then [] else (only (Call s ss (signature P summary)) ∷ [])) b
      by true k = tt
      by false k = ((subst (λ z. HasTypes z (signature P summary).args) (sym e) (k refl).0, subst (λ z. HasType z (signature P summary).result) (sym i) (k refl).1), tt)

  by_name_holds : (home : Atom) (f : FunName) (c : Callee) (s : ℕ) (ss : List ℕ) (b : Assignment) (vs : Values) (v : Value)
      → ((summary : Summary) → P.own home f ≡ false → summary_of c ≡ Some summary → Within (signature P summary) vs v) → values_of b ss ≡ vs → b s ≡ v → SatRows (by_name P home f c s ss) b
  by_name_holds home f (Known summary) s ss b vs v h e i = by_summary_holds home f summary s ss b vs v (λ own. h summary own refl) e i
  by_name_holds home f (of_module summary) s ss b vs v h e i = by_summary_holds home f summary s ss b vs v (λ own. h summary own refl) e i
  by_name_holds home f Undefined s ss b vs v h e i = tt
  by_name_holds home f Unknown s ss b vs v h e i = tt

  by_names_holds : (home : Atom) (f : FunName) (c : Callee) (s : ℕ) (ss : List ℕ) (b : Assignment) (vs : Values) (v : Value) → Allows exported c
      → ((summary : Summary) → P.own home f ≡ false → summary_of c ≡ Some summary → Within (signature P summary) vs v) → values_of b ss ≡ vs → b s ≡ v → SatRows (by_names P home f c s ss) b
  by_names_holds home f (Known summary) s ss b vs v allowed h e i = by_summary_holds home f summary s ss b vs v (λ own. h summary own refl) e i
  by_names_holds home f (of_module summary) s ss b vs v allowed h e i = absurd allowed
  by_names_holds home f Undefined s ss b vs v allowed h e i = absurd allowed
  by_names_holds home f Unknown s ss b vs v allowed h e i = tt

  outside_adds_nothing : (home : Atom) (f : FunName) (c : Callee) (s : ℕ) (ss : List ℕ) (b : Assignment) → Allows outside c → SatRows (by_names P home f c s ss) b
  outside_adds_nothing home f (Known summary) s ss b allowed = absurd allowed
  outside_adds_nothing home f (of_module summary) s ss b allowed = absurd allowed
  outside_adds_nothing home f Undefined s ss b allowed = absurd allowed
  outside_adds_nothing home f Unknown s ss b allowed = tt

  pub values_count : (b : Assignment) (ss : List ℕ) → count (values_of b ss) ≡ length ss
  values_count b [] = refl
  values_count b (s ∷ ss) = ap suc (values_count b ss)

  built_in_holds : (name : Atom) (o : Option Bif) (s : ℕ) (ss : List ℕ) (b : Assignment) (vs : Values) (v : Value) → looked_up name (count vs) ≡ o → BifMay name vs v → values_of b ss ≡ vs → b s ≡ v
      → SatRows (built_in_rows P o (s ∷ []) ss) b
  built_in_holds name None s ss b vs v known may e i = tt
  built_in_holds name (Some bif) s ss b vs v known may e i =
      let many : length ss ≡ count vs = sym (values_count b ss) ∙ ap count e in
      let given : BifMay name (values_of b ss) (b s) = subst (λ z. BifMay name z (b s)) (sym e) (subst (λ z. BifMay name vs z) (sym i) may) in
      (F.built_in name bif s ss P.lenient b (ap (looked_up name) many ∙ known) given, tt)

  -- the module of the built-in functions, and any other
  pub is_erlang : (o : Option m.Module) (f : FunName) (c : Bool) → (if c then built_in else found_in o f) ≡ built_in → c ≡ true
  is_erlang o f true h = refl
  is_erlang None f false h = absurd cc
  is_erlang (Some p) f false h = absurd (by (has_function p.exports f) h)
    where
      by : (c : Bool) → (if c then exported else hidden) ≡ built_in → ⊥
      by true e = cc
      by false e = cc

  pub not_erlang : (x : Found) (c : Bool) → (built_in ≡ x → ⊥) → (y : Found) → (if c then built_in else y) ≡ x → c ≡ false
  not_erlang x true other y h = absurd (other h)
  not_erlang x false other y h = refl

  pub called_holds : {home name : Atom} {vs : Values} {v : Value} {tr : Trace} (s : ℕ) (ss : List ℕ) (b : Assignment) → Called U W E home name vs (gives (and_value v no_value)) tr → AllBearOut P U tr
      → values_of b ss ≡ vs → b s ≡ v → SatRows (called_rows P home name (count vs) (s ∷ []) ss) b
  called_holds {home} {name} {vs} {v} s ss b (call_built_in found_is may w) g e i =
      let f = function_name name (count vs) in
      subst
      (λ c. SatRows (if c then built_in_rows P (looked_up name (count vs)) (s ∷ []) ss else with_result (s ∷ []) (λ r. by_names P home f (P.callee home f) r ss)) b)
      (sym (is_erlang (module_named U home) f (same_atom home erlang) found_is))
      (built_in_holds name (looked_up name (count vs)) s ss b vs v refl may e i)
  called_holds {home} {name} {vs} {v} s ss b (call_enters found_is top x) g e i =
      let f = function_name name (count vs) in
      subst
      (λ c. SatRows (if c then built_in_rows P (looked_up name (count vs)) (s ∷ []) ss else with_result (s ∷ []) (λ r. by_names P home f (P.callee home f) r ss)) b)
      (sym (not_erlang exported (same_atom home erlang) (λ q. cc) (found_in (module_named U home) f) found_is))
      (by_names_holds home f (P.callee home f) s ss b vs v (subst (λ z. Allows z (P.callee home f)) found_is (honest home f)) (within home f top x g) e i)
  called_holds {home} {name} {vs} {v} s ss b (call_outside found_is w) g e i =
      let f = function_name name (count vs) in
      subst
      (λ c. SatRows (if c then built_in_rows P (looked_up name (count vs)) (s ∷ []) ss else with_result (s ∷ []) (λ r. by_names P home f (P.callee home f) r ss)) b)
      (sym (not_erlang outside (same_atom home erlang) (λ q. cc) (found_in (module_named U home) f) found_is))
      (outside_adds_nothing home f (P.callee home f) s ss b (subst (λ z. Allows z (P.callee home f)) found_is (honest home f)))

  -- the application of a name, by the functions of `letrec`s around
  pub applied_holds : {c : Value} {vs : Values} {v : Value} {tr : Trace} (home : Atom) (env : Env) (locals : List FunName) (f : FunName) (n s : ℕ) (ss : List ℕ) (b : Assignment)
      → (has_function locals f ≡ false → local_function home env f ≡ None) → f.arity ≡ n → function_of U home env f ≡ Some c → Enter U W E c vs (gives (and_value v no_value)) tr → AllBearOut P U tr
      → values_of b ss ≡ vs → b s ≡ v → SatRows (applied_rows P home locals f n s ss) b
  applied_holds {c} {vs} {v} home env locals f n s ss b inner arity is x g e i =
      subst
      (λ q. SatRows (if q then (if has_function locals f then [] else by_name P home f (P.callee home f) s ss) else bound s none) b)
      (sym (eq-eqb f.arity n arity))
      (by (has_function locals f) inner)
    where
      top : local_function home env f ≡ None → top_function U home f ≡ Some c
      top h = subst (λ o. or_outer o (top_function U home f) ≡ Some c) h is

      by : (q : Bool) → (q ≡ false → local_function home env f ≡ None) → SatRows (if q then [] else by_name P home f (P.callee home f) s ss) b
      by true h = tt
      by false h = by_name_holds home f (P.callee home f) s ss b vs v (within home f (top (h refl)) x g) e i
