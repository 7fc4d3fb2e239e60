-- What is covered by the states of all modules: values, and functions of `letrec`s that are found.
use Rattle.std.proofs.Common.{◌≡◌, ℕ, ◌&&◌, Bool, true, false, if◌then◌else◌, List, Option, Some, None, nat_eq, refl, sym, ap, ◌∙◌, subst}
use Rattle.std.proofs.lemmas.Option.{same_Some}
use Rattle.type_kinds.specs.declared.atom.Atom.{Atom}
use Rattle.core_ast.specs.Model as m
use Rattle.core_ast.specs.declared.syntax.VarName.{VarName}
use Rattle.core_ast.specs.declared.syntax.FunName.{FunName}
use Rattle.core_scope.specs.declared.ask.Ask.TheVariants.{Exactly}
use Rattle.core_scope.specs.Functions.{labelled_function}
use Rattle.core_scope.specs.Names.{same_atom}
use Rattle.type_lattice_model.specs.Values.{Value, map, closure, Values, ValuePairs, Env, no_variable, and_variable, and_frame, Local}
use Rattle.type_lattice.specs.Types.{Type4, Below}
use Rattle.bif_types.specs.Closures.{HoldsClosure, HoldClosure}
use Rattle.cons_tree.specs.declared.parts.Callee.{Callee}
use Rattle.core_meaning.specs.Environments as run
use Rattle.core_meaning.specs.Environments.{value_of, local_function}
use Rattle.core_meaning.specs.Matching.{MatchEach}
use Rattle.core_meaning.specs.Meaning.{IsMadeOf, list_value, AreOutside}
use Rattle.core_meaning_values.proofs.Coverage as values
use Rattle.core_meaning.specs.Programs.{Program, function_at, AreAtLabels, function_named, closure_of, locals_of}
use Rattle.module_flow_state.specs.Scopes.{WalkScope, with_functions, with_variables}
use Rattle.module_flow_state.specs.States.{FlowState, parameters_of, result_of}
use Rattle.module_flow_calls.specs.TypeLists.{first}
use Rattle.module_flow_walk.specs.Walk.{walk}
use Rattle.cons_tree.specs.Facts.{TypeFacts}
use Rattle.sound_laws_flow.specs.steps.Covered.{world_of, IsBorneOut, HasResult, OfClosure, OfFrame, Covered, AreCovered, CoveredEnv}
use Rattle.sound_laws_flow.specs.steps.Fine.{Fine, FineFunctions}
use Rattle.sound_laws_flow.specs.steps.Seen.{IsSeen}
use Rattle.sound_laws_flow.proofs.WalkScopes.{seen_framed}

module _ (U : Program) (callee : Atom → FunName → Callee) (states : Atom → FlowState) (DeadClause DeadCall : Atom → ℕ → Type 0) where
  abbrev pub Cov : Value → Type 0
  Cov v = Covered U callee states DeadClause DeadCall v

  abbrev pub Covs : Values → Type 0
  Covs vs = AreCovered U callee states DeadClause DeadCall vs

  abbrev pub CovEnv : Atom → Env → Type 0
  CovEnv home env = CoveredEnv U callee states DeadClause DeadCall home env

  abbrev Closures : Atom → (label arity : ℕ) → Env → Type 0
  Closures home l n env = OfClosure U callee states DeadClause DeadCall home l n env

  abbrev Frames : Atom → List Local → Env → Type 0
  Frames home ls env = OfFrame U callee states DeadClause DeadCall home ls env

  -- ---- what is covered, by the lemmas on values

  pub each_held_is : (vs : Values) (c : Value) → Covs vs → HoldClosure c vs → Cov c
  each_held_is vs c h i = values.each_held_is Closures Frames vs c h i

  pub by_held : (v : Value) → ((c : Value) → HoldsClosure c v → Cov c) → Cov v
  by_held v h = values.by_held Closures Frames v h

  pub made_covered : (vs : Values) (old qs : ValuePairs) → Covs vs → Cov (map old) → IsMadeOf vs old qs → Cov (map qs)
  made_covered vs old qs h k i = values.made_covered Closures Frames vs old qs h k i

  pub list_covered : (vs : Values) → Covs vs → Cov (list_value vs)
  list_covered vs h = values.list_covered Closures Frames vs h

  pub bound_covered : (home : Atom) (xs : List VarName) (vs : Values) (env : Env) → Covs vs → CovEnv home env → CovEnv home (run.with_variables xs vs env)
  bound_covered home xs vs env c h = values.bound_covered Closures Frames home xs vs env c h

  pub value_covered : (home : Atom) (env : Env) (x : Atom) (w : Value) → CovEnv home env → value_of env x ≡ Some w → Cov w
  value_covered home env x w h e = values.value_covered Closures Frames home env x w h e

  module _ (W : Value → Type 0) (world : (v : Value) → W v → Cov v) (home : Atom) where
    pub matches_covered : {ps : m.Patterns} {vs : Values} {env to : Env} → MatchEach W ps vs env to → Covs vs → CovEnv home env → CovEnv home to
    matches_covered ms c h = values.matches_covered Closures Frames W world home ms c h

    pub outside_covered : (vs : Values) → AreOutside W vs → Covs vs
    outside_covered vs h = values.outside_covered Closures Frames W world home vs h

  -- ---- functions of `letrec`s

  abbrev Borne : Atom → ℕ → WalkScope → List Type4 → Type 0
  Borne home l sc ps = IsBorneOut U callee states DeadClause DeadCall home l sc ps

  abbrev Results : Atom → ℕ → WalkScope → List Type4 → Type 0
  Results home l sc ps = HasResult U callee states DeadClause DeadCall home l sc ps

  -- a function that is found in a frame: its closure, what it captured, and what is seen there
  pub record IsOfFrame (home : Atom) (c : Value) : Type 0 where
    pub label : ℕ
    pub arity : ℕ
    pub around : Env
    pub is : c ≡ closure home label arity around
    pub covered : CovEnv home around
    pub walk_scope : WalkScope
    pub seen : IsSeen home walk_scope around
    pub framed : around ≡ no_variable → ⊥
    pub fine : (ps : List Type4) → parameters_of (states home) label ≡ Some ps → Borne home label walk_scope ps × Results home label walk_scope ps

  pub of_functions : (home : Atom) (sc : WalkScope) (ds : m.Defs) (f : FunName) (d : Local) (ps : List Type4) → FineFunctions (world_of U callee states home) (DeadClause home) (DeadCall home) sc ds → AreAtLabels U home ds
      → function_named (locals_of ds) f ≡ Some d → parameters_of (states home) d.label ≡ Some ps → Borne home d.label sc ps × Results home d.label sc ps
  of_functions home sc m.no_def f d ps fine at e p = absurd cc
  of_functions home sc (m.and_def g k xs t ds) f d ps fine at e p = by (same_atom g.name f.name && nat_eq g.arity f.arity) (λ q. of_functions home sc ds f d ps fine.1 at.1 q p) e
    where
      here : k.label ≡ d.label → Borne home d.label sc ps × Results home d.label sc ps
      here label =
          let there = fine.0 ps (subst (λ l. parameters_of (states home) l ≡ Some ps) (sym label) p) in (
            λ c q.
                let same : labelled_function k (Some g) xs t ≡ c = same_Some _ _ (sym at.0 ∙ ap (function_at U home) label ∙ q) in
                subst (λ z. Fine (world_of U callee states home) (DeadClause home) (DeadCall home) (with_variables sc z.parameters ps) (Exactly 1) z.body) same there.0,
            λ c ts q w.
                let same : labelled_function k (Some g) xs t ≡ c = same_Some _ _ (sym at.0 ∙ ap (function_at U home) label ∙ q) in
                let given = there.1 ts (subst (λ z. walk (world_of U callee states home) (with_variables sc z.parameters ps) (Exactly 1) z.body ≡ Some ts) (sym same) w) in
                subst (λ l. Below (first ts) (result_of (states home) l)) label given,
          )

      by : (b : Bool) → (function_named (locals_of ds) f ≡ Some d → Borne home d.label sc ps × Results home d.label sc ps)
          → (if b then Some (record { name = g.name; arity = g.arity; label = k.label }) else function_named (locals_of ds) f) ≡ Some d → Borne home d.label sc ps × Results home d.label sc ps
      by true more q = here (ap (λ z. z.label) (same_Some _ _ q))
      by false more q = more q

  module _ (T : TypeFacts) where
    pub of_frame : (home : Atom) (env : Env) (f : FunName) (c : Value) → CovEnv home env → local_function home env f ≡ Some c → IsOfFrame home c
    of_frame home no_variable f c h e = absurd cc
    of_frame home (and_variable x v env) f c h e = of_frame home env f c h.1 e
    of_frame home (and_frame ls env) f c h e = by (function_named ls f) refl (of_frame home env f c h.0) e
      where
        by : (o : Option Local) → function_named ls f ≡ o → (local_function home env f ≡ Some c → IsOfFrame home c) → run.or_outer (closure_of home (and_frame ls env) o) (local_function home env f) ≡ Some c
            → IsOfFrame home c
        by None q more i = more i
        by (Some d) q more i =
            let ds = h.1.0 in
            let frame = h.1.1 in
            let walk_scope = frame.1.1.0 in
            record {
              label = d.label;
              arity = d.arity;
              around = and_frame ls env;
              is = sym (same_Some _ _ i);
              covered = h;
              walk_scope = with_functions walk_scope ds;
              seen = subst (λ z. IsSeen home (with_functions walk_scope ds) (and_frame z env)) frame.0 (seen_framed T ds frame.1.1.1.1.0 frame.1.1.1.0);
              framed = λ z. cc;
              fine = λ ps p. of_functions home (with_functions walk_scope ds) ds f d ps frame.1.1.1.1.1 frame.1.0 (subst (λ z. function_named z f ≡ Some d) (sym frame.0) q) p;
            }
