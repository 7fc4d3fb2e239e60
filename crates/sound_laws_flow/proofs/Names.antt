-- The application of a name: which function is entered, and what comes back.
use Rattle.std.proofs.Common.{◌≡◌, ℕ, eqb, cond, true, List, [], ◌∷◌, ◌++◌, length, Option, Some, None, refl, sym, ap, ap₂, ◌∙◌, subst, eq-eqb}
use Rattle.type_lattice.proofs.ListOrder.{types_more}
use Rattle.type_kinds.specs.declared.atom.Atom.{Atom}
use Rattle.core_ast.specs.Model as m
use Rattle.core_ast.specs.Lengths.{how_many}
use Rattle.core_ast.specs.declared.syntax.Mark.{Mark}
use Rattle.core_ast.specs.declared.syntax.FunName.{FunName}
use Rattle.core_scope.specs.declared.ask.Ask.{Ask}
use Rattle.type_lattice_model.specs.Values.{Value, closure, Values, Env, no_variable}
use Rattle.type_lattice.specs.Types.{Type4, HasTypes}
use Rattle.core_meaning.specs.Environments.{local_function, function_of, or_outer}
use Rattle.core_meaning.specs.Meaning.{Failure, Outcome, gives, fails, Trace, back_by, AllGive, Enter}
use Rattle.core_meaning.specs.Programs.{top_function}
use Rattle.module_flow_calls.specs.declared.functions.ResolvedName.TheVariants.{Inner, Top}
use Rattle.module_flow_state.specs.Applications.{resolved_name, inner_or, by_meaning, applied}
use Rattle.module_flow_calls.specs.Calls.{may_return}
use Rattle.module_flow_calls.specs.Functions.{label_named}
use Rattle.module_flow_state.specs.Scopes.{WalkScope, outermost}
use Rattle.module_flow_state.specs.States.{result_of}
use Rattle.module_flow_walk.specs.Walk.{then, walk}
use Rattle.module_flow_state.specs.World.{strict, lenient}
use Rattle.sound_laws.proofs.Applications.{given_count}
use Rattle.sound_laws.proofs.Calls.{within}
use Rattle.sound_laws.proofs.Summaries.{of_module}
use Rattle.sound_laws_flow.specs.steps.Fine.{FineApplied}
use Rattle.sound_laws_flow.specs.steps.Seen.{IsSeen}
use Rattle.sound_laws_flow.proofs.Calls.{state_gives, may_give}
use Rattle.sound_laws_flow.proofs.Coverage.{IsOfFrame, of_frame}
use Rattle.sound_laws_flow.proofs.Entering.{Came, came_result, entered_with, top_allowed, is_top, IsTop, outermost_seen}
use Rattle.sound_laws_flow.proofs.Parts.{all_given}
use Rattle.sound_laws_flow.proofs.Results.{res_one, one_is}
use Rattle.sound_laws_flow.proofs.Setting.{Setting, V, AreCov, IsCovEnv, AllOk, IsKnown, Result, FineAt, Results, Invariant, known_front, known_back, both_ok}
use Rattle.sound_laws_flow.proofs.WalkScopes.{as_many_have, has_length}

module _ (Z : Setting) (E : Atom → Env → m.Tree → Outcome → Trace → Type 0) (each : Invariant Z E) (home : Atom) where
  -- what an application of a name owes, once its arguments have types: all is allowed, it may be reported only where it doesn't come
  -- back, and what it gives is in what the walk gives for it
  abbrev IsDone : WalkScope → FunName → (label : ℕ) → List Type4 → Outcome → Trace → Type 0
  IsDone sc f label us o tr = AllOk Z tr × (AllOk Z (back_by home label o) × ((k : Ask) → Result Z k (by_meaning (V Z home) f (resolved_name (V Z home) sc f) us) o))

  no_back : (sc : WalkScope) (f : FunName) (label : ℕ) (us : List Type4) (tr : Trace) (g : Failure) → AllOk Z tr → IsDone sc f label us (fails g) tr
  no_back sc f label us tr g h = (h, (tt, λ k. tt))

  in_frame : {env : Env} {c : Value} {vs : Values} {o : Outcome} {tr : Trace} (sc : WalkScope) (f : FunName) (label : ℕ) (us : List Type4) → local_function home env f ≡ Some c → Enter Z.program Z.from E c vs o tr → IsKnown Z tr
      → IsCovEnv Z home env → IsSeen home sc env → AreCov Z vs → HasTypes vs us → FineApplied (V Z home) (Z.dead_clause home) (Z.dead_call home) (resolved_name (V Z home) sc f) f label us → IsDone sc f label us o tr
  in_frame {env} {c} {vs} {o} {tr} sc f label us e x k ce s cv h fine =
      let frame = of_frame Z.program Z.callee Z.states Z.dead_clause Z.dead_call Z.types home env f c ce e in
      let named = s.functions.inner f frame.label frame.arity frame.around (e ∙ ap Some frame.is) in
      let means : resolved_name (V Z home) sc f ≡ Inner frame.label = ap (λ z. inner_or z (label_named (V Z home).names (V Z home).labels f)) named in
      let it = subst (λ z. FineApplied (V Z home) (Z.dead_clause home) (Z.dead_call home) z f label us) means fine in
      let ps = it.0.0 in
      let have = types_more vs us ps it.0.1.1 h in
      let b = frame.fine ps it.0.1.0 in
      let y = subst (λ z. Enter Z.program Z.from E z vs o tr) frame.is x in
      let allowed = top_allowed Z E each home frame.label frame.arity frame.around vs (λ g q. absurd (frame.framed (of_module Z.program home g home frame.label frame.arity frame.around Z.stand q).nothing)) in
      let r = entered_with Z E each frame.walk_scope ps y k frame.covered frame.seen cv (as_many_have vs ps have) b.0 allowed in
      finish frame ps o means it.1 r.0 r.1 b.1
    where
      finish : (frame : IsOfFrame Z.program Z.callee Z.states Z.dead_clause Z.dead_call home c) (ps : List Type4) (o : Outcome) → resolved_name (V Z home) sc f ≡ Inner frame.label → (Z.dead_call home label → ⊥) → AllOk Z tr
          → Came Z E each home frame.label frame.walk_scope ps o → Results Z home frame.label frame.walk_scope ps → IsDone sc f label us o tr
      finish frame ps (fails g) means alive done came r = no_back sc f label us tr g done
      finish frame ps (gives ws) means alive done came r =
          let w = came_result Z E each home frame.label frame.walk_scope ps ws came r in
          let t = result_of (Z.states home) frame.label in
          subst (λ z. IsDone sc f label us (gives z) tr) (sym w.1.0) (
            done,
            (
              (alive, tt),
              λ k. res_one Z.types Z.program Z.callee Z.states Z.dead_clause Z.dead_call k t (by_meaning (V Z home) f (resolved_name (V Z home) sc f) us) w.0 w.1.1.0 w.1.1.1
                  (ap (λ z. by_meaning (V Z home) f z us) means ∙ one_is Z.types w.0 t w.1.1.1),
            ),
          )

  of_its_module : {env : Env} {c : Value} {vs : Values} {o : Outcome} {tr : Trace} (sc : WalkScope) (f : FunName) (label : ℕ) (us : List Type4) → local_function home env f ≡ None → top_function Z.program home f ≡ Some c
      → Enter Z.program Z.from E c vs o tr → IsKnown Z tr → IsCovEnv Z home env → IsSeen home sc env → AreCov Z vs → HasTypes vs us
      → FineApplied (V Z home) (Z.dead_clause home) (Z.dead_call home) (resolved_name (V Z home) sc f) f label us → IsDone sc f label us o tr
  of_its_module {env} {c} {vs} {o} {tr} sc f label us e is x k ce s cv h fine =
      let t = is_top Z E each home f c is in
      let unnamed = s.functions.others f e in
      let means : resolved_name (V Z home) sc f ≡ Top t.label = ap₂ inner_or unnamed t.named in
      let it = subst (λ z. FineApplied (V Z home) (Z.dead_clause home) (Z.dead_call home) z f label us) means fine in
      let ps = it.0.0 in
      let have = types_more vs us ps it.0.1.1 h in
      let closed : top_function Z.program home f ≡ Some (closure home t.label t.arity no_variable) = is ∙ ap Some t.is in
      let b = (Z.settled home).bodies f t.label t.arity ps closed it.0.1.0 in
      let y = subst (λ z. Enter Z.program Z.from E z vs o tr) t.is x in
      let allowed = top_allowed Z E each home t.label t.arity no_variable vs (λ g q. (ps, (it.0.1.0, have))) in
      let r = entered_with Z E each outermost ps y k tt (outermost_seen Z.types home) cv (as_many_have vs ps have) b.0 allowed in
      finish t ps o means it.1 x r.0 r.1 b.1
    where
      finish : (t : IsTop Z E each home f c) (ps : List Type4) (o : Outcome) → resolved_name (V Z home) sc f ≡ Top t.label → ((ws : List Type4) → may_return (Z.callee home f) us ≡ Some ws → Z.dead_call home label → ⊥)
          → Enter Z.program Z.from E c vs o tr → AllOk Z tr → Came Z E each home t.label outermost ps o → Results Z home t.label outermost ps → IsDone sc f label us o tr
      finish t ps (fails g) means alive x done came r = no_back sc f label us tr g done
      finish t ps (gives ws) means alive x done came r =
          let w = came_result Z E each home t.label outermost ps ws came r in
          let y = subst (λ z. Enter Z.program Z.from E c vs (gives z) tr) w.1.0 x in
          let result = result_of (Z.states home) t.label in
          let given = state_gives Z.facts Z.types Z.solutions result (Z.callee home f) w.0 vs us w.1.1.1 h (λ s known. within Z.facts (strict (V Z [])) Z.program Z.from Z.honest_strict E home f is y k.0 s refl known) in
          let may = may_give Z.facts Z.types Z.solutions (Z.callee home f) w.0 vs us h (λ s known. within Z.facts (lenient (V Z [])) Z.program Z.from Z.honest_lenient E home f is y k.1 s refl known) in
          subst (λ z. IsDone sc f label us (gives z) tr) (sym w.1.0) (
            done,
            (
              (alive (may.0 ∷ []) may.1.0, tt),
              λ k. res_one Z.types Z.program Z.callee Z.states Z.dead_clause Z.dead_call k given.0 (by_meaning (V Z home) f (resolved_name (V Z home) sc f) us) w.0 w.1.1.0 given.1.1
                  (ap (λ z. by_meaning (V Z home) f z us) means ∙ given.1.0),
            ),
          )

  name_applied : {env : Env} {c : Value} {vs : Values} {o : Outcome} {tr : Trace} (sc : WalkScope) (f : FunName) (label : ℕ) (us : List Type4) → function_of Z.program home env f ≡ Some c → Enter Z.program Z.from E c vs o tr
      → IsKnown Z tr → IsCovEnv Z home env → IsSeen home sc env → AreCov Z vs → HasTypes vs us → FineApplied (V Z home) (Z.dead_clause home) (Z.dead_call home) (resolved_name (V Z home) sc f) f label us
      → IsDone sc f label us o tr
  name_applied {env} {c} {vs} {o} {tr} sc f label us is x k ce s cv h fine = by (local_function home env f) refl is
    where
      by : (z : Option Value) → local_function home env f ≡ z → or_outer z (top_function Z.program home f) ≡ Some c → IsDone sc f label us o tr
      by None e q = of_its_module sc f label us e q x k ce s cv h fine
      by (Some w) e q = in_frame sc f label us (e ∙ q) x k ce s cv h fine

  -- the whole application
  pub apply_name_inv : {env : Env} {c : Value} {vs : Values} {o : Outcome} {tr more : Trace} (i j : Mark) (f : FunName) (ts : m.Trees) (sc : WalkScope) (k : Ask) → f.arity ≡ how_many ts → function_of Z.program home env f ≡ Some c
      → AllGive (E home) env ts vs tr → Enter Z.program Z.from E c vs o more → IsKnown Z (tr ++ (more ++ back_by home i.label o)) → IsCovEnv Z home env → IsSeen home sc env → FineAt Z home sc k (m.apply i (m.local j f) ts)
      → AllOk Z (tr ++ (more ++ back_by home i.label o)) × Result Z k (walk (V Z home) sc k (m.apply i (m.local j f) ts)) o
  apply_name_inv {env} {c} {vs} {o} {tr} {more} i j f ts sc k arity is xs x kn ce s fine =
      let back = back_by home i.label o in
      let g = all_given Z E each home sc xs (known_front Z tr (more ++ back) kn) ce s fine.0 in
      let us = g.1.1.0 in
      let many : f.arity ≡ length us = arity ∙ sym (given_count xs) ∙ has_length vs us g.1.1.1.1 in
      let d = name_applied sc f i.label us is x (known_front Z more back (known_back Z tr (more ++ back) kn)) ce s g.1.0 g.1.1.1.1 (fine.1 us g.1.1.1.0 many) in
      let counted : eqb f.arity (length us) ≡ true = eq-eqb f.arity (length us) many in (
        both_ok Z tr (more ++ back) g.0 (both_ok Z more back d.0 d.1.0),
        subst (λ z. Result Z k (then z (λ us. applied (V Z home) sc f us)) o) (sym g.1.1.1.0)
            (subst (λ b. Result Z k (cond b (by_meaning (V Z home) f (resolved_name (V Z home) sc f) us) None) o) (sym counted) (d.1.1 k)),
      )
