-- No run applies what isn't listed: by induction on stages, every closure that was made is covered, and so every event is allowed.
use Rattle.std.proofs.Common.{◌≡◌, ◌⊎◌, ℕ, zero, suc, true, [], Some, inl, inr, refl, sym, subst}
use Rattle.type_kinds.specs.declared.atom.Atom.{Atom}
use Rattle.core_ast.specs.declared.syntax.FunName.{FunName}
use Rattle.type_lattice_model.specs.Values.{Value, closure, external, Env, Values, count}
use Rattle.core_meaning.specs.Meaning.{Outcome, fails, raised, made, applied, Trace, Among, enter_gives, enter_fails, apply_closure, apply_external, apply_raises}
use Rattle.core_meaning.specs.Programs.{Program, is_exported, top_function}
use Rattle.core_meaning.specs.Runs.{EvalWith, IsOutside, WasMade, Run}
use Rattle.core_meaning_values.proofs.Coverage.{by_held, outside_covered}
use Rattle.core_meaning_values.specs.Functions.{HoldsFunction}
use Rattle.fun_flow_sets.specs.Items.{anything, item_of, Place, applies}
use Rattle.fun_flow_sets.specs.Rules.{IsRule, opens_definition}
use Rattle.fun_flow_sets.specs.Sets.{MayEnter}
use Rattle.sound_laws.specs.Knowledge.{EachEvent}
use Rattle.sound_laws_fun_flow.specs.Claims.{ApplyAt}
use Rattle.sound_laws_fun_flow.specs.steps.Inside.{MayHave, AreRules, OfClosure, OfFrame}
use Rattle.sound_laws_fun_flow.specs.steps.Setting.{HandOn, HasProgram, Setting, IsAllowed, IsCov}
use Rattle.sound_laws_fun_flow.proofs.Entering.{value_entered}
use Rattle.sound_laws_fun_flow.proofs.Finding.{top_found}
use Rattle.sound_laws_fun_flow.proofs.Invariant.{every_inv}
use Rattle.sound_laws_fun_flow.proofs.Lists.{of_trace}

-- the closure of an exported function is covered
exported_covered : (U : Program) (P : HasProgram U (IsRule U)) (home : Atom) (f : FunName) (c : Value) → is_exported U home f ≡ true → top_function U home f ≡ Some c → IsCov U (IsRule U) c
exported_covered U P home f c e top =
    let t = top_found U (IsRule U) P home f c top in
    let opening = subst (λ z. AreRules U (IsRule U) (opens_definition home z)) t.1.0 (P.exports home f e) in
    let own : IsCov U (IsRule U) (closure home t.0.label t.0.arity t.1.1.around) = (t.1.1.covered, ((t.1.1.scope, (t.1.1.fits, t.1.1.stands)), opening)) in
    subst (λ z. IsCov U (IsRule U) z) (sym t.1.1.is) own

module _ (H : HandOn) (U : Program) (P : HasProgram U (IsRule U)) where
  abbrev IsMine : Value → Type 0
  IsMine v = IsCov U (IsRule U) v

  outside_is : (stage : ℕ) → ((v : Value) → WasMade U stage v → IsMine v) → (v : Value) → IsOutside U stage v → IsMine v
  outside_is stage covered v h = by_held (OfClosure U (IsRule U)) (OfFrame U (IsRule U)) v (λ c i. covered c (h.1 c i))

  abbrev setting : (stage : ℕ) → ((v : Value) → WasMade U stage v → IsMine v) → Setting
  setting stage covered = record {
    program = U;
    rule = IsRule U;
    from = λ v. IsOutside U stage v;
    hand_on = H;
    has = P;
    world = outside_is stage covered;
  }

  run_at : (stage : ℕ) → ((v : Value) → WasMade U stage v → IsMine v) → (tr : Trace) → Run U stage tr → EachEvent (IsAllowed U (IsRule U)) tr
  run_at stage covered tr r =
      (value_entered (setting stage covered) (EvalWith U (λ v. IsOutside U stage v) r.fuel) (every_inv (setting stage covered) r.fuel) r.enters (start r.begins)
      (outside_covered (OfClosure U (IsRule U)) (OfFrame U (IsRule U)) (λ v. IsOutside U stage v) (outside_is stage covered) [] r.args r.worldly)).0
    where
      start : ((home : Atom) × ((f : FunName) × ((is_exported U home f ≡ true) × (top_function U home f ≡ Some r.start)))) ⊎ WasMade U stage r.start → IsMine r.start
      start (inl b) = exported_covered U P b.0 b.1.0 r.start b.1.1.0 b.1.1.1
      start (inr b) = covered r.start b

  made_at : (stage : ℕ) (v : Value) → WasMade U stage v → IsMine v
  made_at zero v h = absurd h
  made_at (suc stage) v (inl h) = made_at stage v h
  made_at (suc stage) v (inr h) = of_trace (IsAllowed U (IsRule U)) (made v) h.0 (run_at stage (made_at stage) h.0 h.1.0) h.1.1

  -- what is applied in a run is listed
  pub is_listed : (stage : ℕ) (tr : Trace) (home : Atom) (label : ℕ) (c : Value) → Run U stage tr → Among (applied home label c) tr → HoldsFunction c c → MayEnter U home label anything ⊎ MayEnter U home label (item_of c)
  is_listed stage tr home label c r i f =
      let h = of_trace (IsAllowed U (IsRule U)) (applied home label c) tr (run_at stage (made_at stage) tr r) i in
      by h.0 h.1.0 h.1.1.0 (h.1.1.1 c f)
    where
      by : (p : Place) (n : ℕ) → IsRule U (applies p n home label) → MayHave U (IsRule U) p (item_of c) → MayEnter U home label anything ⊎ MayEnter U home label (item_of c)
      by p n s (inl k) = inl (p, (n, (s, k)))
      by p n s (inr k) = inr (p, (n, (s, k)))

-- a closure of another arity isn't entered
pub other_arity : (U : Program) (stage fuel : ℕ) (home : Atom) (label arity : ℕ) (env : Env) (vs : Values) (o : Outcome) (tr : Trace) → ApplyAt U stage fuel (closure home label arity env) vs o tr → (arity ≡ count vs → ⊥)
    → (o ≡ fails raised) × (tr ≡ [])
other_arity U stage fuel home label arity env vs _ _ (apply_closure (enter_gives n at many x)) e = absurd (e n)
other_arity U stage fuel home label arity env vs _ _ (apply_closure (enter_fails n at many x)) e = absurd (e n)
other_arity U stage fuel home label arity env vs _ _ apply_raises e = (refl, refl)

pub other_external : (U : Program) (stage fuel : ℕ) (home name : Atom) (arity : ℕ) (vs : Values) (o : Outcome) (tr : Trace) → ApplyAt U stage fuel (external home name arity) vs o tr → (arity ≡ count vs → ⊥)
    → (o ≡ fails raised) × (tr ≡ [])
other_external U stage fuel home name arity vs _ _ (apply_closure x) e = elim x [ ]
other_external U stage fuel home name arity vs _ _ (apply_external n y) e = absurd (e n)
other_external U stage fuel home name arity vs _ _ apply_raises e = (refl, refl)
