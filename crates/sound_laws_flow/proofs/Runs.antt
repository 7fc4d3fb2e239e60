-- No run does what is reported: by induction on stages, every closure that was made is covered, and so every event is allowed.
use Rattle.std.proofs.Common.{◌≡◌, ◌⊎◌, ℕ, zero, suc, true, List, [], ◌∷◌, Some, None, inl, inr, refl, sym, ◌∙◌, subst}
use Rattle.type_kinds.specs.declared.atom.Atom.{Atom}
use Rattle.core_ast.specs.declared.syntax.FunName.{FunName}
use Rattle.type_lattice.specs.Types.{Type4}
use Rattle.type_lattice_model.specs.Values.{Value, closure, Values, Env, count}
use Rattle.bif_types.specs.Closures.{HoldsClosure, HoldClosure}
use Rattle.bif_types.specs.Results.{BifMay, is_exact}
use Rattle.cons_tree.specs.Facts.{TypeFacts}
use Rattle.cons_tree.specs.declared.parts.Callee.{Callee}
use Rattle.core_meaning.specs.Meaning.{Event, made, chosen, entered, back, Trace, Among}
use Rattle.core_meaning.specs.Programs.{Program, is_exported, top_function}
use Rattle.core_meaning.specs.Runs.{EvalWith, IsOutside, WasMade, Run}
use Rattle.module_flow_state.specs.States.{FlowState, parameters_of}
use Rattle.module_flow_state.specs.World.{strict, lenient}
use Rattle.sound_laws.specs.Facts.{Facts, SolutionFacts}
use Rattle.sound_laws.specs.Knowledge.{IsHonest, AllBearOut, EachEvent}
use Rattle.sound_laws.proofs.Summaries.{LabelsStand}
use Rattle.sound_laws_flow.specs.steps.Covered.{world_of, Covered, AreCovered, IsAllowed, IsSettled}
use Rattle.sound_laws_flow.proofs.Coverage.{by_held, outside_covered}
use Rattle.sound_laws_flow.proofs.Entering.{value_entered, export_entered}
use Rattle.sound_laws_flow.proofs.Invariant.{every_inv}
use Rattle.sound_laws_flow.proofs.Setting.{Setting}

-- a program whose modules are settled, and what its runs bear out
pub record IsReadyFor (U : Program) (callee : Atom → FunName → Callee) (states : Atom → FlowState) (DeadClause DeadCall : Atom → ℕ → Type 0) : Type 0 where
  pub facts : Facts
  pub types : TypeFacts
  pub solutions : SolutionFacts
  pub held : (f : Atom) (vs : Values) (v c : Value) → is_exact f (count vs) ≡ true → BifMay f vs v → HoldsClosure c v → HoldClosure c vs
  pub stand : LabelsStand U
  pub settled : (home : Atom) → IsSettled U callee states DeadClause DeadCall home
  pub honest_strict : IsHonest (strict (world_of U callee states [])) U
  pub honest_lenient : IsHonest (lenient (world_of U callee states [])) U
  pub known_strict : (stage : ℕ) (tr : Trace) → Run U stage tr → AllBearOut (strict (world_of U callee states [])) U tr
  pub known_lenient : (stage : ℕ) (tr : Trace) → Run U stage tr → AllBearOut (lenient (world_of U callee states [])) U tr

module _ (U : Program) (callee : Atom → FunName → Callee) (states : Atom → FlowState) (DeadClause DeadCall : Atom → ℕ → Type 0) (X : IsReadyFor U callee states DeadClause DeadCall) where
  abbrev IsCov : Value → Type 0
  IsCov v = Covered U callee states DeadClause DeadCall v

  abbrev Ok : Event → Type 0
  Ok x = IsAllowed U callee states DeadClause DeadCall x

  outside_is : (stage : ℕ) → ((v : Value) → WasMade U stage v → IsCov v) → (v : Value) → IsOutside U stage v → IsCov v
  outside_is stage covered v h = by_held U callee states DeadClause DeadCall v (λ c i. covered c (h.1 c i))

  abbrev setting : (stage : ℕ) → ((v : Value) → WasMade U stage v → IsCov v) → Setting
  setting stage covered = record {
    facts = X.facts;
    types = X.types;
    solutions = X.solutions;
    program = U;
    callee = callee;
    states = states;
    dead_clause = DeadClause;
    dead_call = DeadCall;
    from = λ v. IsOutside U stage v;
    stand = X.stand;
    settled = X.settled;
    held = X.held;
    world = outside_is stage covered;
    honest_strict = X.honest_strict;
    honest_lenient = X.honest_lenient;
  }

  run_at : (stage : ℕ) → ((v : Value) → WasMade U stage v → IsCov v) → (tr : Trace) → Run U stage tr → EachEvent Ok tr
  run_at stage covered tr r =
      let args = outside_covered U callee states DeadClause DeadCall (λ v. IsOutside U stage v) (outside_is stage covered) [] r.args r.worldly in
      by args r.begins
    where
      by : AreCovered U callee states DeadClause DeadCall r.args → ((home : Atom) × ((f : FunName) × ((is_exported U home f ≡ true) × (top_function U home f ≡ Some r.start)))) ⊎ WasMade U stage r.start → EachEvent Ok tr
      by args (inl b) = (export_entered (setting stage covered) (EvalWith U (λ v. IsOutside U stage v) r.fuel) (every_inv (setting stage covered) r.fuel) b.0 b.1.0 b.1.1.0 b.1.1.1 r.enters (
        X.known_strict stage tr r,
        X.known_lenient stage tr r,
      ) args).0
      by args (inr b) = (value_entered (setting stage covered) (EvalWith U (λ v. IsOutside U stage v) r.fuel) (every_inv (setting stage covered) r.fuel) r.enters (X.known_strict stage tr r, X.known_lenient stage tr r)
          (covered r.start b) args).0

  among : (x : Event) (tr : Trace) → EachEvent Ok tr → Among x tr → Ok x
  among x [] h i = absurd i
  among x (y ∷ tr) h (inl e) = subst Ok (sym e) h.0
  among x (y ∷ tr) h (inr i) = among x tr h.1 i

  made_at : (stage : ℕ) (v : Value) → WasMade U stage v → IsCov v
  made_at zero v h = absurd h
  made_at (suc stage) v (inl h) = made_at stage v h
  made_at (suc stage) v (inr h) = among (made v) h.0 (run_at stage (made_at stage) h.0 h.1.0) h.1.1

  pub run_allowed : (stage : ℕ) (tr : Trace) → Run U stage tr → EachEvent Ok tr
  run_allowed stage tr r = run_at stage (made_at stage) tr r

  pub clause_not_chosen : (stage : ℕ) (tr : Trace) (home : Atom) (label : ℕ) → Run U stage tr → DeadClause home label → Among (chosen home label) tr → ⊥
  clause_not_chosen stage tr home label r d i = among (chosen home label) tr (run_allowed stage tr r) i d

  pub call_not_back : (stage : ℕ) (tr : Trace) (home : Atom) (label : ℕ) (v : Value) → Run U stage tr → DeadCall home label → Among (back home label v) tr → ⊥
  call_not_back stage tr home label v r d i = among (back home label v) tr (run_allowed stage tr r) i d

  no_some : {ps : List Type4} → None ≡ Some ps → ⊥
  no_some e = cc

  pub not_entered : (stage : ℕ) (tr : Trace) (home : Atom) (f : FunName) (label arity : ℕ) (env : Env) (vs : Values) → Run U stage tr → top_function U home f ≡ Some (closure home label arity env)
      → parameters_of (states home) label ≡ None → Among (entered (closure home label arity env) vs) tr → ⊥
  not_entered stage tr home f label arity env vs r top none i =
      let h = among (entered (closure home label arity env) vs) tr (run_allowed stage tr r) i home f label arity env refl top in
      no_some (sym none ∙ h.1.0)
