-- What a function gave lies in the solution of its constraint, and so, in every run, in its signature where all are closed.
use Rattle.std.proofs.Common.{◌≡◌, ℕ, zero, suc, ◌+◌, ◌≤◌, Bool, true, false, ◌&&◌, if◌then◌else◌, List, [], ◌∷◌, length}
use Rattle.std.proofs.Common.{Option, Some, None, take, replicate, nat_eq, inl, inr, refl, sym, ap, ◌∙◌, subst, arith}
use Rattle.std.proofs.lemmas.List.{length-replicate}
use Rattle.std.proofs.lemmas.Option.{same_Some}
use Rattle.type_lattice.proofs.ListOrder.{are_long, types_more}
use Rattle.type_kinds.specs.declared.atom.Atom.{Atom}
use Rattle.core_ast.specs.Model as m
use Rattle.core_ast.specs.declared.syntax.VarName.{VarName}
use Rattle.core_ast.specs.declared.syntax.FunName.{FunName}
use Rattle.core_scope.specs.Functions.{LabelledFunction}
use Rattle.core_scope.specs.Names.{same_atom}
use Rattle.core_scope.specs.declared.ask.Ask.TheVariants.{Exactly}
use Rattle.type_lattice_model.specs.Values.{Value, nil, closure, Values, no_value, and_value, Env, no_variable, Local, count}
use Rattle.type_lattice.specs.Types.{HasType, HasTypes, any}
use Rattle.cons_tree.specs.Environments.{Types, State, Assignment, type_at, LiesIn, LiesInState}
use Rattle.cons_tree.specs.Satisfied.{values_of}
use Rattle.cons_tree.specs.declared.parts.Sig.{Sig}
use Rattle.core_meaning.specs.Programs.{Program, AreAtLabels, module_named, function_named, closure_of, locals_of, top_of_module, top_function, function_at}
use Rattle.core_meaning.specs.Environments.{with_variables}
use Rattle.core_meaning.specs.Meaning.{gives, Event, made, chosen, applied, entered, gave, back, Trace, Among}
use Rattle.core_meaning.specs.Runs.{EvalWith, IsOutside, Eval, Run}
use Rattle.cons_gen_rows.specs.Slots.{slots_from}
use Rattle.cons_gen.specs.Made.{parameter_scope, definition_constraint, definition_slots}
use Rattle.cons_gen_rows.specs.Passes.{Knowledge, signature}
use Rattle.sound_laws.specs.Facts.{Facts, SolutionFacts}
use Rattle.sound_laws.specs.Knowledge.{IsHonest, Within, EachEvent, AllBearOut}
use Rattle.sound_laws.specs.Scopes.{StandsFor}
use Rattle.sound_laws.specs.Summaries.{definition_named, definition_in, definition_of, solved, HasCall, IsWithin, Signatures, IsClosed, CallIsIn}
use Rattle.sound_laws.proofs.Expressions.{every_extends}
use Rattle.sound_laws.proofs.Parts.{value_at_slot}
use Rattle.sound_laws.proofs.Scopes.{stands_in, bound_in_turn}
use Rattle.sound_laws.proofs.Traces.{IsOfOthers, everywhere, entering}

-- ---- types of solutions

have_front : (a : Assignment) (n s : ℕ) (ts : Types) → ((i : ℕ) → HasType (a (s + i)) (type_at ts i)) → n ≤ length ts → HasTypes (values_of a (slots_from s n)) (take n ts)
have_front a zero s ts h l = tt
have_front a (suc n) s [] h l = absurd (omega (arith, l))
have_front a (suc n) s (t ∷ ts) h l =
    let first : s + 0 ≡ s = omega arith in
    (subst (λ j. HasType (a j) t) first (h 0), have_front a n (s + 1) ts (λ i. let later : s + suc i ≡ s + 1 + i = omega arith in subst (λ j. HasType (a j) (type_at ts i)) later (h (suc i))) (omega (arith, l)))

-- ---- functions of a module

-- in each module of the program, each definition is the function that is found at its label
abbrev pub LabelsStand : Program → Type 0
LabelsStand U = (home : Atom) (p : m.Module) → module_named U home ≡ Some p → AreAtLabels U home p.defs

-- what is found at the label of a named definition is that definition
found_named : (U : Program) (home : Atom) (ds : m.Defs) (f : FunName) (d : Local) (c : LabelledFunction) → AreAtLabels U home ds → function_named (locals_of ds) f ≡ Some d → function_at U home d.label ≡ Some c
    → definition_named ds f ≡ Some (record { parameters = c.parameters; body = c.body })
found_named U home m.no_def f d c at h e = absurd cc
found_named U home (m.and_def g k xs t ds) f d c at h e = by (same_atom g.name f.name && nat_eq g.arity f.arity) (λ q. found_named U home ds f d c at.1 q e) h
  where
    by : (b : Bool) → (function_named (locals_of ds) f ≡ Some d → definition_named ds f ≡ Some (record { parameters = c.parameters; body = c.body }))
        → (if b then Some (record { name = g.name; arity = g.arity; label = k.label }) else function_named (locals_of ds) f) ≡ Some d
        → (if b then Some (record { parameters = xs; body = t }) else definition_named ds f) ≡ Some (record { parameters = c.parameters; body = c.body })
    by true more q =
        let label : k.label ≡ d.label = ap (λ z. z.label) (same_Some _ _ q) in
        let same = same_Some _ _ (sym at.0 ∙ ap (function_at U home) label ∙ e) in
        ap (λ z. Some (record { parameters = z.parameters; body = z.body })) same
    by false more q = more q

-- it has a name
has_name : (U : Program) (home : Atom) (ds : m.Defs) (f : FunName) (d : Local) (c : LabelledFunction) → AreAtLabels U home ds → function_named (locals_of ds) f ≡ Some d → function_at U home d.label ≡ Some c → c.name ≡ None
    → ⊥
has_name U home m.no_def f d c at h e none = absurd cc
has_name U home (m.and_def g k xs t ds) f d c at h e none = by (same_atom g.name f.name && nat_eq g.arity f.arity) (λ q. has_name U home ds f d c at.1 q e none) h
  where
    named_not : {x : FunName} → Some x ≡ None → ⊥
    named_not q = cc

    by : (b : Bool) → (function_named (locals_of ds) f ≡ Some d → ⊥) → (if b then Some (record { name = g.name; arity = g.arity; label = k.label }) else function_named (locals_of ds) f) ≡ Some d → ⊥
    by true more q =
        let label : k.label ≡ d.label = ap (λ z. z.label) (same_Some _ _ q) in
        let same = same_Some _ _ (sym at.0 ∙ ap (function_at U home) label ∙ e) in
        named_not {x = g} (ap (λ z. z.name) same ∙ none)
    by false more q = more q

-- what a closure is made of
abbrev home_of : Value → Atom
home_of (closure home label arity env) = home
home_of v = []

abbrev label_of : Value → ℕ
label_of (closure home label arity env) = label
label_of v = 0

abbrev captured_by : Value → Env
captured_by (closure home label arity env) = env
captured_by v = no_variable

-- the closure of a function that a module defines is of the module and has captured nothing, and at its label stands its
-- definition
pub record IsOfModule (U : Program) (home : Atom) (f : FunName) (other : Atom) (label : ℕ) (env : Env) : Type 0 where
  pub same_home : other ≡ home
  pub nothing : env ≡ no_variable
  pub nameless : (c : LabelledFunction) → function_at U other label ≡ Some c → c.name ≡ None → ⊥
  pub defined : (c : LabelledFunction) → function_at U other label ≡ Some c → definition_of U home f ≡ Some (record { parameters = c.parameters; body = c.body })

pub of_module : (U : Program) (home : Atom) (f : FunName) (other : Atom) (label arity : ℕ) (env : Env) → LabelsStand U → top_function U home f ≡ Some (closure other label arity env) → IsOfModule U home f other label env
of_module U home f other label arity env stand h = in_module (module_named U home) refl h
  where
    at_name : (p : m.Module) → module_named U home ≡ Some p → (o : Option Local) → function_named (locals_of p.defs) f ≡ o → closure_of home no_variable o ≡ Some (closure other label arity env)
        → IsOfModule U home f other label env
    at_name p e None named q = absurd cc
    at_name p e (Some d) named q =
        let is = same_Some _ _ q in
        let homes : home ≡ other = ap home_of is in
        let labels : d.label ≡ label = ap label_of is in
        record {
          same_home = sym homes;
          nothing = sym (ap captured_by is);
          nameless = λ c at none.
              let there : function_at U home d.label ≡ Some c = ap (function_at U home) labels ∙ subst (λ z. function_at U z label ≡ Some c) (sym homes) at in
              has_name U home p.defs f d c (stand home p e) named there none;
          defined = λ c at.
              let there : function_at U home d.label ≡ Some c = ap (function_at U home) labels ∙ subst (λ z. function_at U z label ≡ Some c) (sym homes) at in
              ap (λ o. definition_in o f) e ∙ found_named U home p.defs f d c (stand home p e) named there;
        }

    in_module : (o : Option m.Module) → module_named U home ≡ o → top_of_module home o f ≡ Some (closure other label arity env) → IsOfModule U home f other label env
    in_module None e q = absurd cc
    in_module (Some p) e q = at_name p e (function_named (locals_of p.defs) f) refl q

-- ---- one function

empty_stands : (home : Atom) (a : Assignment) → StandsFor home 0 a (record { variables = []; functions = [] }) no_variable
empty_stands home a = record { variables = λ x v e. absurd cc; functions = λ f h. refl }

module _ (F : Facts) (P : Knowledge) (U : Program) (W : Value → Type 0) (honest : IsHonest P U) where
  -- the parameters' slots hold the arguments, the next one the value, and the constraint of the definition is satisfied
  pub definition_satisfied : (fuel : ℕ) (home : Atom) (xs : List VarName) (t : m.Tree) (vs : Values) (v : Value) (tr : Trace) → length xs ≡ count vs
      → EvalWith U W fuel home (with_variables xs vs no_variable) t (gives (and_value v no_value)) tr → AllBearOut P U tr → CallIsIn P home xs t vs v
  definition_satisfied fuel home xs t vs v tr n h g =
      let x = bound_in_turn xs vs 0 (record { variables = []; functions = [] }) no_variable (λ i. nil) n (empty_stands home (λ i. nil)) in
      let h1 = x.holds x.to (λ i l. refl) in
      let y = every_extends F P U W honest fuel home (with_variables xs vs no_variable) t (and_value v no_value) tr (parameter_scope xs) (length xs) x.to (Exactly 1) h g (stands_in (omega arith) (λ i l. refl) h1.0) refl in
      let h2 = y.holds y.to (λ i l. refl) in
      let h3 = x.holds y.to (λ i l. y.same i (omega (arith, l))) in
      (y.to, (h3.1, (value_at_slot t y.to (length xs) v h2.1, h2.0)))

  module _ (R : SolutionFacts) where
    any_lies : (a : Assignment) (n : ℕ) → LiesIn a (replicate n any)
    any_lies a n s = at n s (a s)
      where
        at : (n s : ℕ) (v : Value) → HasType v (type_at (replicate n any) s)
        at zero s v = R.every v
        at (suc n) zero v = R.every v
        at (suc n) (suc s) v = at n s v

    call_in_solution : (home : Atom) (xs : List VarName) (t : m.Tree) (vs : Values) (v : Value) → CallIsIn P home xs t vs v → HasCall (length xs) (solved P home xs t) vs v
    call_in_solution home xs t vs v h =
        let c = definition_constraint P home xs t in
        let start = replicate (definition_slots xs t) any in
        by (solved P home xs t) refl (R.keeps c h.0 start (any_lies h.0 (definition_slots xs t)) h.1.1.1)
      where
        by : (r : State) → solved P home xs t ≡ r → LiesInState h.0 r → HasCall (length xs) r vs v
        by None e l = absurd l
        by (Some ts) e l =
            let long : length ts ≡ definition_slots xs t = are_long ts (replicate (definition_slots xs t) any) (R.below (definition_constraint P home xs t) (replicate (definition_slots xs t) any) ts e)
            ∙ length-replicate (definition_slots xs t) any in
            let shifted : (i : ℕ) → HasType (h.0 (0 + i)) (type_at ts i) = λ i. let same : i ≡ 0 + i = omega arith in subst (λ j. HasType (h.0 j) (type_at ts i)) same (l i) in
            (subst (λ z. HasTypes z (take (length xs) ts)) h.1.0 (have_front h.0 (length xs) 0 ts shifted (omega (arith, long))), subst (λ z. HasType z (type_at ts (length xs))) h.1.1.0 (l (length xs)))

    pub solution_has_call : (fuel : ℕ) (home : Atom) (xs : List VarName) (t : m.Tree) (vs : Values) (v : Value) (tr : Trace) → length xs ≡ count vs
        → EvalWith U W fuel home (with_variables xs vs no_variable) t (gives (and_value v no_value)) tr → AllBearOut P U tr → HasCall (length xs) (solved P home xs t) vs v
    solution_has_call fuel home xs t vs v tr n h g = call_in_solution home xs t vs v (definition_satisfied fuel home xs t vs v tr n h g)

-- ---- closed signatures

within_signature : (n : ℕ) (r : State) (s : Sig) (vs : Values) (v : Value) → IsWithin n r s → HasCall n r vs v → Within s vs v
within_signature n None s vs v l h = absurd h
within_signature n (Some ts) s vs v l h = (types_more vs (take n ts) s.args l.0 h.0, l.1 v h.1)

module _ (F : Facts) (R : SolutionFacts) (U : Program) (stand : LabelsStand U) (S : Signatures) (closed : IsClosed U S) where
  -- what a function that a module defines gave is in its signature
  abbrev pub InSignature : Event → Type 0
  InSignature (made c) = Unit {0}
  InSignature (chosen home label) = Unit {0}
  InSignature (applied home label c) = Unit {0}
  InSignature (entered c vs) = Unit {0}
  InSignature (gave c vs v) = (home : Atom) (f : FunName) (s : Sig) → top_function U home f ≡ Some c → S home f ≡ Some s → Within s vs v
  InSignature (back home label v) = Unit {0}

  -- so what each function's pass knows is borne out
  borne_out : (home : Atom) (f : FunName) (tr : Trace) → EachEvent InSignature tr → AllBearOut (closed.pass home f) U tr
  borne_out home f [] h = tt
  borne_out home f (made c ∷ tr) h = (tt, borne_out home f tr h.1)
  borne_out home f (chosen k l ∷ tr) h = (tt, borne_out home f tr h.1)
  borne_out home f (applied k l c ∷ tr) h = (tt, borne_out home f tr h.1)
  borne_out home f (entered c vs ∷ tr) h = (tt, borne_out home f tr h.1)
  borne_out home f (gave c vs v ∷ tr) h = (λ other g s top own known. h.0 other g (signature (closed.pass home f) s) top (closed.takes home f other g s own known), borne_out home f tr h.1)
  borne_out home f (back k l v ∷ tr) h = (tt, borne_out home f tr h.1)

  others : IsOfOthers InSignature
  others = record { of_made = λ c. tt; of_chosen = λ home l. tt; of_applied = λ home l c. tt; of_entered = λ c vs. tt; of_back = λ home l v. tt }

  module _ (W : Value → Type 0) where
    kept_by : (fuel : ℕ) (other : Atom) (label arity : ℕ) (c : LabelledFunction) (env : Env) (vs : Values) (v : Value) (tr : Trace) → function_at U other label ≡ Some c → length c.parameters ≡ count vs
        → EvalWith U W fuel other (with_variables c.parameters vs env) c.body (gives (and_value v no_value)) tr → EachEvent InSignature tr → InSignature (gave (closure other label arity env) vs v)
    kept_by fuel other label arity c env vs v tr at n x inside home f s top given =
        let is = of_module U home f other label arity env stand top in
        let body = subst (λ z. EvalWith U W fuel z (with_variables c.parameters vs no_variable) c.body (gives (and_value v no_value)) tr) is.same_home
        (subst (λ z. EvalWith U W fuel other (with_variables c.parameters vs z) c.body (gives (and_value v no_value)) tr) is.nothing x) in
        within_signature (length c.parameters) (solved (closed.pass home f) home c.parameters c.body) s vs v (closed.above home f (record { parameters = c.parameters; body = c.body }) s (is.defined c at) given)
        (solution_has_call F (closed.pass home f) U W (closed.honest home f) R fuel home c.parameters c.body vs v tr n body (borne_out home f tr inside))

  run_in_signatures : (stage : ℕ) (tr : Trace) → Run U stage tr → EachEvent InSignature tr
  run_in_signatures stage tr r =
      entering U (λ v. IsOutside U stage v) InSignature others (Eval U stage r.fuel) (everywhere U (λ v. IsOutside U stage v) InSignature others (kept_by (λ v. IsOutside U stage v)) r.fuel)
      (kept_by (λ v. IsOutside U stage v) r.fuel) r.enters

  among : (x : Event) (tr : Trace) → EachEvent InSignature tr → Among x tr → InSignature x
  among x [] h i = absurd i
  among x (y ∷ tr) h (inl e) = subst InSignature (sym e) h.0
  among x (y ∷ tr) h (inr i) = among x tr h.1 i

  pub gave_in_signature : (stage : ℕ) (tr : Trace) (home : Atom) (f : FunName) (c : Value) (s : Sig) (vs : Values) (v : Value) → Run U stage tr → top_function U home f ≡ Some c → S home f ≡ Some s → Among (gave c vs v) tr
      → Within s vs v
  gave_in_signature stage tr home f c s vs v r top given i = among (gave c vs v) tr (run_in_signatures stage tr r) i home f s top given
