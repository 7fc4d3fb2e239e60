-- Why what is found in a module is found, by its kind.
use Rattle.std.proofs.Common.{◌≡◌, ◌⊎◌, inl, inr, ℕ, zero, suc, Bool, true, false, cond, if◌then◌else◌, List, [], ◌∷◌, ◌++◌, Contains, Option, Some, None, refl, sym, ap, ◌∙◌, subst, arith}
use Rattle.std.specs.Prelude.{unwrap_or}
use Rattle.core_scope.proofs.NameLaws.{function_itself}
use Rattle.core_ast.specs.declared.syntax.Mark.{Mark}
use Rattle.core_ast.specs.declared.syntax.FunName.{FunName}
use Rattle.core_ast.specs.Model as m
use Rattle.core_scope.specs.Names.{Distinct, same_function, defined_names}
use Rattle.core_scope.specs.steps.SameNames.{functions_same}
use Rattle.type_lattice_model.specs.Values.{no_variable}
use Rattle.type_lattice.specs.Types.{Type4, is_none}
use Rattle.cons_tree.specs.declared.parts.Summary.{Summary}
use Rattle.cons_tree.specs.declared.parts.Callee.{Callee}
use Rattle.cons_tree.specs.declared.parts.Callee.TheVariants.{Known, Local as Own, Undefined, Unknown}
use Rattle.core_meaning.specs.Programs.{Program, HasModule, function_named, closure_of, locals_of, top_of_module, top_function}
use Rattle.warn_list.specs.declared.finding.Finding.{Finding}
use Rattle.warn_list.specs.declared.finding.FindingKind.{FindingKind}
use Rattle.warn_list.specs.declared.finding.FindingKind.TheVariants.{NoReturn, DeadCall, DeadClause, NeverCalled, UnknownFunction}
use Rattle.module_flow_calls.specs.declared.node_context.NodeContext.{NodeContext}
use Rattle.module_flow_calls.specs.NodeContext.{under, at_node}
use Rattle.module_flow_walk.specs.Findings.{found_in_functions}
use Rattle.module_flow.specs.Flow.{Callees, world, around_module, gives_nothing, unless_entered, functions_reported, findings_in}
use Rattle.module_flow_state.specs.Scopes.{outermost}
use Rattle.module_flow_state.specs.States.{FlowState, parameters_of}
use Rattle.module_flow_calls.specs.Unknown.{unknown_functions}
use Rattle.sound_laws.specs.Knowledge.{summary_of}
use Rattle.sound_laws_flow.specs.Claims.{defined_at}
use Rattle.sound_laws_flow.specs.steps.Taken.{Reports, IsDead, AreDead}
use Rattle.sound_laws_flow.proofs.Reported.{functions_at}
use Rattle.sound_laws_flow.proofs.Unknowns.{IsOfUnknown, AreOfUnknown, unknown_are}

-- ---- what is among findings

abbrev Has : Finding → List Finding → Type 0
Has f [] = ⊥
Has f (g ∷ gs) = (f ≡ g) ⊎ Has f gs

is_among : (f : Finding) (fs : List Finding) → Contains fs f → Has f fs
is_among f [] (k, within, is) = absurd (omega (arith, within))
is_among f (g ∷ gs) (zero, within, is) = inl (sym is)
is_among f (g ∷ gs) (suc k, within, is) = inr (is_among f gs (k, omega (arith, within), is))

split : (f : Finding) (fs gs : List Finding) → Has f (fs ++ gs) → Has f fs ⊎ Has f gs
split f [] gs h = inr h
split f (g ∷ fs) gs (inl e) = inl (inl e)
split f (g ∷ fs) gs (inr h) = by (split f fs gs h)
  where
    by : Has f fs ⊎ Has f gs → ((f ≡ g) ⊎ Has f fs) ⊎ Has f gs
    by (inl k) = inl (inr k)
    by (inr k) = inr k

is_dead : (f : Finding) (fs : List Finding) → AreDead fs → Has f fs → IsDead f.kind
is_dead f [] d h = absurd h
is_dead f (g ∷ gs) d (inl e) = subst (λ z. IsDead z.kind) (sym e) d.0
is_dead f (g ∷ gs) d (inr h) = is_dead f gs d.1 h

is_of_unknown : (f : Finding) (fs : List Finding) → AreOfUnknown fs → Has f fs → IsOfUnknown f.kind
is_of_unknown f [] d h = absurd h
is_of_unknown f (g ∷ gs) d (inl e) = subst (λ z. IsOfUnknown z.kind) (sym e) d.0
is_of_unknown f (g ∷ gs) d (inr h) = is_of_unknown f gs d.1 h

is_reported : (f : Finding) (fs : List Finding) → Has f fs → Reports f.label fs
is_reported f [] h = h
is_reported f (g ∷ gs) (inl e) = inl (ap (λ z. z.label) e)
is_reported f (g ∷ gs) (inr h) = inr (is_reported f gs h)

-- ---- functions of the module

-- a definition of this name stands at the label
abbrev pub DefinedIn : m.Defs → FunName → ℕ → Type 0
DefinedIn m.no_def f l = ⊥
DefinedIn (m.and_def g k xs t ds) f l = ((f ≡ g) × (l ≡ k.label)) ⊎ DefinedIn ds f l

-- ---- what a finding may be

module _ (callees : Callees) (x : m.Module) (st : FlowState) where
  -- of a function that is defined: that its lenient signature gives nothing, or that the state doesn't enter it
  pub record IsOwn (ds : m.Defs) (f : Finding) : Type 0 where
    pub name : FunName
    pub defined : DefinedIn ds name f.label
    pub why : ((f.kind ≡ NoReturn name) × (gives_nothing (callees x.name name) ≡ true)) ⊎ ((f.kind ≡ NeverCalled name) × (parameters_of st f.label ≡ None))

  at_own : (a : NodeContext) (i : Mark) (kind : FindingKind) (f : Finding) → Has f (at_node a i kind) → (f.label ≡ i.label) × (f.kind ≡ kind)
  at_own a i kind f h = by a.quiet h
    where
      by : (b : Bool) → Has f (cond b [] (record { label = i.label; kind = kind; line = unwrap_or a.line i.place.line } ∷ [])) → (f.label ≡ i.label) × (f.kind ≡ kind)
      by true k = absurd k
      by false (inl e) = (ap (λ z. z.label) e, ap (λ z. z.kind) e)
      by false (inr k) = absurd k

  own : (ds : m.Defs) (f : Finding) → Has f (functions_reported (world callees x st) (around_module callees x) ds) → IsOwn ds f
  own m.no_def f h = absurd h
  own (m.and_def g i xs t ds) f h = of_three (own ds f) (split f (cond (gives_nothing (callees x.name g)) (at_node (under (around_module callees x) i.note) i (NoReturn g)) []
      ++ unless_entered (parameters_of st i.label) (at_node (under (around_module callees x) i.note) i (NeverCalled g))) (functions_reported (world callees x st) (around_module callees x) ds) h)
    where
      of_first : (b : Bool) → gives_nothing (callees x.name g) ≡ b → Has f (cond b (at_node (under (around_module callees x) i.note) i (NoReturn g)) []) → IsOwn (m.and_def g i xs t ds) f
      of_first true e k =
          let r = at_own (under (around_module callees x) i.note) i (NoReturn g) f k in
          record { name = g; defined = inl (refl, r.0); why = inl (r.1, e) }
      of_first false e k = absurd k

      of_second : (o : Option (List Type4)) → parameters_of st i.label ≡ o → Has f (unless_entered o (at_node (under (around_module callees x) i.note) i (NeverCalled g))) → IsOwn (m.and_def g i xs t ds) f
      of_second None e k =
          let r = at_own (under (around_module callees x) i.note) i (NeverCalled g) f k in
          record { name = g; defined = inl (refl, r.0); why = inr (r.1, ap (parameters_of st) r.0 ∙ e) }
      of_second (Some ts) e k = absurd k

      of_two : Has f (cond (gives_nothing (callees x.name g)) (at_node (under (around_module callees x) i.note) i (NoReturn g)) [])
          ⊎ Has f (unless_entered (parameters_of st i.label) (at_node (under (around_module callees x) i.note) i (NeverCalled g))) → IsOwn (m.and_def g i xs t ds) f
      of_two (inl k) = of_first (gives_nothing (callees x.name g)) refl k
      of_two (inr k) = of_second (parameters_of st i.label) refl k

      of_three : (Has f (functions_reported (world callees x st) (around_module callees x) ds) → IsOwn ds f)
          → Has f (cond (gives_nothing (callees x.name g)) (at_node (under (around_module callees x) i.note) i (NoReturn g)) []
          ++ unless_entered (parameters_of st i.label) (at_node (under (around_module callees x) i.note) i (NeverCalled g))) ⊎ Has f (functions_reported (world callees x st) (around_module callees x) ds)
          → IsOwn (m.and_def g i xs t ds) f
      of_three more (inl k) = of_two (split f (cond (gives_nothing (callees x.name g)) (at_node (under (around_module callees x) i.note) i (NoReturn g)) [])
          (unless_entered (parameters_of st i.label) (at_node (under (around_module callees x) i.note) i (NeverCalled g))) k)
      of_three more (inr k) = let r = more k in record { name = r.name; defined = inr r.defined; why = r.why }

  abbrev pub Walked : List Finding
  Walked = found_in_functions (world callees x st) (around_module callees x) outermost x.defs

  abbrev Unknowns : List Finding
  Unknowns = unknown_functions callees (around_module callees x) x.defs

  three_ways : (f : Finding) → Contains (findings_in callees x st) f → Has f (functions_reported (world callees x st) (around_module callees x) x.defs) ⊎ (Has f Walked ⊎ Has f Unknowns)
  three_ways f h = by (split f (functions_reported (world callees x st) (around_module callees x) x.defs ++ Walked) Unknowns (is_among f (findings_in callees x st) h))
    where
      more : Has f (functions_reported (world callees x st) (around_module callees x) x.defs) ⊎ Has f Walked → Has f (functions_reported (world callees x st) (around_module callees x) x.defs) ⊎ (Has f Walked ⊎ Has f Unknowns)
      more (inl k) = inl k
      more (inr k) = inr (inl k)

      by : Has f (functions_reported (world callees x st) (around_module callees x) x.defs ++ Walked) ⊎ Has f Unknowns
          → Has f (functions_reported (world callees x st) (around_module callees x) x.defs) ⊎ (Has f Walked ⊎ Has f Unknowns)
      by (inl k) = more (split f (functions_reported (world callees x st) (around_module callees x) x.defs) Walked k)
      by (inr k) = inr (inr k)

  dead_not_own : (f : Finding) → IsDead f.kind → IsOwn x.defs f → ⊥
  dead_not_own f d r = by r.why
    where
      by : ((f.kind ≡ NoReturn r.name) × (gives_nothing (callees x.name r.name) ≡ true)) ⊎ ((f.kind ≡ NeverCalled r.name) × (parameters_of st f.label ≡ None)) → ⊥
      by (inl k) = subst IsDead k.0 d
      by (inr k) = subst IsDead k.0 d

  -- a call or a clause that is found dead is reported by the walk
  pub dead_found : (f : Finding) → IsDead f.kind → Contains (findings_in callees x st) f → Reports f.label Walked
  dead_found f d h = by (three_ways f h)
    where
      apart : (k : FindingKind) → IsDead k → IsOfUnknown k → ⊥
      apart (NoReturn g) a b = a
      apart (DeadCall t) a b = b
      apart DeadClause a b = b
      apart (NeverCalled g) a b = a
      apart (UnknownFunction home g) a b = a

      by : Has f (functions_reported (world callees x st) (around_module callees x) x.defs) ⊎ (Has f Walked ⊎ Has f Unknowns) → Reports f.label Walked
      by (inl k) = absurd (dead_not_own f d (own x.defs f k))
      by (inr (inl k)) = is_reported f Walked k
      by (inr (inr k)) = absurd (apart f.kind d (is_of_unknown f Unknowns (unknown_are callees (around_module callees x) x.defs) k))

  -- a finding of another of the kinds is of a function of the module
  pub own_found : (f : Finding) → (IsDead f.kind → ⊥) → (IsOfUnknown f.kind → ⊥) → Contains (findings_in callees x st) f → IsOwn x.defs f
  own_found f alive known h = by (three_ways f h)
    where
      by : Has f (functions_reported (world callees x st) (around_module callees x) x.defs) ⊎ (Has f Walked ⊎ Has f Unknowns) → IsOwn x.defs f
      by (inl k) = own x.defs f k
      by (inr (inl k)) = absurd (alive (is_dead f Walked (functions_at (world callees x st) (around_module callees x) outermost x.defs).dead k))
      by (inr (inr k)) = absurd (known (is_of_unknown f Unknowns (unknown_are callees (around_module callees x) x.defs) k))

-- the function gives nothing by a summary that is known
pub nothing_given : (c : Callee) → gives_nothing c ≡ true → (s : Summary) × ((summary_of c ≡ Some s) × (is_none s.lenient.result ≡ true))
nothing_given (Known s) e = (s, (refl, e))
nothing_given (Own s) e = (s, (refl, e))
nothing_given Undefined e = absurd cc
nothing_given Unknown e = absurd cc

-- ---- the function of a name

is_named : (ds : m.Defs) (f : FunName) (l : ℕ) → DefinedIn ds f l → Contains (defined_names ds) f
is_named m.no_def f l h = absurd h
is_named (m.and_def g k xs t ds) f l (inl e) = (zero, omega arith, sym e.0)
is_named (m.and_def g k xs t ds) f l (inr h) = let r = is_named ds f l h in (suc r.0, omega (arith, r.1), r.2)

-- where names are defined once, the definition of a name is the one at the label
found_by_name : (ds : m.Defs) (f : FunName) (l : ℕ) → Distinct (defined_names ds) → DefinedIn ds f l → function_named (locals_of ds) f ≡ Some (record { name = f.name; arity = f.arity; label = l })
found_by_name m.no_def f l d h = absurd h
found_by_name (m.and_def g k xs t ds) f l d (inl e) =
    ap (λ b. if b then Some (record { name = g.name; arity = g.arity; label = k.label }) else function_named (locals_of ds) f) (ap (same_function g) e.0 ∙ function_itself g)
    ∙ (λ i. Some (record { name = (sym e.0 i).name; arity = (sym e.0 i).arity; label = sym e.1 i }))
found_by_name (m.and_def g k xs t ds) f l d (inr h) = by (found_by_name ds f l d.1 h) (same_function g f) refl
  where
    by : function_named (locals_of ds) f ≡ Some (record { name = f.name; arity = f.arity; label = l }) → (b : Bool) → same_function g f ≡ b
        → (if b then Some (record { name = g.name; arity = g.arity; label = k.label }) else function_named (locals_of ds) f) ≡ Some (record { name = f.name; arity = f.arity; label = l })
    by more true e = absurd (d.0 (subst (λ z. Contains (defined_names ds) z) (sym (functions_same g f e)) (is_named ds f l h)))
    by more false e = more

pub is_top : (U : Program) (x : m.Module) (f : FunName) (l : ℕ) → HasModule U x → Distinct (defined_names x.defs) → DefinedIn x.defs f l → top_function U x.name f ≡ Some (defined_at x f l)
is_top U x f l known once h = ap (λ o. top_of_module x.name o f) known ∙ ap (closure_of x.name no_variable) (found_by_name x.defs f l once h)
