-- In a program of accepted modules, by what is known and closed, no run does what the flow of a module finds.
use Rattle.std.proofs.Common.{◌≡◌, ◌⊎◌, inl, inr, ℕ, true, [], ◌∷◌, Some, None, refl, sym, ap, ◌∙◌, subst}
use Rattle.type_kinds.specs.declared.atom.Atom.{Atom}
use Rattle.core_ast.specs.Model as m
use Rattle.core_ast.specs.declared.syntax.FunName.{FunName}
use Rattle.type_lattice_model.specs.Values.{Value, Values, no_variable, count}
use Rattle.type_lattice.specs.Types.{HasType}
use Rattle.bif_types.specs.Closures.{HoldsClosure, HoldClosure}
use Rattle.bif_types.specs.Results.{BifMay, is_exact}
use Rattle.cons_tree.specs.Facts.{TypeFacts}
use Rattle.cons_tree.specs.declared.parts.Summary.{Summary}
use Rattle.core_meaning.specs.Meaning.{Event, made, chosen, applied, entered, gave, back, Trace, Among}
use Rattle.core_meaning.specs.Programs.{Program, HasModule, AreAtLabels, module_named, in_module, top_function}
use Rattle.core_meaning.specs.Runs.{Run}
use Rattle.warn_list.specs.declared.finding.FindingKind.{FindingKind}
use Rattle.warn_list.specs.declared.finding.FindingKind.TheVariants.{NoReturn, DeadCall, DeadClause, NeverCalled}
use Rattle.warn_list.specs.declared.finding.CallText.{CallText}
use Rattle.module_flow.specs.Flow.{Callees, last_state, gives_nothing}
use Rattle.module_flow_state.specs.States.{parameters_of}
use Rattle.module_flow_state.specs.World.{strict, lenient}
use Rattle.sound_laws.specs.Accepted.{AreAccepted}
use Rattle.sound_laws.specs.Facts.{Facts, SolutionFacts}
use Rattle.sound_laws.specs.Knowledge.{Within, summary_of, BearsOut, EachEvent}
use Rattle.sound_laws.proofs.Summaries.{LabelsStand}
use Rattle.sound_laws_flow.specs.Claims.{AreKnownIn, IsFoundAt, Never, defined_at}
use Rattle.sound_laws_flow.specs.steps.Covered.{world_of}
use Rattle.sound_laws_flow.specs.Facts.{TextFacts, LastFacts}
use Rattle.sound_laws_flow.specs.steps.Last.{IsReported}
use Rattle.sound_laws_flow.specs.steps.Taken.{Reports}
use Rattle.sound_laws_flow.proofs.Found.{IsOwn, Walked, dead_found, own_found, nothing_given, is_top}
use Rattle.sound_laws_flow.proofs.Lasting.{state_in, ReportedIn, states, arounds, is_last}
use Rattle.sound_laws_flow.proofs.Modules.{texts}
use Rattle.sound_laws_flow.proofs.Runs.{IsReadyFor, clause_not_chosen, call_not_back, not_entered}
use Rattle.sound_laws_flow.proofs.Settled.{is_settled}
use Rattle.sound_laws_flow.proofs.Text.{DefsAt, IsText}

-- what holds of each event that a trace has holds all along it
along : (Q : Event → Type 0) (tr : Trace) → ((e : Event) → Among e tr → Q e) → EachEvent Q tr
along Q [] h = tt
along Q (e ∷ tr) h = (h e (inl refl), along Q tr (λ z i. h z (inr i)))

standing : (U : Program) (home : Atom) (p : m.Module) (ds : m.Defs) → module_named U home ≡ Some p → DefsAt p ds → AreAtLabels U home ds
standing U home p m.no_def e h = tt
standing U home p (m.and_def f k xs t ds) e h = (ap (λ o. in_module o k.label) e ∙ h.0, standing U home p ds e h.1.1)

-- the calls that a run made are of the signatures that are known
abbrev pub StrictTypings : Program → Callees → Type 0
StrictTypings U K = (stage : ℕ) (tr : Trace) → Run U stage tr → (home : Atom) (f : FunName) (s : Summary) (c : Value) (vs : Values) (v : Value) → summary_of (K home f) ≡ Some s → top_function U home f ≡ Some c
    → Among (gave c vs v) tr → Within s.strict vs v

abbrev pub LenientTypings : Program → Callees → Type 0
LenientTypings U K = (stage : ℕ) (tr : Trace) → Run U stage tr → (home : Atom) (f : FunName) (s : Summary) (c : Value) (vs : Values) (v : Value) → summary_of (K home f) ≡ Some s → top_function U home f ≡ Some c
    → Among (gave c vs v) tr → Within s.lenient vs v

-- what the laws rest on
pub record Grounds : Type 0 where
  pub facts : Facts
  pub types : TypeFacts
  pub solutions : SolutionFacts
  pub held : (f : Atom) (vs : Values) (v c : Value) → is_exact f (count vs) ≡ true → BifMay f vs v → HoldsClosure c v → HoldClosure c vs
  pub texts : TextFacts
  pub lasts : LastFacts

module _ (G : Grounds) (U : Program) (K : Callees) (accepted : AreAccepted U) (known : AreKnownIn U K) (strict_typings : StrictTypings U K) (lenient_typings : LenientTypings U K) where
  sound : (home : Atom) (p : m.Module) → module_named U home ≡ Some p → IsText p × (p.name ≡ home)
  sound home p e = texts G.texts U accepted home p e

  stand : LabelsStand U
  stand home p e = standing U home p p.defs e (sound home p e).0.tops_at

  abbrev Dead : Atom → ℕ → Type 0
  Dead home l = IsReported U K (states G.lasts U K sound) (arounds G.lasts U K sound) home l

  bears_strict : (stage : ℕ) (tr : Trace) → Run U stage tr → (e : Event) → Among e tr → BearsOut (strict (world_of U K (states G.lasts U K sound) [])) U e
  bears_strict stage tr r (made c) i = tt
  bears_strict stage tr r (chosen home l) i = tt
  bears_strict stage tr r (applied home l c) i = tt
  bears_strict stage tr r (entered c vs) i = tt
  bears_strict stage tr r (gave c vs v) i = λ home f s top own is. strict_typings stage tr r home f s c vs v is top i
  bears_strict stage tr r (back home l v) i = tt

  bears_lenient : (stage : ℕ) (tr : Trace) → Run U stage tr → (e : Event) → Among e tr → BearsOut (lenient (world_of U K (states G.lasts U K sound) [])) U e
  bears_lenient stage tr r (made c) i = tt
  bears_lenient stage tr r (chosen home l) i = tt
  bears_lenient stage tr r (applied home l c) i = tt
  bears_lenient stage tr r (entered c vs) i = tt
  bears_lenient stage tr r (gave c vs v) i = λ home f s top own is. lenient_typings stage tr r home f s c vs v is top i
  bears_lenient stage tr r (back home l v) i = tt

  ready : IsReadyFor U K (states G.lasts U K sound) Dead Dead
  ready = record {
    facts = G.facts;
    types = G.types;
    solutions = G.solutions;
    held = G.held;
    stand = stand;
    settled = λ home. is_settled U K (states G.lasts U K sound) (arounds G.lasts U K sound) stand home (is_last G.lasts U K sound home);
    honest_strict = known.honest;
    honest_lenient = known.honest;
    known_strict = λ stage tr r. along (BearsOut (strict (world_of U K (states G.lasts U K sound) [])) U) tr (bears_strict stage tr r);
    known_lenient = λ stage tr r. along (BearsOut (lenient (world_of U K (states G.lasts U K sound) [])) U) tr (bears_lenient stage tr r);
  }

  module _ (x : m.Module) (has : HasModule U x) where
    text : IsText x
    text = (sound x.name x has).0

    dead : (l : ℕ) → Reports l (Walked K x (last_state K x)) → Dead x.name l
    dead l h = subst (λ o. ReportedIn K x.name o l) (sym has) h

    unentered : (l : ℕ) → parameters_of (last_state K x) l ≡ None → parameters_of (states G.lasts U K sound x.name) l ≡ None
    unentered l e = subst (λ o. parameters_of (state_in K o) l ≡ None) (sym has) e

    pub call_never : (text : CallText) (l : ℕ) → IsFoundAt K x (DeadCall text) l → (v : Value) → Never U (back x.name l v)
    call_never text l h v stage tr r i = call_not_back U K (states G.lasts U K sound) Dead Dead ready stage tr x.name l v r (dead l (dead_found K x (last_state K x) (record { label = l; kind = DeadCall text; line = h.0 }) tt h.1)) i

    pub clause_never : (l : ℕ) → IsFoundAt K x DeadClause l → Never U (chosen x.name l)
    clause_never l h stage tr r i = clause_not_chosen U K (states G.lasts U K sound) Dead Dead ready stage tr x.name l r (dead l (dead_found K x (last_state K x) (record { label = l; kind = DeadClause; line = h.0 }) tt h.1)) i

    -- a function of which something is found
    abbrev Own : FindingKind → ℕ → ℕ → Type 0
    Own kind l line = IsOwn K x (last_state K x) x.defs (record { label = l; kind = kind; line = line })

    of_no_return : (f : FunName) (l : ℕ) (h : IsFoundAt K x (NoReturn f) l) → Own (NoReturn f) l h.0
    of_no_return f l h = own_found K x (last_state K x) (record { label = l; kind = NoReturn f; line = h.0 }) (λ z. z) (λ z. z) h.1

    of_never_called : (f : FunName) (l : ℕ) (h : IsFoundAt K x (NeverCalled f) l) → Own (NeverCalled f) l h.0
    of_never_called f l h = own_found K x (last_state K x) (record { label = l; kind = NeverCalled f; line = h.0 }) (λ z. z) (λ z. z) h.1

    pub no_return_defined : (f : FunName) (l : ℕ) → IsFoundAt K x (NoReturn f) l → (top_function U x.name f ≡ Some (defined_at x f l)) × (gives_nothing (K x.name f) ≡ true)
    no_return_defined f l h = by (of_no_return f l h).why
      where
        o : Own (NoReturn f) l h.0
        o = of_no_return f l h

        by : ((NoReturn f ≡ NoReturn o.name) × (gives_nothing (K x.name o.name) ≡ true)) ⊎ ((NoReturn f ≡ NeverCalled o.name) × (parameters_of (last_state K x) l ≡ None))
            → (top_function U x.name f ≡ Some (defined_at x f l)) × (gives_nothing (K x.name f) ≡ true)
        by (inl k) =
            let same : o.name ≡ f = cc in
            subst (λ g. (top_function U x.name g ≡ Some (defined_at x g l)) × (gives_nothing (K x.name g) ≡ true)) same (is_top U x o.name l has text.tops_once o.defined, k.1)
        by (inr k) = absurd cc

    pub never_called_defined : (f : FunName) (l : ℕ) → IsFoundAt K x (NeverCalled f) l → (top_function U x.name f ≡ Some (defined_at x f l)) × (parameters_of (last_state K x) l ≡ None)
    never_called_defined f l h = by (of_never_called f l h).why
      where
        o : Own (NeverCalled f) l h.0
        o = of_never_called f l h

        by : ((NeverCalled f ≡ NoReturn o.name) × (gives_nothing (K x.name o.name) ≡ true)) ⊎ ((NeverCalled f ≡ NeverCalled o.name) × (parameters_of (last_state K x) l ≡ None))
            → (top_function U x.name f ≡ Some (defined_at x f l)) × (parameters_of (last_state K x) l ≡ None)
        by (inl k) = absurd cc
        by (inr k) =
            let same : o.name ≡ f = cc in
            (subst (λ g. top_function U x.name g ≡ Some (defined_at x g l)) same (is_top U x o.name l has text.tops_once o.defined), k.1)

    pub gave_never : (f : FunName) (l : ℕ) → IsFoundAt K x (NoReturn f) l → (vs : Values) (v : Value) → Never U (gave (defined_at x f l) vs v)
    gave_never f l h vs v stage tr r i =
        let d = no_return_defined f l h in
        let s = nothing_given (K x.name f) d.1 in
        let within = lenient_typings stage tr r x.name f s.0 (defined_at x f l) vs v s.1.0 d.0 i in
        G.types.empty v (subst (λ t. HasType v t) ((G.types.tells_none s.0.lenient.result).0 s.1.1) within.1)

    pub entered_never : (f : FunName) (l : ℕ) → IsFoundAt K x (NeverCalled f) l → (vs : Values) → Never U (entered (defined_at x f l) vs)
    entered_never f l h vs stage tr r i =
        let d = never_called_defined f l h in
        not_entered U K (states G.lasts U K sound) Dead Dead ready stage tr x.name f l f.arity no_variable vs r d.0 (unentered l d.1) i
