-- The last state of the flow of an accepted module takes in all that its walk gives, and what is open may be entered with anything.
use Rattle.std.proofs.Common.{◌≡◌, inl, inr, ℕ, zero, suc, Bool, true, false, ◌||◌, nat_eq, List, [], ◌∷◌, length, replicate, Contains, Option, Some, None, IsTrue, refl, sym, ap, ◌∙◌, subst, arith}
use Rattle.std.proofs.lemmas.Option.{same_Some}
use Rattle.type_kinds.specs.declared.atom.Atom.{Atom}
use Rattle.core_ast.specs.declared.syntax.Mark.{Mark}
use Rattle.core_ast.specs.declared.syntax.FunName.{FunName}
use Rattle.core_ast.specs.Model as m
use Rattle.core_scope.specs.declared.ask.Ask.{Ask}
use Rattle.core_scope.specs.Labels.{labels_of_defs}
use Rattle.core_scope.specs.Names as scope
use Rattle.core_scope.specs.Names.{Scope, has_function, defined_names}
use Rattle.core_scope.specs.Places.{StandsInModule}
use Rattle.core_scope.specs.Places.Piece.{expression}
use Rattle.core_scope.specs.Places.StandsIn.{itself}
use Rattle.type_lattice_model.specs.Values.{closure, no_variable, Local}
use Rattle.type_lattice.specs.Types.{any}
use Rattle.core_meaning.specs.Programs.{Program, module_named, function_named, closure_of, locals_of, top_of_module, exports_in}
use Rattle.module_flow_calls.specs.declared.node_context.NodeContext.{NodeContext}
use Rattle.module_flow_state.specs.declared.states.Contribution.{Contribution}
use Rattle.module_flow_state.specs.declared.states.Contribution.TheVariants.{Enters, Returns}
use Rattle.module_flow_calls.specs.Escapes.{none_defined, defining}
use Rattle.module_flow_walk.specs.Findings.{found_in_functions}
use Rattle.module_flow.specs.Flow.{Callees, has_label, open_labels, first_state, last_state, world, around_module}
use Rattle.module_flow_calls.specs.Functions.{defined_labels}
use Rattle.module_flow_walk.specs.Contributions.{contributions_of_functions}
use Rattle.module_flow_state.specs.Scopes.{outermost}
use Rattle.module_flow_state.specs.Settled as flow
use Rattle.module_flow_state.specs.Settled.{stands, GiveCounted, AreWhollyTaken}
use Rattle.module_flow_state.specs.States.{FlowState, parameters_of}
use Rattle.module_flow_state.specs.World.{World}
use Rattle.sound_laws_flow.specs.steps.Covered.{defs_in}
use Rattle.sound_laws_flow.specs.Facts.{LastFacts}
use Rattle.sound_laws_flow.specs.steps.Last.{IsLast}
use Rattle.sound_laws_flow.specs.steps.Named.{NamedDefs}
use Rattle.sound_laws_flow.specs.steps.Seen.{NamesOnce}
use Rattle.sound_laws_flow.specs.steps.Taken.{Member, Distinct, Reports, AreTaken}
use Rattle.sound_laws_flow.proofs.Escaping.{named_defs}
use Rattle.sound_laws_flow.proofs.Fitting.{NamesFit, AllFit, fit_functions}
use Rattle.sound_laws_flow.proofs.WalkScopes.{defined_paired}
use Rattle.sound_laws_flow.proofs.Text.{IsText, IsDefined, counts, names_once, names_fit, found_named, first_counted, defined_count, defined_stands, defined_open, escaping_open, exported_open}

-- whether a function stands in a state is told by the labels alone
abbrev among : List ℕ → ℕ → Bool
among [] l = false
among (k ∷ ks) l = nat_eq k l || among ks l

-- ---- one module

module _ (L : LastFacts) (callees : Callees) (x : m.Module) (X : IsText x) where
  abbrev Known : ℕ → ℕ → Type 0
  Known l n = IsDefined x l n

  tops : NamesFit Known (defined_names x.defs) (defined_labels x.defs)
  tops = names_fit x x.defs X.tops_at

  inner : (s : Scope) (j : Ask) (i : Mark) (ds : m.Defs) (t : m.Tree) → StandsInModule x (expression s j (m.letrec i ds t)) → NamesFit Known (defined_names ds) (defined_labels ds)
  inner s j i ds t h = names_fit x ds (X.letrecs_at s j i ds t h)

  contributions_fit : (st : FlowState) → AllFit Known (contributions_of_functions (world callees x st) outermost x.defs)
  contributions_fit st = fit_functions Known (world callees x st) x tops inner x.defs outermost itself tt tops

  counted : (gs : List Contribution) → AllFit Known gs → GiveCounted (counts x) gs
  counted [] h = tt
  counted (Enters l ts ∷ gs) h = (defined_count x X l (length ts) h.0, counted gs h.1)
  counted (Returns l t ∷ gs) h = counted gs h.1

  abbrev Last : FlowState
  Last = last_state callees x

  opened : (l n : ℕ) → Known l n → has_label (open_labels x) l ≡ true → parameters_of Last l ≡ Some (replicate n any)
  opened l n h o =
      L.opens callees x (counts x) (first_counted x X) (λ st. counted (contributions_of_functions (world callees x st) outermost x.defs) (contributions_fit st)) l (defined_open x X l n h o)
      ∙ ap (λ z. Some (replicate z any)) (sym (defined_count x X l n h))

  still_stands : (st ms : FlowState) (l : ℕ) → flow.labels_of st ≡ flow.labels_of ms → IsTrue (stands ms l) → IsTrue (stands st l)
  still_stands st ms l e h = told st ∙ ap (λ ks. among ks l) e ∙ sym (told ms) ∙ h
    where
      told : (st : FlowState) → stands st l ≡ among (flow.labels_of st) l
      told [] = refl
      told (f ∷ fs) = ap (λ b. nat_eq f.label l || b) (told fs)

  here : (l n : ℕ) → Known l n → IsTrue (stands Last l)
  here l n h = still_stands Last (first_state x) l (L.labels callees x) (defined_stands x X l n h)

  module _ (D : ℕ → Type 0) where
    all_taken : (gs : List Contribution) → AllFit Known gs → AreWhollyTaken Last gs → AreTaken (world callees x Last) D gs
    all_taken [] h k = tt
    all_taken (Enters l ts ∷ gs) h k = (k.0 (here l (length ts) h.0), all_taken gs h.1 k.1)
    all_taken (Returns l t ∷ gs) h k = (k.0 (here l h.0.0 h.0.1), all_taken gs h.1 k.1)

    last_taken : AreTaken (world callees x Last) D (contributions_of_functions (world callees x Last) outermost x.defs)
    last_taken =
        all_taken (contributions_of_functions (world callees x Last) outermost x.defs) (contributions_fit Last)
        (L.wholly callees x (counts x) (first_counted x X) (λ st. counted (contributions_of_functions (world callees x st) outermost x.defs) (contributions_fit st)))

    last_named : NamedDefs (world callees x Last) D [] [] x.defs
    last_named =
        named_defs (open_labels x) Known (world callees x Last) D x opened tops inner (λ s j i ds t h. names_once ds (X.letrecs_once s j i ds t h)) x.defs (defining none_defined x.defs) [] [] itself
        (record { paired = defined_paired x.defs; fit = tt; agree = λ f. refl })
        (escaping_open x)

  -- what is exported
  last_exports : (home : Atom) (f : FunName) (label arity : ℕ) → has_function x.exports f ≡ true → closure_of home no_variable (function_named (locals_of x.defs) f) ≡ Some (closure home label arity no_variable)
      → parameters_of Last label ≡ Some (replicate arity any)
  last_exports home f label arity h e = by (function_named (locals_of x.defs) f) refl e
    where
      by : (o : Option Local) → function_named (locals_of x.defs) f ≡ o → closure_of home no_variable o ≡ Some (closure home label arity no_variable) → parameters_of Last label ≡ Some (replicate arity any)
      by None q w = absurd cc
      by (Some d) q w =
          let same : closure home d.label d.arity no_variable ≡ closure home label arity no_variable = same_Some _ _ w in
          let labels : d.label ≡ label = cc in
          let arities : d.arity ≡ arity = cc in
          subst (λ l. parameters_of Last l ≡ Some (replicate arity any)) labels (subst (λ n. parameters_of Last d.label ≡ Some (replicate n any)) arities
          (opened d.label d.arity (found_named x x.defs f d X.tops_at q) (exported_open x f d h q)))

-- ---- every module of a program

distinct_labels : (ls : List ℕ) → scope.Distinct ls → Distinct ls
distinct_labels [] d = tt
distinct_labels (l ∷ ls) d = ((λ h. d.0 (contained l ls h)), distinct_labels ls d.1)
  where
    contained : (l : ℕ) (ls : List ℕ) → Member l ls → Contains ls l
    contained l [] h = absurd h
    contained l (k ∷ ks) (inl e) = (zero, omega arith, sym e)
    contained l (k ∷ ks) (inr h) = let r = contained l ks h in (suc r.0, omega (arith, r.1), r.2)

-- the last state of what stands under a name, what is known there, and what is reported there
abbrev pub state_in : Callees → Option m.Module → FlowState
state_in callees None = []
state_in callees (Some p) = last_state callees p

abbrev pub around_in : Callees → Option m.Module → NodeContext
around_in callees None = record { quiet = false; line = None }
around_in callees (Some p) = around_module callees p

abbrev pub world_in : Callees → Atom → Option m.Module → World
world_in callees home o = record { callee = callees; home = home; names = defined_names (defs_in o); labels = defined_labels (defs_in o); state = state_in callees o }

abbrev pub ReportedIn : Callees → Atom → Option m.Module → (label : ℕ) → Type 0
ReportedIn callees home o l = Reports l (found_in_functions (world_in callees home o) (around_in callees o) outermost (defs_in o))

record LastIn (callees : Callees) (home : Atom) (o : Option m.Module) : Type 0 where
  names : NamesOnce (defs_in o)
  labels : Distinct (labels_of_defs (defs_in o))
  taken : AreTaken (world_in callees home o) (ReportedIn callees home o) (contributions_of_functions (world_in callees home o) outermost (defs_in o))
  named : NamedDefs (world_in callees home o) (ReportedIn callees home o) [] [] (defs_in o)
  exports : (f : FunName) (label arity : ℕ) → exports_in o f ≡ true → top_of_module home o f ≡ Some (closure home label arity no_variable) → parameters_of (state_in callees o) label ≡ Some (replicate arity any)

nowhere : (callees : Callees) (home : Atom) → LastIn callees home None
nowhere callees home = record { names = λ f. refl; labels = tt; taken = tt; named = tt; exports = λ f label arity e h. absurd cc }

in_module : LastFacts → (callees : Callees) (p : m.Module) → IsText p → LastIn callees p.name (Some p)
in_module L callees p X = record {
  names = names_once p.defs X.tops_once;
  labels = distinct_labels (labels_of_defs p.defs) X.labels_once;
  taken = last_taken L callees p X (ReportedIn callees p.name (Some p));
  named = last_named L callees p X (ReportedIn callees p.name (Some p));
  exports = λ f label arity e h. last_exports L callees p X p.name f label arity e h;
}

-- U: the program; each of its modules was accepted
module _ (L : LastFacts) (U : Program) (callees : Callees) (texts : (home : Atom) (p : m.Module) → module_named U home ≡ Some p → IsText p × (p.name ≡ home)) where
  abbrev pub states : Atom → FlowState
  states home = state_in callees (module_named U home)

  abbrev pub arounds : Atom → NodeContext
  arounds home = around_in callees (module_named U home)

  last_in : (home : Atom) → LastIn callees home (module_named U home)
  last_in home = by (module_named U home) refl
    where
      by : (o : Option m.Module) → module_named U home ≡ o → LastIn callees home o
      by None e = nowhere callees home
      by (Some p) e = let t = texts home p e in subst (λ h. LastIn callees h (Some p)) t.1 (in_module L callees p t.0)

  pub is_last : (home : Atom) → IsLast U callees states arounds home
  is_last home = let r = last_in home in record { names = r.names; labels = r.labels; taken = r.taken; named = r.named; exports = r.exports }
