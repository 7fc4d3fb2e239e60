-- A component's summaries are the same by its part, with the outputs of those that it calls, as by all that is known then.
use Rattle.std.proofs.Common.{◌≡◌, ◌≢◌, ℕ, ◌<◌, Bool, true, false, List, [], ◌∷◌, length, map, ◌⊎◌, inl, inr, Some, Contains, refl, sym, ap, ap₂, ◌∙◌, subst, true≢false}
use Rattle.std.specs.Prelude.{slice_get}
use Rattle.std.proofs.lemmas.Bool.{cases_eq, cases_lt}
use Rattle.std.proofs.lemmas.Option.{slice_get_within}
use Rattle.core_scope.proofs.NameLaws.{has_contained, contained_has}
use Rattle.type_kinds.proofs.Lists.{contains_none, contains_first, contains_later, contains_cases, position_of}
use Rattle.type_kinds.specs.declared.atom.Atom.{Atom}
use Rattle.core_ast.specs.declared.syntax.FunName.{FunName}
use Rattle.core_ast.specs.Model as m
use Rattle.core_scope.specs.Asks.{erlang}
use Rattle.core_scope.specs.Names.{Distinct, same_atom, has_function}
use Rattle.call_graph.specs.Calls.{ModuleFunction, functions_of, GoesTo}
use Rattle.call_graph.specs.Targets.{CallTarget, targets}
use Rattle.call_graph.specs.Targets.CallTarget.{defined, inner, remote}
use Rattle.components.specs.Graph.{Leads}
use Rattle.components.specs.Numbering.{Numbering, component_of_node, members_of, callees_of}
use Rattle.components.specs.Ready.{IsReadyNumbering}
use Rattle.cons_tree.specs.declared.parts.Callee.TheVariants.{Undefined}
use Rattle.cons_tree.proofs.NameLaws.{home_itself}
use Rattle.comp_rounds.specs.Parts.{with_inputs}
use Rattle.comp_rounds.specs.Rounds.{Callees, Function, is_member, summaries}
use Rattle.comp_rounds.specs.Takes.{AllTake}
use Rattle.sound_laws.specs.Accepted.{AreAccepted}
use Rattle.analysis_summaries.specs.Functions.{summarized, all_functions}
use Rattle.analysis_summaries.specs.Known.{module_names, closed_over, after_components}
use Rattle.analysis_summaries.specs.Whole.{IsCallGraph}
use Rattle.cons_gen_frame.specs.Agreement.{GivesNothing, AreAlike}
use Rattle.sound_laws_whole.proofs.Components.{AgreesBut, EachBut, AllBut, summaries_frame}
use Rattle.sound_laws_whole.proofs.Named.{Positioned, search_named, member_at, home_of_member, one_position}
use Rattle.sound_laws_whole.proofs.Tables.{each_picked, picked_member, stays_out, stays_low, stays_high}
use Rattle.sound_laws_whole.proofs.Wholes as whole
use Rattle.sound_laws_whole.proofs.Wholes.{closed_there, local_gives_nothing, each_but, all_but, Source, source_of, summarized_at}
use Rattle.analysis_crew.specs.Parts.{functions_in, listed, summaries_of, IsFixedFor}
use Rattle.analysis_crew.proofs.Laid as laying

-- a number is among some, or isn't
among : (ds : List ℕ) (d : ℕ) → Contains ds d ⊎ (Contains ds d → ⊥)
among [] d = inr (λ has. contains_none d has)
among (e ∷ ds) d = by (cases_eq e d) (among ds d)
  where
    by : (e ≡ d) ⊎ (e ≡ d → ⊥) → Contains ds d ⊎ (Contains ds d → ⊥) → Contains (e ∷ ds) d ⊎ (Contains (e ∷ ds) d → ⊥)
    by (inl same) rest = inl (subst (λ x. Contains (e ∷ ds) x) same (contains_first e ds))
    by (inr differs) (inl more) = inl (contains_later e d ds more)
    by (inr differs) (inr lacks) = inr (λ has. elim (contains_cases e d ds has) [
      | inl same ↦ differs same
      | inr more ↦ lacks more
    ])

-- a name of no function is that of none of the modules' functions
none_named : (xs : List m.Module) (h : Atom) (f : FunName) → is_member (all_functions xs) h f ≡ false → (k : ModuleFunction) → Contains (functions_of xs) k → k.home ≡ h → k.name ≡ f → ⊥
none_named xs h f none k has home name =
    let p = position_of (functions_of xs) k has in
    true≢false (sym (ap₂ (is_member (all_functions xs)) (sym home) (sym name) ∙ member_at (all_functions xs) p.0 (summarized k) (summarized_at xs p.0 k p.2)) ∙ none)

module _ (take : (outside : Callees) (gs : List Function) → AllTake gs (summaries outside gs))
    (xs : List m.Module) (accepted : AreAccepted xs) (apart : Distinct (module_names xs)) (graph : List (List ℕ)) (is : IsCallGraph xs graph) (c : Numbering) (r : IsReadyNumbering graph c) (around : Callees) where
  abbrev fs : List Function
  fs = all_functions xs

  abbrev first : Callees
  first = closed_over around (module_names xs)

  abbrev K : ℕ → Callees
  K n = after_components first fs c n

  abbrev gs : ℕ → List Function
  gs n = functions_in xs c n

  module _ (n : ℕ) (low : n < c.count) (fixed : Callees) (is_fixed : IsFixedFor around xs (members_of c n) fixed) where
    -- what is known by the part and the outputs of the components that it calls
    abbrev L : Callees
    L = laying.laid take xs accepted apart graph is c r around fixed (callees_of c n)

    -- a name of no function is known as what is fixed, and before the component as at first
    none_same : (h : Atom) (f : FunName) → is_member fs h f ≡ false → fixed h f ≡ first h f → L h f ≡ K n h f
    none_same h f none e =
        laying.laid_none take xs accepted apart graph is c r around (callees_of c n) fixed h f none
        ∙ e
        ∙ sym (stays_out first fs (whole.once xs accepted apart graph is c r) c (whole.members xs accepted apart graph is c r) (whole.within xs accepted apart graph is c r) h f none n)

    -- a function of a component that is called
    called_same : (j : ℕ) (k : Function) → slice_get fs j ≡ Some k → Contains (callees_of c n) (component_of_node c j) → L k.home k.name ≡ K n k.home k.name
    called_same j k at has =
        laying.laid_here take xs accepted apart graph is c r around j k at (callees_of c n) fixed has
        ∙ sym (stays_high first fs (whole.once xs accepted apart graph is c r) c (whole.members xs accepted apart graph is c r) (whole.within xs accepted apart graph is c r) j k at (slice_get_within fs j k at) n
        (r.kept.callees_below n (component_of_node c j) low has))

    -- a function that isn't exported gives a call by its names nothing, solved or not
    hidden_before : (j : ℕ) (k : Function) → slice_get fs j ≡ Some k → k.exported ≡ false → GivesNothing (K n k.home k.name)
    hidden_before j k at closed =
        elim (cases_lt (component_of_node c j) n) [
          | inl less ↦
              let solved = whole.callee_at xs accepted apart graph is c r around j k at (slice_get_within fs j k at) in
              subst GivesNothing (sym (whole.earlier_same xs accepted apart graph is c r around n j k at (slice_get_within fs j k at) less ∙ solved.1)) (local_gives_nothing k solved.0 closed)
          | inr high ↦
              subst GivesNothing
              (sym
              (stays_low first fs (whole.once xs accepted apart graph is c r) c (whole.members xs accepted apart graph is c r) (whole.within xs accepted apart graph is c r) j k at (slice_get_within fs j k at) n high
              ∙ closed_there around (module_names xs) k.home k.name (home_of_member xs k.home k.name (member_at fs j k at))))
              tt
        ]

    -- no module exports it
    hidden_nowhere : (j : ℕ) (k : Function) → slice_get fs j ≡ Some k → k.exported ≡ false → (g l : ModuleFunction) → Contains (functions_of xs) l → GoesTo g (remote k.home k.name) l → ⊥
    hidden_nowhere j k at closed g l has goes =
        let p = position_of (functions_of xs) l has in
        let same : p.0 ≡ j = one_position fs (whole.once xs accepted apart graph is c r) p.0 j (summarized l) k (summarized_at xs p.0 l p.2) at goes.0 goes.3 in
        let one : summarized l ≡ k = some_is (sym (summarized_at xs p.0 l p.2) ∙ ap (slice_get fs) same ∙ at) in
        let open_one : has_function l.exports l.name ≡ true = has_contained l.exports l.name (subst (λ x. Contains l.exports x) (sym goes.3) goes.2) in
        true≢false (sym open_one ∙ ap (λ (x : Function). x.exported) one ∙ closed)
      where
        some_is : {x y : Function} → Some x ≡ Some y → x ≡ y
        some_is e = cc

    module _ (i : ℕ) (g : Function) (has : Contains (members_of c n) i) (there : slice_get fs i ≡ Some g) where
      i_low : i < length fs
      i_low = whole.within xs accepted apart graph is c r n i has

      number_is : component_of_node c i ≡ n
      number_is = (whole.members xs accepted apart graph is c r n i i_low).0 has

      abbrev a : Source xs i g
      a = source_of xs i g there

      -- the target in the function's own body
      stands_in : (t : CallTarget) → Contains (targets [] g.body) t → Contains (targets [] a.source.body) t
      stands_in t stands = subst (λ (x : Function). Contains (targets [] x.body) t) (sym a.is) stands

      home_in : a.source.home ≡ g.home
      home_in = ap (λ (x : Function). x.home) a.is

      -- where a call goes, to the component itself or to one that it calls
      goes_same : (j : ℕ) (k : Function) (t : CallTarget) → slice_get fs j ≡ Some k → (l : ModuleFunction) → slice_get (functions_of xs) j ≡ Some l → Contains (targets [] g.body) t → GoesTo a.source t l
          → (is_member (gs n) k.home k.name ≡ true) ⊎ (L k.home k.name ≡ K n k.home k.name)
      goes_same j k t at l at_source stands goes = by (cases_eq (component_of_node c j) n)
        where
          leads : Leads graph i j
          leads = (is.pairs i j).1 (record { caller = a.source; callee = l; target = t; calling = a.there; called = at_source; stands = stands_in t stands; goes = goes })

          by : (component_of_node c j ≡ n) ⊎ (component_of_node c j ≡ n → ⊥) → (is_member (gs n) k.home k.name ≡ true) ⊎ (L k.home k.name ≡ K n k.home k.name)
          by (inl same) =
              inl (picked_member fs (members_of c n) j k ((whole.members xs accepted apart graph is c r n j (slice_get_within fs j k at)).1 same) at)
          by (inr differs) = inr (called_same j k at ((r.callees n (component_of_node c j) low).1 (differs, (i, j, number_is, leads, refl))))

      local_by : (f : FunName) (count : ℕ) → Contains (targets [] g.body) (defined f count) → Positioned fs g.home f ⊎ (is_member fs g.home f ≡ false) → AgreesBut (gs n) L (K n) g.home (defined f count)
      local_by f count stands (inr none) =
          inr (none_same g.home f none (subst (λ h. fixed h f ≡ first h f) home_in
          (is_fixed i a.source (defined f count) has a.there (stands_in (defined f count) stands)
          (λ l in_it goes. none_named xs g.home f none l in_it (goes.0 ∙ home_in) goes.1))))
      local_by f count stands (inl k) =
          let b = source_of xs k.position k.function k.there in
          let home : b.source.home ≡ a.source.home = ap (λ (x : Function). x.home) b.is ∙ sym k.home_is ∙ sym home_in in
          let name : b.source.name ≡ f = ap (λ (x : Function). x.name) b.is ∙ sym k.name_is in
          let at = goes_same k.position k.function (defined f count) k.there b.source b.there stands (home, name) in
          subst (λ h. (is_member (gs n) h f ≡ true) ⊎ (L h f ≡ K n h f)) (sym k.home_is)
          (subst (λ x. (is_member (gs n) k.function.home x ≡ true) ⊎ (L k.function.home x ≡ K n k.function.home x)) (sym k.name_is) at)

      not_erlang : (h : Atom) → same_atom h erlang ≡ false → h ≢ erlang
      not_erlang h far e = true≢false (sym (ap (same_atom h) (sym e) ∙ home_itself h) ∙ far)

      exported_call : (h : Atom) (f : FunName) → Contains (targets [] g.body) (remote h f) → same_atom h erlang ≡ false → (k : Positioned fs h f) → k.function.exported ≡ true
          → (is_member (gs n) k.function.home k.function.name ≡ true) ⊎ AreAlike (L k.function.home k.function.name) (K n k.function.home k.function.name)
      exported_call h f stands far k open_one =
          let b = source_of xs k.position k.function k.there in
          let home : b.source.home ≡ h = ap (λ (x : Function). x.home) b.is ∙ sym k.home_is in
          let name : b.source.name ≡ f = ap (λ (x : Function). x.name) b.is ∙ sym k.name_is in
          let open_name : has_function b.source.exports b.source.name ≡ true = ap (λ (x : Function). x.exported) b.is ∙ open_one in
          let exports : Contains b.source.exports f = contained_has b.source.exports f (subst (λ x. has_function b.source.exports x ≡ true) name open_name) in
          elim (goes_same k.position k.function (remote h f) k.there b.source b.there stands (home, not_erlang h far, exports, name)) [
            | inl member ↦ inl member
            | inr same ↦ inr (inl same)
          ]

      hidden_call : (j : ℕ) (k : Function) → slice_get fs j ≡ Some k → k.exported ≡ false → Contains (targets [] g.body) (remote k.home k.name) → same_atom k.home erlang ≡ false
          → (is_member (gs n) k.home k.name ≡ true) ⊎ AreAlike (L k.home k.name) (K n k.home k.name)
      hidden_call j k at closed stands far = inr (by (among (callees_of c n) (component_of_node c j)))
        where
          undefined : (Contains (callees_of c n) (component_of_node c j) → ⊥) → L k.home k.name ≡ Undefined
          undefined lacks =
              laying.laid_other take xs accepted apart graph is c r around j k at (callees_of c n) fixed lacks
              ∙ is_fixed i a.source (remote k.home k.name) has a.there (stands_in (remote k.home k.name) stands) (hidden_nowhere j k at closed a.source) (not_erlang k.home far)
              ∙ closed_there around (module_names xs) k.home k.name (home_of_member xs k.home k.name (member_at fs j k at))

          by : Contains (callees_of c n) (component_of_node c j) ⊎ (Contains (callees_of c n) (component_of_node c j) → ⊥) → AreAlike (L k.home k.name) (K n k.home k.name)
          by (inl calls) = inl (called_same j k at calls)
          by (inr lacks) = inr (subst GivesNothing (sym (undefined lacks)) tt, hidden_before j k at closed)

      remote_by : (h : Atom) (f : FunName) → Contains (targets [] g.body) (remote h f) → (b : Bool) → same_atom h erlang ≡ b → Positioned fs h f ⊎ (is_member fs h f ≡ false) → AgreesBut (gs n) L (K n) g.home (remote h f)
      remote_by h f stands true near k = inl near
      remote_by h f stands false far (inr none) =
          inr (inr (inl (none_same h f none
          (is_fixed i a.source (remote h f) has a.there (stands_in (remote h f) stands) (λ l in_it goes. none_named xs h f none l in_it goes.0 goes.3) (not_erlang h far)))))
      remote_by h f stands false far (inl k) =
          inr (subst (λ x. (is_member (gs n) x f ≡ true) ⊎ AreAlike (L x f) (K n x f)) (sym k.home_is)
          (subst (λ x. (is_member (gs n) k.function.home x ≡ true) ⊎ AreAlike (L k.function.home x) (K n k.function.home x)) (sym k.name_is)
          (by k.function.exported refl)))
        where
          by : (b : Bool) → k.function.exported ≡ b → (is_member (gs n) k.function.home k.function.name ≡ true) ⊎ AreAlike (L k.function.home k.function.name) (K n k.function.home k.function.name)
          by true open_one = exported_call h f stands far k open_one
          by false closed =
              hidden_call k.position k.function k.there closed
              (subst (λ y. Contains (targets [] g.body) (remote k.function.home y)) k.name_is (subst (λ y. Contains (targets [] g.body) (remote y f)) k.home_is stands))
              (ap (λ y. same_atom y erlang) (sym k.home_is) ∙ far)

      call_same : (t : CallTarget) → Contains (targets [] g.body) t → AgreesBut (gs n) L (K n) g.home t
      call_same (defined f count) stands = local_by f count stands (search_named fs g.home f)
      call_same (inner f count) stands = tt
      call_same (remote h f) stands = remote_by h f stands (same_atom h erlang) refl (search_named fs h f)

    all_same : AllBut (gs n) L (K n) (gs n)
    all_same =
        all_but (gs n) L (K n) (gs n)
        (each_picked (λ k. EachBut (gs n) L (K n) k.home (targets [] k.body)) fs (members_of c n)
        (λ i g has there. each_but (gs n) L (K n) g.home (targets [] g.body) (call_same i g has there)))

    pub component_same : summaries (with_inputs fixed (map (λ d. map listed (gs d)) (callees_of c n)) (laying.outputs take xs accepted apart graph is c r around (callees_of c n))) (gs n) ≡ summaries_of around xs c n
    component_same =
        ap (λ k. summaries k (gs n)) (laying.inputs_laid take xs accepted apart graph is c r around (callees_of c n) fixed)
        ∙ summaries_frame (gs n) L (K n) all_same
