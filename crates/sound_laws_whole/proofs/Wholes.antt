-- What is known of modules' functions in the end: each function has the summary that its component's rounds give by all that is known.
use Rattle.std.proofs.Common.{◌≡◌, ◌≢◌, ◌↔◌, ℕ, suc, ◌<◌, ◌≤◌, Bool, true, false, cond, ◌||◌, List, [], ◌∷◌, length, ◌⊎◌}
use Rattle.std.proofs.Common.{inl, inr, Option, Some, None, Contains, refl, sym, ap, ap₂, ◌∙◌, subst, true≢false, arith}
use Rattle.std.specs.Prelude.{slice_get, option_map, if◌then◌else◌}
use Rattle.std.specs.List.{list_any}
use Rattle.std.proofs.lemmas.Bool.{cases_lt}
use Rattle.std.proofs.Math.Bool.{or-true}
use Rattle.std.proofs.lemmas.List.{length-map}
use Rattle.std.proofs.lemmas.Option.{slice_get_within, slice_get-map}
use Rattle.core_scope.proofs.NameLaws.{contained_has}
use Rattle.type_kinds.proofs.Lists.{contains_none, contains_first, contains_later, contains_cases}
use Rattle.type_kinds.specs.declared.atom.Atom.{Atom}
use Rattle.core_ast.specs.declared.syntax.FunName.{FunName}
use Rattle.core_ast.specs.Model as m
use Rattle.core_scope.specs.Asks.{erlang}
use Rattle.core_scope.specs.Breaks.{export_breaks, module_breaks, new_functions, def_breaks}
use Rattle.core_scope.specs.Checked.{tree_of, is_accepted}
use Rattle.core_scope.specs.Names.{Distinct, defined_names, same_atom, has_function, module_scope}
use Rattle.core_scope.proofs.Unbroken.{open_three, module_defined_once, exports_stand}
use Rattle.call_graph.specs.Calls.{ModuleFunction, functions_of, GoesTo}
use Rattle.call_graph.specs.Targets.CallTarget.{defined, inner, remote}
use Rattle.call_graph.specs.Targets.{CallTarget, targets}
use Rattle.components.specs.Lists.{Ascending}
use Rattle.components.specs.Numbering.{Numbering, component_of_node, members_of}
use Rattle.components.specs.Ready.{IsReadyNumbering}
use Rattle.cons_tree.specs.Callees.{same_home}
use Rattle.cons_tree.specs.declared.parts.Callee.{Callee}
use Rattle.cons_tree.specs.declared.parts.Callee.TheVariants.{Known, Local, Undefined, Unknown}
use Rattle.cons_tree.specs.declared.parts.Summary.{Summary}
use Rattle.cons_tree.proofs.NameLaws.{home_is, home_itself}
use Rattle.comp_rounds.specs.Rounds.{Callees, Function, is_member, callee_of, summaries}
use Rattle.core_meaning.specs.Programs.{Program, module_named, Found, built_in, exported, hidden, outside, found_in, exports_in, is_exported}
use Rattle.sound_laws.specs.Accepted.{AreAccepted}
use Rattle.sound_laws.specs.Knowledge.{Allows, summary_of}
use Rattle.sound_laws_rounds.specs.Whole.{IsFunctionOf, AreFunctionsOf, AreKnown, IsWhole}
use Rattle.analysis_summaries.specs.Functions.{summarized, all_functions, picked}
use Rattle.analysis_summaries.specs.Known.{module_names, all_unknown, closed_over, after_components, known_over}
use Rattle.analysis_summaries.specs.Whole.{IsCallGraph}
use Rattle.cons_gen_frame.specs.Agreement.{GivesNothing, AreAlike}
use Rattle.sound_laws_whole.proofs.Components.{AgreesBut, EachBut, AllBut, summaries_frame, summaries_long}
use Rattle.sound_laws_whole.specs.Once.{NamedOnce}
use Rattle.sound_laws_whole.proofs.Named.{Each, each_at, Positioned, search_named, member_at, DefineOnce, home_of_member, all_once, InModules, all_in_modules, module_there, no_module}
use Rattle.sound_laws_whole.proofs.Tables.{picked_member, each_picked, each_of_picked, picked_once, laid_known, each_known, known_later, stays_out, stays_low, stays_high}

-- ---- accepted modules

pub accepted_once : (xs : List m.Module) → AreAccepted xs → DefineOnce xs
accepted_once [] h = tt
accepted_once (x ∷ xs) h =
    (subst (λ y. Distinct (defined_names y.defs)) h.0.1 (module_defined_once (tree_of h.0.0) (is_accepted h.0.0).sound), accepted_once xs h.1)

accepted_sound : (xs : List m.Module) → AreAccepted xs → (p : m.Module) → Contains xs p → module_breaks p ≡ []
accepted_sound [] h p has = absurd (contains_none p has)
accepted_sound (x ∷ xs) h p has =
    elim (contains_cases x p xs has) [
      | inl same ↦ subst (λ y. module_breaks y ≡ []) (h.0.1 ∙ same) (is_accepted h.0.0).sound
      | inr more ↦ accepted_sound xs h.1 p more
    ]

pub exports_defined : (p : m.Module) → module_breaks p ≡ [] → (f : FunName) → has_function p.exports f ≡ true → Contains (defined_names p.defs) f
exports_defined p sound f e =
    exports_stand (defined_names p.defs) p.exports p.export_places (open_three (new_functions [] p.defs) (export_breaks (defined_names p.defs) p.exports p.export_places) (def_breaks (module_scope p) p.defs) sound).1 f
    (contained_has p.exports f e)

-- ---- what is known before any component is solved

pub home_there : (hs : List Atom) (h : Atom) → Contains hs h → list_any (same_home h) hs ≡ true
home_there [] h has = absurd (contains_none h has)
home_there (k ∷ hs) h has =
    elim (contains_cases k h hs has) [
      | inl same ↦ ap (λ b. b || list_any (same_home h) hs) (subst (λ x. same_home h x ≡ true) (sym same) (home_itself h))
      | inr more ↦ ap (λ b. same_home h k || b) (home_there hs h more) ∙ or-true (same_home h k)
    ]

pub home_among : (hs : List Atom) (h : Atom) → list_any (same_home h) hs ≡ true → Contains hs h
home_among [] h e = absurd (true≢false (sym e))
home_among (k ∷ hs) h e = by (same_home h k) refl e (home_among hs h)
  where
    by : (b : Bool) → same_home h k ≡ b → (b || list_any (same_home h) hs) ≡ true → (list_any (same_home h) hs ≡ true → Contains hs h) → Contains (k ∷ hs) h
    by true is e later = subst (Contains (k ∷ hs)) (sym (home_is h k is)) (contains_first k hs)
    by false is e later = contains_later k h hs (later e)

pub home_lacks : (hs : List Atom) (h : Atom) → (Contains hs h → ⊥) → list_any (same_home h) hs ≡ false
home_lacks hs h lacks = by (list_any (same_home h) hs) refl
  where
    by : (b : Bool) → list_any (same_home h) hs ≡ b → list_any (same_home h) hs ≡ false
    by true e = absurd (lacks (home_among hs h e))
    by false e = e

pub closed_there : (around : Callees) (hs : List Atom) (h : Atom) (f : FunName) → Contains hs h → closed_over around hs h f ≡ Undefined
closed_there around hs h f has = ap (λ b. if b then Undefined else around h f) (home_there hs h has)

pub closed_outside : (around : Callees) (hs : List Atom) (h : Atom) (f : FunName) → (Contains hs h → ⊥) → closed_over around hs h f ≡ around h f
closed_outside around hs h f lacks = ap (λ b. if b then Undefined else around h f) (home_lacks hs h lacks)

unknown_cases : (hs : List Atom) (h : Atom) (f : FunName) → (closed_over all_unknown hs h f ≡ Undefined) ⊎ (closed_over all_unknown hs h f ≡ Unknown)
unknown_cases hs h f = by (list_any (same_home h) hs)
  where
    by : (b : Bool) → ((if b then Undefined else Unknown) ≡ Undefined) ⊎ ((if b then Undefined else Unknown) ≡ Unknown)
    by true = inl refl
    by false = inr refl

pub no_summary : (c : Callee) (s : Summary) → (c ≡ Undefined) ⊎ (c ≡ Unknown) → summary_of c ≡ Some s → ⊥
no_summary c s (inl e) k = let n : None ≡ Some s = sym (ap summary_of e) ∙ k in absurd cc
no_summary c s (inr e) k = let n : None ≡ Some s = sym (ap summary_of e) ∙ k in absurd cc

-- ---- the functions of a component

pub each_but : (gs : List Function) (c d : Callees) (home : Atom) (ts : List CallTarget) → ((t : CallTarget) → Contains ts t → AgreesBut gs c d home t) → EachBut gs c d home ts
each_but gs c d home [] h = tt
each_but gs c d home (t ∷ ts) h = (h t (contains_first t ts), each_but gs c d home ts (λ u has. h u (contains_later t u ts has)))

pub all_but : (gs : List Function) (c d : Callees) (ks : List Function) → Each (λ k. EachBut gs c d k.home (targets [] k.body)) ks → AllBut gs c d ks
all_but gs c d [] h = tt
all_but gs c d (k ∷ ks) h = (h.0, all_but gs c d ks h.1)

are_functions : (U : Program) (ks : List Function) → Each (IsFunctionOf U) ks → AreFunctionsOf U ks
are_functions U [] h = tt
are_functions U (k ∷ ks) h = (h.0, are_functions U ks h.1)

pub local_gives_nothing : (g : Function) (s : Summary) → g.exported ≡ false → GivesNothing (callee_of g s)
local_gives_nothing g s e = subst (λ b. GivesNothing (cond b (Known s) (Local s))) (sym e) tt

-- a function's own position among all, as one of its module
pub record Source (xs : List m.Module) (i : ℕ) (g : Function) : Type 0 where
  pub source : ModuleFunction
  pub there : slice_get (functions_of xs) i ≡ Some source
  pub is : summarized source ≡ g

pub source_of : (xs : List m.Module) (i : ℕ) (g : Function) → slice_get (all_functions xs) i ≡ Some g → Source xs i g
source_of xs i g e = by (slice_get (functions_of xs) i) refl (sym (slice_get-map summarized (functions_of xs) i) ∙ e)
  where
    by : (o : Option ModuleFunction) → slice_get (functions_of xs) i ≡ o → option_map summarized o ≡ Some g → Source xs i g
    by None there k = absurd cc
    by (Some x) there k = let same : summarized x ≡ g = some_is k in record { source = x; there = there; is = same }
      where
        some_is : Some (summarized x) ≡ Some g → summarized x ≡ g
        some_is e = cc

pub summarized_at : (xs : List m.Module) (i : ℕ) (g : ModuleFunction) → slice_get (functions_of xs) i ≡ Some g → slice_get (all_functions xs) i ≡ Some (summarized g)
summarized_at xs i g e = slice_get-map summarized (functions_of xs) i ∙ ap (option_map summarized) e

module _ (xs : List m.Module) (accepted : AreAccepted xs) (apart : Distinct (module_names xs)) (graph : List (List ℕ)) (is : IsCallGraph xs graph) (c : Numbering) (r : IsReadyNumbering graph c) where
  abbrev fs : List Function
  fs = all_functions xs

  abbrev gs : ℕ → List Function
  gs n = picked fs (members_of c n)

  pub once : NamedOnce fs
  once = all_once xs apart (accepted_once xs accepted)

  pub counted : length fs ≡ length graph
  counted = length-map (functions_of xs) summarized ∙ sym is.counted

  pub members : (n i : ℕ) → i < length fs → Contains (members_of c n) i ↔ (component_of_node c i ≡ n)
  members n i low = (
    (λ has. ((r.members n i).0 has).1),
    (λ e. (r.members n i).1 (omega (arith, counted), e)),
  )

  pub within : (n i : ℕ) → Contains (members_of c n) i → i < length fs
  within n i has = let low = ((r.members n i).0 has).0 in omega (arith, counted)

  pub number_low : (i : ℕ) → i < length fs → component_of_node c i < c.count
  number_low i low = r.nodes.1 i (omega (arith, counted))

  pub own_member : (i : ℕ) → i < length fs → Contains (members_of c (component_of_node c i)) i
  own_member i low = (members (component_of_node c i) i low).1 refl

  pub ascending : (n : ℕ) → n < c.count → Ascending (members_of c n)
  ascending n low = r.kept.members_sorted n low

  -- a call leads to the same component or to one before it
  pub call_down : (i j : ℕ) (f g : ModuleFunction) (t : CallTarget) → slice_get (functions_of xs) i ≡ Some f → slice_get (functions_of xs) j ≡ Some g → Contains (targets [] f.body) t → GoesTo f t g
      → component_of_node c j ≤ component_of_node c i
  call_down i j f g t a b stands goes =
      r.downward i j ((is.pairs i j).1 (record { caller = f; callee = g; target = t; calling = a; called = b; stands = stands; goes = goes }))

  -- ---- over what stands of others

  module _ (around : Callees) where
    abbrev first : Callees
    first = closed_over around (module_names xs)

    abbrev K : ℕ → Callees
    K n = after_components first fs c n

    abbrev All : Callees
    All = known_over around xs c

    -- ---- what is known of a function in the end

    pub in_end : (i : ℕ) (g : Function) → slice_get fs i ≡ Some g → i < length fs → All g.home g.name ≡ K (suc (component_of_node c i)) g.home g.name
    in_end i g there low = stays_high first fs once c members within i g there low c.count (number_low i low)

    pub known_then : (n : ℕ) → n < c.count → AreKnown (K (suc n)) (gs n) (summaries (K n) (gs n))
    known_then n low = laid_known (gs n) (summaries (K n) (gs n)) (K n) (picked_once fs once (members_of c n) (ascending n low)) (summaries_long (gs n) (K n) (K n))

    pub callee_at : (i : ℕ) (g : Function) → slice_get fs i ≡ Some g → i < length fs → (s : Summary) × (All g.home g.name ≡ callee_of g s)
    callee_at i g there low =
        let n = component_of_node c i in
        let k = each_of_picked (λ g. (s : Summary) × (K (suc n) g.home g.name ≡ callee_of g s)) fs (members_of c n)
        (each_known (K (suc n)) (gs n) (summaries (K n) (gs n)) (known_then n (number_low i low))) i g (own_member i low) there in
        (k.0, in_end i g there low ∙ k.1)

    pub out_same : (n : ℕ) (h : Atom) (f : FunName) → is_member fs h f ≡ false → K n h f ≡ All h f
    out_same n h f none = stays_out first fs once c members within h f none n ∙ sym (stays_out first fs once c members within h f none c.count)

    -- a function of an earlier component is known as in the end
    pub earlier_same : (n j : ℕ) (k : Function) → slice_get fs j ≡ Some k → j < length fs → component_of_node c j < n → K n k.home k.name ≡ All k.home k.name
    earlier_same n j k at j_low less =
        stays_high first fs once c members within j k at j_low n less ∙ sym (in_end j k at j_low)

    -- a function that isn't exported gives a call by its names nothing, solved or not
    pub hidden_alike : (n j : ℕ) (k : Function) → slice_get fs j ≡ Some k → j < length fs → k.exported ≡ false → AreAlike (K n k.home k.name) (All k.home k.name)
    hidden_alike n j k at j_low closed =
        elim (cases_lt (component_of_node c j) n) [
          | inl less ↦ inl (earlier_same n j k at j_low less)
          | inr high ↦
              let undefined : K n k.home k.name ≡ Undefined =
              stays_low first fs once c members within j k at j_low n high
              ∙ closed_there around (module_names xs) k.home k.name (home_of_member xs k.home k.name (member_at fs j k at)) in
              let solved = callee_at j k at j_low in
              inr (subst GivesNothing (sym undefined) tt, subst GivesNothing (sym solved.1) (local_gives_nothing k solved.0 closed))
        ]

    -- a component and what is known before it, where its functions are known by this in the end
    module _ (n : ℕ) (low : n < c.count) where
      module _ (i : ℕ) (g : Function) (has : Contains (members_of c n) i) (there : slice_get fs i ≡ Some g) where
        i_low : i < length fs
        i_low = within n i has

        number_is : component_of_node c i ≡ n
        number_is = (members n i i_low).0 has

        later_same : All g.home g.name ≡ K (suc n) g.home g.name
        later_same = in_end i g there i_low ∙ ap (λ k. K (suc k) g.home g.name) number_is

        -- where a call goes to a function that its component or an earlier one has
        goes_down : (j : ℕ) (k : Function) → slice_get fs j ≡ Some k → j < length fs → component_of_node c j ≤ component_of_node c i
            → (is_member (gs n) k.home k.name ≡ true) ⊎ (K n k.home k.name ≡ All k.home k.name)
        goes_down j k at j_low down =
            elim (cases_lt (component_of_node c j) n) [
              | inl less ↦ inr (earlier_same n j k at j_low less)
              | inr high ↦ inl (picked_member fs (members_of c n) j k (let same : component_of_node c j ≡ n = omega (arith, number_is) in (members n j j_low).1 same) at)
            ]

        local_by : (f : FunName) (count : ℕ) → Contains (targets [] g.body) (defined f count) → Positioned fs g.home f ⊎ (is_member fs g.home f ≡ false) → AgreesBut (gs n) (K n) All g.home (defined f count)
        local_by f count stands (inr none) = inr (out_same n g.home f none)
        local_by f count stands (inl k) =
            let a = source_of xs i g there in
            let b = source_of xs k.position k.function k.there in
            let stands_there : Contains (targets [] a.source.body) (defined f count) = subst (λ (x : Function). Contains (targets [] x.body) (defined f count)) (sym a.is) stands in
            let home : b.source.home ≡ a.source.home = ap (λ (x : Function). x.home) b.is ∙ sym k.home_is ∙ ap (λ (x : Function). x.home) (sym a.is) in
            let name : b.source.name ≡ f = ap (λ (x : Function). x.name) b.is ∙ sym k.name_is in
            let down = call_down i k.position a.source b.source (defined f count) a.there b.there stands_there (home, name) in
            let at = goes_down k.position k.function k.there (slice_get_within fs k.position k.function k.there) down in
            subst (λ h. (is_member (gs n) h f ≡ true) ⊎ (K n h f ≡ All h f)) (sym k.home_is)
            (subst (λ x. (is_member (gs n) k.function.home x ≡ true) ⊎ (K n k.function.home x ≡ All k.function.home x)) (sym k.name_is) at)

        exported_call : (h : Atom) (f : FunName) → Contains (targets [] g.body) (remote h f) → same_atom h erlang ≡ false → (k : Positioned fs h f) → k.function.exported ≡ true
            → (is_member (gs n) k.function.home k.function.name ≡ true) ⊎ AreAlike (K n k.function.home k.function.name) (All k.function.home k.function.name)
        exported_call h f stands far k open_one =
            let a = source_of xs i g there in
            let b = source_of xs k.position k.function k.there in
            let stands_there : Contains (targets [] a.source.body) (remote h f) = subst (λ (x : Function). Contains (targets [] x.body) (remote h f)) (sym a.is) stands in
            let home : b.source.home ≡ h = ap (λ (x : Function). x.home) b.is ∙ sym k.home_is in
            let name : b.source.name ≡ f = ap (λ (x : Function). x.name) b.is ∙ sym k.name_is in
            let not_erlang : h ≢ erlang = (λ e. absurd (true≢false (sym (ap (same_atom h) (sym e) ∙ home_itself h) ∙ far))) in
            let open_name : has_function b.source.exports b.source.name ≡ true = ap (λ (x : Function). x.exported) b.is ∙ open_one in
            let exports : Contains b.source.exports f = contained_has b.source.exports f (subst (λ x. has_function b.source.exports x ≡ true) name open_name) in
            let down = call_down i k.position a.source b.source (remote h f) a.there b.there stands_there (home, not_erlang, exports, name) in
            elim (goes_down k.position k.function k.there (slice_get_within fs k.position k.function k.there) down) [
              | inl member ↦ inl member
              | inr same ↦ inr (inl same)
            ]

        remote_by : (h : Atom) (f : FunName) → Contains (targets [] g.body) (remote h f) → (b : Bool) → same_atom h erlang ≡ b → Positioned fs h f ⊎ (is_member fs h f ≡ false) → AgreesBut (gs n) (K n) All g.home (remote h f)
        remote_by h f stands true near k = inl near
        remote_by h f stands false far (inr none) = inr (inr (inl (out_same n h f none)))
        remote_by h f stands false far (inl k) =
            inr (subst (λ x. (is_member (gs n) x f ≡ true) ⊎ AreAlike (K n x f) (All x f)) (sym k.home_is)
            (subst (λ x. (is_member (gs n) k.function.home x ≡ true) ⊎ AreAlike (K n k.function.home x) (All k.function.home x)) (sym k.name_is)
            (by k.function.exported refl)))
          where
            by : (b : Bool) → k.function.exported ≡ b → (is_member (gs n) k.function.home k.function.name ≡ true) ⊎ AreAlike (K n k.function.home k.function.name) (All k.function.home k.function.name)
            by true open_one = exported_call h f stands far k open_one
            by false closed = inr (hidden_alike n k.position k.function k.there (slice_get_within fs k.position k.function k.there) closed)

        call_but : (t : CallTarget) → Contains (targets [] g.body) t → AgreesBut (gs n) (K n) All g.home t
        call_but (defined f count) stands = local_by f count stands (search_named fs g.home f)
        call_but (inner f count) stands = tt
        call_but (remote h f) stands = remote_by h f stands (same_atom h erlang) refl (search_named fs h f)

      pub component_but : AllBut (gs n) (K n) All (gs n)
      component_but =
          all_but (gs n) (K n) All (gs n)
          (each_picked (λ k. EachBut (gs n) (K n) All k.home (targets [] k.body)) fs (members_of c n)
          (λ i g has there. each_but (gs n) (K n) All g.home (targets [] g.body) (call_but i g has there)))

      pub known_in_end : AreKnown All (gs n) (summaries All (gs n))
      known_in_end =
          subst (AreKnown All (gs n)) (summaries_frame (gs n) (K n) All component_but)
          (known_later (K (suc n)) All (gs n) (summaries (K n) (gs n))
          (each_picked (λ g. All g.home g.name ≡ K (suc n) g.home g.name) fs (members_of c n) later_same) (known_then n low))

      pub functions_there : AreFunctionsOf xs (gs n)
      functions_there =
          are_functions xs (gs n)
          (each_picked (IsFunctionOf xs) fs (members_of c n) (λ i g has there. (each_at (InModules xs) fs i g (all_in_modules xs apart (accepted_once xs accepted)) there).is))

  -- ---- where nothing stands of others

  abbrev End : Callees
  End = known_over all_unknown xs c

  -- the component of each name
  abbrev component_by : (h : Atom) (f : FunName) → Positioned fs h f ⊎ (is_member fs h f ≡ false) → List Function
  component_by h f (inl k) = gs (component_of_node c k.position)
  component_by h f (inr none) = []

  position_low : (h : Atom) (f : FunName) (k : Positioned fs h f) → component_of_node c k.position < c.count
  position_low h f k = number_low k.position (slice_get_within fs k.position k.function k.there)

  functions_by : (h : Atom) (f : FunName) (o : Positioned fs h f ⊎ (is_member fs h f ≡ false)) → AreFunctionsOf xs (component_by h f o)
  functions_by h f (inl k) = functions_there all_unknown (component_of_node c k.position) (position_low h f k)
  functions_by h f (inr none) = tt

  known_by_position : (h : Atom) (f : FunName) (o : Positioned fs h f ⊎ (is_member fs h f ≡ false)) → AreKnown End (component_by h f o) (summaries End (component_by h f o))
  known_by_position h f (inl k) = known_in_end all_unknown (component_of_node c k.position) (position_low h f k)
  known_by_position h f (inr none) = tt

  member_by : (h : Atom) (f : FunName) (s : Summary) (o : Positioned fs h f ⊎ (is_member fs h f ≡ false)) → summary_of (End h f) ≡ Some s → is_member (component_by h f o) h f ≡ true
  member_by h f s (inl k) e =
      ap₂ (is_member (gs (component_of_node c k.position))) k.home_is k.name_is
      ∙ picked_member fs (members_of c (component_of_node c k.position)) k.position k.function (own_member k.position (slice_get_within fs k.position k.function k.there)) k.there
  member_by h f s (inr none) e = absurd (no_summary (End h f) s (by (unknown_cases (module_names xs) h f)) e)
    where
      out : End h f ≡ closed_over all_unknown (module_names xs) h f
      out = stays_out (closed_over all_unknown (module_names xs)) fs once c members within h f none c.count

      by : (closed_over all_unknown (module_names xs) h f ≡ Undefined) ⊎ (closed_over all_unknown (module_names xs) h f ≡ Unknown) → (End h f ≡ Undefined) ⊎ (End h f ≡ Unknown)
      by (inl a) = inl (out ∙ a)
      by (inr a) = inr (out ∙ a)

  -- ---- what a call finds

  allows_if : (b : Bool) (x : Found) (y : Callee) → (b ≡ false → Allows x y) → Allows (if b then built_in else x) y
  allows_if true x y h = tt
  allows_if false x y h = h refl

  allows_exported : (b : Bool) (y : Callee) → (b ≡ true → Allows exported y) → Allows (if b then exported else hidden) y
  allows_exported true y h = h refl
  allows_exported false y h = tt

  known_allows : (g : Function) (s : Summary) → g.exported ≡ true → Allows exported (callee_of g s)
  known_allows g s e = subst (λ b. Allows exported (cond b (Known s) (Local s))) (sym e) tt

  outside_unknown : (h : Atom) (f : FunName) → module_named xs h ≡ None → End h f ≡ Unknown
  outside_unknown h f none = by (search_named fs h f)
    where
      by : Positioned fs h f ⊎ (is_member fs h f ≡ false) → End h f ≡ Unknown
      by (inl k) =
          absurd (no_module xs h none (home_of_member xs h f (ap₂ (is_member fs) k.home_is k.name_is ∙ member_at fs k.position k.function k.there)))
      by (inr out) = stays_out (closed_over all_unknown (module_names xs)) fs once c members within h f out c.count ∙ closed_outside all_unknown (module_names xs) h f (no_module xs h none)

  exported_known : (h : Atom) (f : FunName) (p : m.Module) → module_named xs h ≡ Some p → has_function p.exports f ≡ true → Allows exported (End h f)
  exported_known h f p named open_one = by (search_named fs h f)
    where
      by : Positioned fs h f ⊎ (is_member fs h f ≡ false) → Allows exported (End h f)
      by (inr out) =
          let there = module_there xs h p named in
          absurd (true≢false (sym (there.member f (exports_defined p (accepted_sound xs accepted p there.there) f open_one)) ∙ out))
      by (inl k) =
          let function = each_at (InModules xs) fs k.position k.function (all_in_modules xs apart (accepted_once xs accepted)) k.there in
          let open_there : k.function.exported ≡ true =
          function.is.exported ∙ sym (ap₂ (is_exported xs) k.home_is k.name_is) ∙ ap (λ o. exports_in o f) named ∙ open_one in
          let solved = callee_at all_unknown k.position k.function k.there (slice_get_within fs k.position k.function k.there) in
          let at : End h f ≡ callee_of k.function solved.0 = ap₂ End k.home_is k.name_is ∙ solved.1 in
          subst (Allows exported) (sym at) (known_allows k.function solved.0 open_there)

  honest_in : (h : Atom) (f : FunName) (o : Option m.Module) → module_named xs h ≡ o → Allows (found_in o f) (End h f)
  honest_in h f None named = subst (Allows outside) (sym (outside_unknown h f named)) tt
  honest_in h f (Some p) named = allows_exported (has_function p.exports f) (End h f) (exported_known h f p named)

  pub is_whole : IsWhole xs End
  is_whole = record {
    honest = λ h f. allows_if (same_atom h erlang) (found_in (module_named xs h) f) (End h f) (λ far. honest_in h f (module_named xs h) refl);
    component = λ h f. component_by h f (search_named fs h f);
    functions = λ h f. functions_by h f (search_named fs h f);
    known = λ h f. known_by_position h f (search_named fs h f);
    member = λ h f s e. member_by h f s (search_named fs h f) e;
  }
