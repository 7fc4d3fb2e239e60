-- What is known of the modules of a program group by group, each over what stands of the others, is known over all that is known: so
-- it is whole, and the results stand by it. And it is what is known where all modules are analysed together.
use Rattle.std.proofs.Common.{◌≡◌, ◌≢◌, ℕ, zero, suc, ◌<◌, ◌≤◌, Bool, true, false, cond, List, [], Contains, ◌⊎◌, inl, inr, refl, sym, ap, ◌∙◌, subst, true≢false, arith}
use Rattle.std.proofs.lemmas.Bool.{cases_lt}
use Rattle.type_kinds.specs.declared.atom.Atom.{Atom}
use Rattle.core_ast.specs.declared.syntax.FunName.{FunName}
use Rattle.core_ast.specs.Model as m
use Rattle.core_scope.specs.Asks.{erlang}
use Rattle.core_scope.specs.Names.{has_function}
use Rattle.call_graph.specs.Outside.{Called}
use Rattle.call_graph.specs.Targets.CallTarget.{remote}
use Rattle.call_graph.specs.Targets.{targets}
use Rattle.cons_tree.specs.declared.parts.Callee.TheVariants.{Unknown}
use Rattle.comp_rounds.specs.Rounds.{Callees, Function}
use Rattle.analysis_summaries.specs.Functions.{all_functions}
use Rattle.analysis_summaries.specs.Known.{all_unknown}
use Rattle.cons_gen_frame.specs.Agreement.{AreAlike}
use Rattle.module_flow_frame.specs.Frame.{FindingsFrame}
use Rattle.sound_laws_rounds.specs.Whole.{IsWhole}
use Rattle.sound_laws_outside.specs.Over.{is_home, IsKnownOver}
use Rattle.sound_laws_outside.specs.Laws.{AgreeOutside, CarriedLaw, OneLaw, PartsLaw, RestsLaw}
use Rattle.sound_laws_outside.proofs.Members.{of_all, home_of}
use Rattle.table_keep.specs.Model.{Source, trees, source_of, is_there, is_in, picked}
use Rattle.table_keep.specs.Calls.{called_functions}
use Rattle.table_keep.specs.Groups.{Groups, IsGroups, has, group_of}
use Rattle.table_keep.specs.Kept.{Standing, Results, is_candidate, calls_of, callee_among}
use Rattle.table_keep.specs.Made.{exported, IsKnown}
use Rattle.sound_laws_kept.specs.Solving.{IsResult, IsSolved, AreSources}
use Rattle.sound_laws_kept.proofs.Names.{clash, some_is, contained_in, picked_there, are_picked}
use Rattle.sound_laws_kept.proofs.Graphs as graphs
use Rattle.sound_laws_kept.proofs.Graphs.{in_own_group, member_number}
use Rattle.sound_laws_kept.proofs.Solving.{IsPart}
use Rattle.sound_laws_kept.proofs.Scratch.{IsSolution, node_of, calls_home}
use Rattle.sound_laws_kept.proofs.Calls.{leaves, exports_same}
use Rattle.sound_laws_kept.proofs.Trees.{tree_stands, source_of_tree, own_source, under, picked_stands, home_of_sources}
use Rattle.sound_laws_kept.proofs.Shown.{target_of_body, shown_alike, these_are_known}
use Rattle.sound_laws_kept.proofs.Linking as linking
use Rattle.sound_laws_kept.proofs.Wholes as wholes
use Rattle.sound_laws_kept.proofs.Wholes.{IsPlaced, IsBeyond}

module _ (carried : CarriedLaw) (one_known : OneLaw) (frame : FindingsFrame) (U : List Source) (are : AreSources U) (n : Groups)
    (of_n : IsGroups (is_candidate [] U) (calls_of [] U) n) (N : Standing) (R : Results) (solution : IsSolution IsSolved U n N R) where
  -- the sources of a name's group
  abbrev sources : Atom → List Source
  sources h = picked (has (group_of n h)) U

  are_group : (h : Atom) → AreSources (sources h)
  are_group h = are_picked (has (group_of n h)) U are

  group_there : (h : Atom) (s : Source) → Contains (sources h) s → Contains U s
  group_there h s has_s = (picked_stands (has (group_of n h)) U s has_s).1

  group_here : (h : Atom) → is_in U h ≡ true → is_in (sources h) h ≡ true
  group_here h e = ap is_there (picked_there (has (group_of n h)) U h (in_own_group (is_candidate [] U) (calls_of [] U) n of_n h (node_of U h e))) ∙ e

  -- what is known where the group of a name is solved
  known_by : (h : Atom) (b : Bool) → is_in U h ≡ b → Callees
  known_by h true e = (solution.solved h e).known
  known_by h false e = N

  abbrev known_at : Atom → Callees
  known_at h = known_by h (is_in U h) refl

  known_so : (h : Atom) (b : Bool) (e : is_in U h ≡ b) → b ≡ true → IsKnownOver N (trees (sources h)) (known_by h b e)
  unfolding known_by
  known_so h true e is = (solution.solved h e).known_so
  known_so h false e is = absurd (true≢false (sym is))

  result_so : (h : Atom) (b : Bool) (e : is_in U h ≡ b) → b ≡ true → (s : Source) → Contains (sources h) s → IsResult (known_by h b e) s.tree (R s.tree.name)
  unfolding known_by
  result_so h true e is = (solution.solved h e).results
  result_so h false e is = absurd (true≢false (sym is))

  group_so : (h : Atom) → is_in U h ≡ true → IsKnownOver N (trees (sources h)) (known_at h)
  group_so h e = known_so h (is_in U h) refl e

  group_results : (h : Atom) → is_in U h ≡ true → (s : Source) → Contains (sources h) s → IsResult (known_at h) s.tree (R s.tree.name)
  group_results h e = result_so h (is_in U h) refl e

  -- of one group one thing is known
  one_at : (h : Atom) → is_in U h ≡ true → (s : Source) → Contains (sources h) s → known_at s.tree.name ≡ known_at h
  one_at h e s has_s =
      let number = member_number (is_candidate [] U) (calls_of [] U) n of_n (n.number h) s.tree.name (picked_stands (has (group_of n h)) U s has_s).0 in
      one_known (trees (sources h)) N (known_at s.tree.name) (known_at h)
      (subst (λ k. IsKnownOver N (trees (picked (has (n.members k)) U)) (known_at s.tree.name)) number (group_so s.tree.name (contained_in U s (group_there h s has_s))))
      (group_so h e)

  -- what is known of all functions: of each module's what is known where its group is solved
  pub all_known : Callees
  all_known h f = cond (is_in U h) (known_at h h f) Unknown

  all_there : (h : Atom) (f : FunName) → is_in U h ≡ true → all_known h f ≡ known_at h h f
  unfolding all_known
  all_there h f e = ap (λ b. cond b (known_at h h f) Unknown) e

  all_beyond : (h : Atom) (f : FunName) → is_in U h ≡ false → all_known h f ≡ Unknown
  unfolding all_known
  all_beyond h f e = ap (λ b. cond b (known_at h h f) Unknown) e

  -- it is, to a call, what stands
  all_alike : (h : Atom) (f : FunName) → AreAlike (N h f) (all_known h f)
  all_alike h f = by (is_in U h) refl
    where
      by : (b : Bool) → is_in U h ≡ b → AreAlike (N h f) (all_known h f)
      by false e = inl (solution.outside h f e ∙ sym (all_beyond h f e))
      by true e =
          let xs = sources h in
          let u = under xs h (group_here h e) in
          let shown = shown_alike (trees xs) (are_group h).distinct N (known_at h) (group_so h e) u.source.tree (tree_stands xs u.source u.there) (R u.source.tree.name).exports (group_results h e u.source u.there).exports f in
          subst (AreAlike (N h f)) (sym (all_there h f e))
          (subst (λ z. AreAlike z (known_at h h f)) (sym (solution.inside h f e))
          (subst (λ z. AreAlike (callee_among (R z).exports f) (known_at h z f)) u.name_is shown))

  module _ (h : Atom) (e : is_in U h ≡ true) where
    abbrev xs : List Source
    xs = sources h

    group_alike : (s : Source) (c : Called) → Contains xs s → Contains (called_functions s.tree) c → is_in xs c.0 ≡ false → AreAlike (N c.0 c.1) (all_known c.0 c.1)
    group_alike s c has_s call out = all_alike c.0 c.1

    abbrev moved : Callees
    moved = linking.moved carried frame xs xs (are_group h) (are_group h) (λ k. refl) N all_known (known_at h) (group_so h e) group_alike

    in_group : (k : Atom) (f : FunName) → is_in xs k ≡ true → known_at h k f ≡ all_known k f
    in_group k f there =
        let u = under xs k there in
        let in_u = subst (λ z. is_in U z ≡ true) u.name_is (contained_in U u.source (group_there h u.source u.there)) in
        let same : known_at k ≡ known_at h = ap known_at (sym u.name_is) ∙ one_at h e u.source u.there in
        ap (λ c. c k f) (sym same) ∙ sym (all_there k f in_u)

    moved_is : moved ≡ all_known
    moved_is = λ i k f. by k f (is_in xs k) refl i
      where
        by : (k : Atom) (f : FunName) (b : Bool) → is_in xs k ≡ b → moved k f ≡ all_known k f
        by k f true there = ap (λ b. cond b (known_at h k f) (all_known k f)) there ∙ in_group k f there
        by k f false out = ap (λ b. cond b (known_at h k f) (all_known k f)) out

    group_known : IsKnownOver all_known (trees xs) all_known
    group_known =
        subst (IsKnownOver all_known (trees xs)) moved_is
        (linking.is_moved carried frame xs xs (are_group h) (are_group h) (λ k. refl) N all_known (known_at h) (group_so h e) group_alike)

    group_result : (s : Source) → Contains xs s → IsResult all_known s.tree (R s.tree.name)
    group_result s has_s =
        subst (λ k. IsResult k s.tree (R s.tree.name)) moved_is
        (linking.moved_result carried frame xs xs (are_group h) (are_group h) (λ k. refl) N all_known (known_at h) (group_so h e) group_alike s has_s (R s.tree.name) (group_results h e s has_s))

    placed : IsPlaced (trees U) all_known h
    placed = record {
      part = trees xs;
      there = λ x has_x. (let r = source_of_tree xs x has_x in subst (Contains (trees U)) r.is (tree_stands U r.source (group_there h r.source r.there)));
      here = home_of_sources xs h ∙ group_here h e;
      known_so = group_known;
      open_known = λ x has_x f open_one. (let r = source_of_tree xs x has_x in
          subst (λ (z : m.Module). has_function z.exports f ≡ true → IsKnown (all_known z.name f)) r.is
          (λ o. these_are_known all_known r.source.tree.name (exported r.source.tree) (R r.source.tree.name).exports (group_result r.source r.there).exports f (exports_same r.source.tree f ∙ o)) open_one);
    }

  place_of : (h : Atom) → IsBeyond (trees U) all_known h ⊎ IsPlaced (trees U) all_known h
  place_of h = by (is_in U h) refl
    where
      by : (b : Bool) → is_in U h ≡ b → IsBeyond (trees U) all_known h ⊎ IsPlaced (trees U) all_known h
      by true e = inr (placed h e)
      by false e = inl (home_of_sources U h ∙ e, λ f. all_beyond h f e)

  pub all_whole : IsWhole (trees U) all_known
  all_whole = wholes.is_whole (trees U) are.accepted are.distinct all_known place_of

  pub all_results : (s : Source) → Contains U s → IsResult all_known s.tree (R s.tree.name)
  all_results s has_s =
      let e = contained_in U s has_s in
      let u = under (sources s.tree.name) s.tree.name (group_here s.tree.name e) in
      let in_u = group_there s.tree.name u.source u.there in
      let same : u.source ≡ s = some_is (sym (own_source U are.distinct u.source in_u) ∙ ap (source_of U) u.name_is ∙ own_source U are.distinct s has_s) in
      subst (λ (z : Source). IsResult all_known z.tree (R z.tree.name)) same (group_result s.tree.name e u.source u.there)

  -- ---- what is known where all modules are analysed together is the same

  module _ (of_parts : PartsLaw) (rests : RestsLaw) (known : Callees) (is : IsKnownOver all_unknown (trees U) known) where
    group_is_part : (h : Atom) → IsPart U (has (group_of n h))
    group_is_part h a b in_group_a in_a in_b together =
        let node_a = node_of U a in_a in
        let node_b = node_of U b in_b in
        let over = graphs.together_over (is_in U) (calls_of [] U) (is_candidate [] U) (calls_of [] U) (node_of U) (λ x e. refl) a b together in
        let number : n.number a ≡ n.number b = (of_n.together a b node_a node_b).1 over in
        (of_n.members (n.number h) b).1 (node_b, sym number ∙ member_number (is_candidate [] U) (calls_of [] U) n of_n (n.number h) a in_group_a)

    group_of_all : (h : Atom) → IsKnownOver known (trees (sources h)) known
    group_of_all h = of_parts (trees U) (trees (sources h)) all_unknown known are.distinct (linking.part_is U are (has (group_of n h)) (group_is_part h)) is

    -- a module that a group calls outside of itself is of a group before it
    goes_before : (h : Atom) (g : Function) (c : Atom) (f : FunName) → Contains (all_functions (trees (sources h))) g → Contains (targets [] g.body) (remote c f) → c ≢ erlang
        → is_home (trees (sources h)) c ≡ false → is_in U c ≡ true → n.number c < n.number h
    goes_before h g c f there stands far out in_c =
        let r = of_all (trees (sources h)) g there in
        let s = source_of_tree (sources h) r.source r.there in
        let y = s.source.tree.name in
        let in_u = group_there h s.source s.there in
        let away = λ (e : c ≡ r.source.name). clash (is_home (trees (sources h)) c) (ap (is_home (trees (sources h))) e ∙ home_of (trees (sources h)) r.source r.there) out in
        let call = leaves r.source c f (target_of_body r.source g r.in_it (remote c f) stands) far away in
        let called = calls_home U y s.source (c, f) (own_source U are.distinct s.source in_u) (subst (λ z. Contains (called_functions z) (c, f)) (sym s.is) call) in
        let low : n.number c ≤ n.number y = of_n.downward y c (node_of U y (contained_in U s.source in_u), node_of U c in_c, called) in
        let number : n.number y ≡ n.number h =
        member_number (is_candidate [] U) (calls_of [] U) n of_n (n.number h) y (picked_stands (has (group_of n h)) U s.source s.there).0 in
        let apart : n.number c ≡ n.number h → ⊥ = λ e.
        clash (is_in U c) in_c
        (sym (ap is_there (picked_there (has (group_of n h)) U c ((of_n.members (n.number h) c).1 (node_of U c in_c, e))))
        ∙ sym (home_of_sources (sources h) c) ∙ out) in
        elim (cases_lt (n.number c) (n.number h)) [
          | inl less ↦ less
          | inr high ↦ (let e : n.number c ≡ n.number h = omega (arith, low, number, high) in absurd (apart e))
        ]

    -- so what stands of a function that a group calls outside of itself is, to a call, what is known of it, where that is the same so far
    alike_before : (h : Atom) → ((c : Atom) → is_in U c ≡ true → n.number c < n.number h → (f : FunName) → known_at c c f ≡ known c f) → AgreeOutside (trees (sources h)) N known
    alike_before h before g c f there stands far out = by (is_in U c) refl
      where
        by : (b : Bool) → is_in U c ≡ b → AreAlike (N c f) (known c f)
        by false e = inl (solution.outside c f e ∙ sym (is.out c f (home_of_sources U c ∙ e)))
        by true e = subst (AreAlike (N c f)) (all_there c f e ∙ before c e (goes_before h g c f there stands far out e) f) (all_alike c f)

    same_below : (k : ℕ) (h : Atom) → is_in U h ≡ true → n.number h < k → (f : FunName) → known_at h h f ≡ known h f
    same_below zero h in_h low f = absurd (omega (arith, low))
    same_below (suc k) h in_h low f =
        rests (trees (sources h)) (trees (sources h)) N known (known_at h) known (record { there = λ x e. e; back = λ x e. e })
        (alike_before h (λ c in_c less g. same_below k c in_c (omega (arith, less, low)) g))
        (group_so h in_h) (group_of_all h) h f (home_of_sources (sources h) h ∙ group_here h in_h)

    is_all : all_known ≡ known
    is_all = λ i h f. by h f (is_in U h) refl i
      where
        by : (h : Atom) (f : FunName) (b : Bool) → is_in U h ≡ b → all_known h f ≡ known h f
        by h f true e = all_there h f e ∙ same_below (suc (n.number h)) h e (omega arith) f
        by h f false e = all_beyond h f e ∙ sym (is.out h f (home_of_sources U h ∙ e))

    pub results_of_all : (s : Source) → Contains U s → IsResult known s.tree (R s.tree.name)
    results_of_all s has_s = subst (λ k. IsResult k s.tree (R s.tree.name)) is_all (all_results s has_s)
