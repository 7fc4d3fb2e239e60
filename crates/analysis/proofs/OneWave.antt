-- One wave more: what is decided up to the group with which it begins is decided up to the one behind it.
use Rattle.std.proofs.Common.{◌≡◌, ◌↔◌, ℕ, zero, suc, ◌-◌, ◌<◌, ◌≤◌, Bool, true, false, cond, ◌||◌, List, [], ◌++◌, ◌⊎◌}
use Rattle.std.proofs.Common.{inl, inr, Contains, slice_get, Option, Some, None, refl, sym, ap, ◌∙◌, subst, arith}
use Rattle.std.proofs.lemmas.Bool.{cases_lt, or_left, or_right, or_cases, false_from_ne_true}
use Rattle.std.proofs.lemmas.List.Folds.{list_any-append}
use Rattle.type_kinds.proofs.Lists.{position_of, contains_at}
use Rattle.type_kinds.specs.declared.atom.Atom.{Atom}
use Rattle.core_ast.specs.declared.syntax.FunName.{FunName}
use Rattle.core_ast.specs.Model as m
use Rattle.core_scope.specs.Names.{same_atom, has_function}
use Rattle.core_scope.proofs.NameLaws.{has_contained}
use Rattle.cons_tree.specs.Callees.{as_called}
use Rattle.cons_tree.specs.declared.parts.Summary.{Summary}
use Rattle.cons_tree.specs.declared.parts.Callee.{Callee}
use Rattle.cons_tree.specs.declared.parts.Callee.TheVariants.{Known, Local, Undefined, Unknown}
use Rattle.cons_gen_frame.specs.Agreement.{AreAlike}
use Rattle.comp_rounds.specs.Rounds.{Callees}
use Rattle.module_flow.specs.Flow.{findings}
use Rattle.module_flow_frame.specs.Frame.{OutsideFrame, seen_by}
use Rattle.warn_list.specs.Lines.{AreLines}
use Rattle.sound_laws_outside.specs.Over.{IsKnownOver}
use Rattle.sound_laws_outside.specs.Laws.{CarriedLaw}
use Rattle.table_keep.specs.Model.{Source, Entry, Result, trees, source_of, is_in, picked, entry_of}
use Rattle.table_keep.specs.Groups.{Groups, IsGroups, has}
use Rattle.table_keep.specs.Kept.{Standing, Results, is_candidate, calls_of, callee_among, unchanged, with_entries, handed, stands, is_kept, kept}
use Rattle.table_keep.specs.Made.{exported, AreSummarized, IsKnown}
use Rattle.sound_laws_kept.specs.Laws.{WaveLaw, RestsLaw}
use Rattle.sound_laws_kept.specs.Solving.{IsResult, IsSolved, AreSources}
use Rattle.sound_laws_kept.specs.Waves.{Wave, stops, with_group, goes_on, wave_from, to_solve, SolvedBetween, IsWave}
use Rattle.sound_laws_kept.proofs.Names.{clash, picked_from, are_picked}
use Rattle.sound_laws_kept.proofs.Folds.{kept_is, kept_candidate}
use Rattle.sound_laws_kept.proofs.Trees.{tree_stands, source_of_tree, own_source, own_name, under, picked_stands, stands_picked, home_of_sources}
use Rattle.table_keep.proofs.CallLaws.{exported_exactly}
use Rattle.sound_laws_kept.proofs.Shown.{still_summarized, shown_as_called}
use Rattle.analysis.specs.steps.Deciding.{seen, wave_so, IsBefore, AreReported, IsDecided}
use Rattle.analysis.proofs.Opened.{DefinesExports, opened}
use Rattle.analysis.proofs.Told.{known_among, are_summarized, line_of, line_at}

-- ---- what a wave is to solve is of its groups

module _ (T : List Entry) (M : List Source) (g : Groups) where
  abbrev OfGroups : Wave → Atom → Type 0
  OfGroups w h = (has w.todo h ≡ true) ⊎ ((n : ℕ) × (w.next ≤ n) × (has (g.members n) h ≡ true))

  -- whatever is decided of the next group
  of_next : (w : Wave) (b : Bool) (h : Atom)
      → OfGroups (cond {A = Wave} b (record { next = suc w.next; known = with_entries T (g.members w.next) w.known; todo = w.todo }) (record { next = suc w.next; known = w.known; todo = w.todo ++ g.members w.next })) h
      → OfGroups w h
  of_next w true h (inl e) = inl e
  of_next w true h (inr later) = inr (later.0, omega (arith, later.1), later.2)
  of_next w false h (inl e) = by (or_cases (has w.todo h) (has (g.members w.next) h) (sym (list_any-append (same_atom h) w.todo (g.members w.next)) ∙ e))
    where
      by : (has w.todo h ≡ true) ⊎ (has (g.members w.next) h ≡ true) → OfGroups w h
      by (inl before) = inl before
      by (inr now) = inr (w.next, omega arith, now)
  of_next w false h (inr later) = inr (later.0, omega (arith, later.1), later.2)

  of_groups : (k : ℕ) (w : Wave) (h : Atom) → has (goes_on T M g k w).todo h ≡ true → OfGroups w h
  of_groups zero w h e = inl e
  of_groups (suc k) w h e = by (stops T M w.todo (g.members w.next)) e (of_groups k (with_group T M g w) h)
    where
      by : (b : Bool) → has (cond {A = Wave} b w (goes_on T M g k (with_group T M g w))).todo h ≡ true
          → (has (goes_on T M g k (with_group T M g w)).todo h ≡ true → OfGroups (with_group T M g w) h) → OfGroups w h
      by true e rest = inl e
      by false e rest = of_next w (unchanged T M (g.members w.next) w.known) h (rest e)

-- ---- of two cases one

abbrev one_of : {P Q : Type 0} → P ⊎ Q → Result → Result → Result
one_of (inl p) x y = x
one_of (inr q) x y = y

is_first : {P Q : Type 0} (o : P ⊎ Q) (x y : Result) → (Q → ⊥) → one_of o x y ≡ x
is_first (inl p) x y never = refl
is_first (inr q) x y never = absurd (never q)

is_second : {P Q : Type 0} (o : P ⊎ Q) (x y : Result) → (P → ⊥) → one_of o x y ≡ y
is_second (inl p) x y never = absurd (never p)
is_second (inr q) x y never = refl

alike : (c : Callee) → AreAlike c (as_called c)
alike (Known s) = inl refl
alike (Local s) = inr (tt, tt)
alike Undefined = inl refl
alike Unknown = inl refl

-- the laws that the step rests on
pub record WaveLaws : Type 0 where
  pub waves : WaveLaw
  pub rests : RestsLaw
  pub carried : CarriedLaw
  pub outside : OutsideFrame

-- what the code has when a wave is over
pub record IsOver (T : List Entry) (M : List Source) (g : Groups) (n : ℕ) (known : Callees) (changed : List Atom) (before : List (List ℕ)) (next : ℕ) (mid after : Callees) (todo : List Atom) (lines : List (List ℕ)) : Type 0 where
  pub decided : IsDecided T M g n known changed before
  pub less : n < g.count
  pub wave : wave_so next mid todo ≡ wave_from T M g n (seen known)
  pub others : (h : Atom) (f : FunName) → IsBefore g n h → mid h f ≡ known h f
  pub solved : IsKnownOver mid (trees (picked (has todo) M)) after
  pub reported : AreReported todo M after before lines

module _ (laws : WaveLaws) (T : List Entry) (M : List Source) (are : AreSources M) (defines : DefinesExports (trees M)) (g : Groups) (groups : IsGroups (is_candidate T M) (calls_of T M) g)
    (n : ℕ) (known : Callees) (changed : List Atom) (before : List (List ℕ)) (next : ℕ) (mid after : Callees) (todo : List Atom) (lines : List (List ℕ))
    (over : IsOver T M g n known changed before next mid after todo lines) where
  abbrev d : IsDecided T M g n known changed before
  d = over.decided

  abbrev xs : List Source
  xs = picked (has todo) M

  abbrev wave : Wave
  wave = wave_so next mid todo

  are_xs : AreSources xs
  are_xs = are_picked (has todo) M are

  -- ---- what is known of the wave's modules, over what stands of the others

  abbrev moved : Callees
  moved = seen_by (is_in xs) after

  inside : (h : Atom) (f : FunName) → is_in xs h ≡ true → after h f ≡ moved h f
  inside h f e = sym (ap (λ b. cond b (after h f) (as_called (after h f))) e)

  beyond : (h : Atom) (f : FunName) → is_in xs h ≡ false → as_called (after h f) ≡ seen mid h f
  beyond h f e = ap as_called (over.solved.out h f (home_of_sources xs h ∙ e))

  moved_known : IsKnownOver (seen mid) (trees xs) moved
  moved_known =
      laws.carried (trees xs) (trees xs) mid (seen mid) after moved (record { there = λ x e. e; back = λ x e. e }) (λ f h k a b c e. alike (mid h k)) over.solved
      (λ h f e. inside h f (sym (home_of_sources xs h) ∙ e))
      (λ h f e. let out = sym (home_of_sources xs h) ∙ e in ap (λ b. cond b (after h f) (as_called (after h f))) out ∙ beyond h f out)

  -- ---- results

  abbrev exports_in : Option Source → List (FunName × Summary)
  exports_in None = []
  exports_in (Some s) = known_among after s.tree.name (exported s.tree)

  abbrev made_now : Atom → Result
  made_now h = record { exports = exports_in (source_of M h); lines = line_of M lines h }

  abbrev stored : Option Entry → Result
  stored None = record { exports = []; lines = [] }
  stored (Some e) = e.result

  -- up to the wave what was known, and in it what was solved, or what the entries say
  results : Results
  results h = one_of (cases_lt (g.number h) n) (d.results h) (cond {A = Result} (has todo h) (made_now h) (stored (entry_of T h)))

  early : (h : Atom) → g.number h < n → results h ≡ d.results h
  unfolding results
  early h low = is_first (cases_lt (g.number h) n) (d.results h) (cond {A = Result} (has todo h) (made_now h) (stored (entry_of T h))) (λ q. absurd (omega (arith, low, q)))

  late : (h : Atom) → n ≤ g.number h → results h ≡ cond {A = Result} (has todo h) (made_now h) (stored (entry_of T h))
  unfolding results
  late h high = is_second (cases_lt (g.number h) n) (d.results h) (cond {A = Result} (has todo h) (made_now h) (stored (entry_of T h))) (λ p. absurd (omega (arith, high, p)))

  todo_late : (h : Atom) → has todo h ≡ true → n ≤ g.number h
  todo_late h e = by (of_groups T M g (g.count - n) (record { next = n; known = seen known; todo = [] }) h (subst (λ (w : Wave). has w.todo h ≡ true) over.wave e))
    where
      by : OfGroups T M g (record { next = n; known = seen known; todo = [] }) h → n ≤ g.number h
      by (inl none) = clash false none refl
      by (inr later) = let number = ((groups.members later.0 h).0 later.2).1 in omega (arith, later.1, number)

  -- the result of a module that was solved in this wave
  abbrev now_of : Source → Result
  now_of s = record { exports = known_among after s.tree.name (exported s.tree); lines = line_of M lines s.tree.name }

  now_is : (s : Source) → Contains M s → has todo s.tree.name ≡ true → results s.tree.name ≡ now_of s
  now_is s has_s e =
      late s.tree.name (todo_late s.tree.name e)
      ∙ ap (λ b. cond {A = Result} b (made_now s.tree.name) (stored (entry_of T s.tree.name))) e
      ∙ ap (λ (o : Option Source). record { exports = exports_in o; lines = line_of M lines s.tree.name }) (own_source M are.distinct s has_s)

  revealed_now : (s : Source) → Contains xs s → (f : FunName) → has_function s.tree.exports f ≡ true → IsKnown (after s.tree.name f)
  revealed_now s has_s =
      opened (trees xs) (λ x there. defines x (tree_over x there)) mid after over.solved s.tree (tree_stands xs s has_s)
    where
      tree_over : (x : m.Module) → Contains (trees xs) x → Contains (trees M) x
      tree_over x there = let r = source_of_tree xs x there in subst (Contains (trees M)) r.is (tree_stands M r.source (picked_stands (has todo) M r.source r.there).1)

  summarized_now : (s : Source) → Contains xs s → AreSummarized after s.tree.name (exported s.tree) (now_of s).exports
  summarized_now s has_s =
      are_summarized after s.tree.name (exported s.tree)
      (λ f there. revealed_now s has_s f (has_contained s.tree.exports f ((exported_exactly s.tree f).0 there)))

  -- its lines
  lines_now : (i : ℕ) (s : Source) → slice_get M i ≡ Some s → has todo s.tree.name ≡ true → slice_get lines i ≡ Some (line_of M lines s.tree.name)
  lines_now i s at e =
      let r = over.reported.reported i s at e in
      r.1 ∙ ap Some (sym (line_at M lines i s r.0 are.distinct at r.1))

  result_now : (s : Source) → Contains xs s → IsResult moved s.tree (results s.tree.name)
  result_now s has_s =
      let p = picked_stands (has todo) M s has_s in
      let at = position_of M s p.1 in
      let r = over.reported.reported at.0 s at.2 p.0 in
      let line : line_of M lines s.tree.name ≡ r.0 = line_at M lines at.0 s r.0 are.distinct at.2 r.1 in
      let same : findings moved s.tree ≡ findings after s.tree = laws.outside s.tree after (is_in xs) (own_name xs are_xs s has_s) in
      subst (IsResult moved s.tree) (sym (now_is s p.1 p.0))
      (record {
        exports = still_summarized after moved s.tree.name (exported s.tree) (now_of s).exports (λ f. inside s.tree.name f (own_name xs are_xs s has_s)) (summarized_now s has_s);
        lines = subst (λ fs. AreLines s.tree.name fs (line_of M lines s.tree.name)) (sym same) (subst (AreLines s.tree.name (findings after s.tree)) (sym line) r.2);
      })

  solved_now : IsSolved xs (seen mid) results
  solved_now = record { known = moved; known_so = moved_known; results = result_now }

  -- ---- the law of waves

  still_stands : (k : ℕ) → k ≤ n → (h : Atom) (f : FunName) → stands d.results T M g k h f ≡ stands results T M g k h f
  still_stands k low = laws.rests d.results results T M g groups k (λ h e less. sym (early h (omega (arith, low, less))))

  still_kept : (k : ℕ) → k ≤ n → is_kept d.results T M g k ≡ is_kept results T M g k
  unfolding is_kept
  still_kept k low = λ i. unchanged T M (g.members k) (λ h f. still_stands k low h f i)

  is_wave : IsWave results T M g IsSolved n wave
  is_wave =
      subst (IsWave results T M g IsSolved n) (sym over.wave)
      (laws.waves results T M g are groups n (seen known) over.less (λ h f. d.known_so h f ∙ still_stands n (omega arith) h f)
      (subst (λ (w : Wave). IsSolved (to_solve T M g w) w.known results) over.wave solved_now))

  -- ---- what is decided then

  stands_now : (h : Atom) (f : FunName) → seen after h f ≡ stands results T M g next h f
  stands_now h f = by (is_in xs h) refl ∙ is_wave.known h f
    where
      by : (b : Bool) → is_in xs h ≡ b → as_called (after h f) ≡ cond b (callee_among (results h).exports f) (seen mid h f)
      by false e = beyond h f e
      by true e =
          let u = under xs h e in
          let p = picked_stands (has todo) M u.source u.there in
          let shown : as_called (after u.source.tree.name f) ≡ callee_among (now_of u.source).exports f =
          shown_as_called (trees xs) are_xs.distinct mid after over.solved u.source.tree (tree_stands xs u.source u.there) (now_of u.source).exports (summarized_now u.source u.there) f in
          subst (λ k. as_called (after k f) ≡ callee_among (results k).exports f) u.name_is
          (shown ∙ ap (λ (r : Result). callee_among r.exports f) (sym (now_is u.source p.1 p.0)))

  kept_entry : (h : Atom) (e : Entry) → kept results T M g h ≡ true → g.number h < next → entry_of T h ≡ Some e → results h ≡ e.result
  kept_entry h e is low at = by (cases_lt (g.number h) n)
    where
      node : is_candidate T M h ≡ true
      node = kept_candidate results T M g h is

      kept_group : is_kept results T M g (g.number h) ≡ true
      kept_group = sym (kept_is results T M g h node) ∙ is

      by : (g.number h < n) ⊎ (n ≤ g.number h) → results h ≡ e.result
      by (inl less) =
          early h less
          ∙ d.of_entry h e (kept_is d.results T M g h node ∙ still_kept (g.number h) (omega (arith, less)) ∙ kept_group) less at
      by (inr high) =
          let out : has todo h ≡ false = false_from_ne_true (has todo h) (λ t. clash (is_kept results T M g (g.number h)) kept_group (is_wave.changed h t).3) in
          late h high ∙ ap (λ b. cond {A = Result} b (made_now h) (stored (entry_of T h))) out ∙ ap stored at

  solved_up : SolvedBetween results T M g IsSolved 0 next
  solved_up k low less changed_k = by (cases_lt k n)
    where
      by : (k < n) ⊎ (n ≤ k) → IsSolved (handed M g k) (stands results T M g k) results
      by (inr high) = is_wave.solved k high less changed_k
      by (inl before_it) =
          let old = d.solved k low before_it (still_kept k (omega (arith, before_it)) ∙ changed_k) in
          let here : IsSolved (handed M g k) (stands results T M g k) d.results = subst (λ (K : Standing). IsSolved (handed M g k) K d.results) (λ i. λ h f. still_stands k (omega (arith, before_it)) h f i) old in
          record {
            known = here.known;
            known_so = here.known_so;
            results = λ s has_s.
                let number = ((groups.members k s.tree.name).0 (picked_stands (has (g.members k)) M s has_s).0).1 in
                subst (IsResult here.known s.tree) (sym (early s.tree.name (omega (arith, before_it, number)))) (here.results s has_s);
          }

  -- a module of a group that isn't kept is of an earlier wave, or of this one
  changed_cases : (h : Atom) → has (changed ++ todo) h ≡ true → ((has changed h ≡ true) × (has todo h ≡ false)) ⊎ (has todo h ≡ true)
  changed_cases h e = by (has todo h) refl (or_cases (has changed h) (has todo h) (sym (list_any-append (same_atom h) changed todo) ∙ e))
    where
      by : (b : Bool) → has todo h ≡ b → (has changed h ≡ true) ⊎ (has todo h ≡ true) → ((has changed h ≡ true) × (has todo h ≡ false)) ⊎ (has todo h ≡ true)
      by true is c = inr is
      by false is (inl c) = inl (c, is)
      by false is (inr c) = clash (has todo h) c is

  changed_now : (h : Atom) → (has (changed ++ todo) h ≡ true) ↔ ((is_candidate T M h ≡ true) × (g.number h < next) × (is_kept results T M g (g.number h) ≡ false))
  changed_now h = (there, back)
    where
      there : has (changed ++ todo) h ≡ true → (is_candidate T M h ≡ true) × (g.number h < next) × (is_kept results T M g (g.number h) ≡ false)
      there e = elim (changed_cases h e) [
        | inl old ↦ (let r = (d.changed_so h).0 old.0 in (r.0, omega (arith, r.1, is_wave.more), sym (still_kept (g.number h) (omega (arith, r.1))) ∙ r.2))
        | inr new ↦ (let r = is_wave.changed h new in (r.0, r.2, r.3))
      ]

      back : (is_candidate T M h ≡ true) × (g.number h < next) × (is_kept results T M g (g.number h) ≡ false) → has (changed ++ todo) h ≡ true
      back r = list_any-append (same_atom h) changed todo ∙ by (cases_lt (g.number h) n)
        where
          by : (g.number h < n) ⊎ (n ≤ g.number h) → (has changed h || has todo h) ≡ true
          by (inl less) = or_left (has changed h) (has todo h) ((d.changed_so h).1 (r.0, less, still_kept (g.number h) (omega (arith, less)) ∙ r.2))
          by (inr high) = or_right (has changed h) (has todo h) (is_wave.todo h r.0 high r.1 r.2)

  -- what is known of a module of an earlier wave stays
  stays : (h : Atom) (f : FunName) → has changed h ≡ true → has todo h ≡ false → known h f ≡ after h f
  stays h f old out = sym (over.solved.out h f (home_of_sources xs h ∙ none) ∙ over.others h f before_it)
    where
      none : is_in xs h ≡ false
      none = false_from_ne_true (is_in xs h) (λ e. clash (has todo h) (picked_from (has todo) M h e).0 out)

      before_it : IsBefore g n h
      before_it k high = false_from_ne_true (has (g.members k) h) (λ e. let number = ((groups.members k h).0 e).1 in let low = ((d.changed_so h).0 old).1 in absurd (omega (arith, high, number, low)))

  old_is : (h : Atom) → has changed h ≡ true → results h ≡ d.results h
  old_is h old = early h ((d.changed_so h).0 old).1

  summarized_up : (s : Source) → Contains M s → has (changed ++ todo) s.tree.name ≡ true → AreSummarized after s.tree.name (exported s.tree) (results s.tree.name).exports
  summarized_up s has_s e = elim (changed_cases s.tree.name e) [
    | inl old ↦
        subst (λ (r : Result). AreSummarized after s.tree.name (exported s.tree) r.exports) (sym (old_is s.tree.name old.0))
        (still_summarized known after s.tree.name (exported s.tree) (d.results s.tree.name).exports (λ f. stays s.tree.name f old.0 old.1) (d.summarized s has_s old.0))
    | inr new ↦
        subst (λ (r : Result). AreSummarized after s.tree.name (exported s.tree) r.exports) (sym (now_is s has_s new)) (summarized_now s (stands_picked (has todo) M s has_s new))
  ]

  revealed_up : (s : Source) → Contains M s → has (changed ++ todo) s.tree.name ≡ true → (f : FunName) → Contains s.tree.exports f → IsKnown (after s.tree.name f)
  revealed_up s has_s e f there = elim (changed_cases s.tree.name e) [
    | inl old ↦ subst IsKnown (stays s.tree.name f old.0 old.1) (d.revealed s has_s old.0 f there)
    | inr new ↦ revealed_now s (stands_picked (has todo) M s has_s new) f (has_contained s.tree.exports f there)
  ]

  lines_up : (i : ℕ) (s : Source) → slice_get M i ≡ Some s → has (changed ++ todo) s.tree.name ≡ true → slice_get lines i ≡ Some (results s.tree.name).lines
  lines_up i s at e = elim (changed_cases s.tree.name e) [
    | inl old ↦ over.reported.others i s at old.1 ∙ d.lines_so i s at old.0 ∙ ap (λ (r : Result). Some r.lines) (sym (old_is s.tree.name old.0))
    | inr new ↦ lines_now i s at new ∙ ap (λ (r : Result). Some r.lines) (sym (now_is s (contains_at M i s at) new))
  ]

  pub one_wave : (n < next) × IsDecided T M g next after (changed ++ todo) lines
  one_wave = (
    is_wave.more,
    record {
      results = results;
      low = is_wave.low;
      known_so = stands_now;
      of_entry = kept_entry;
      solved = solved_up;
      changed_so = changed_now;
      counted = over.reported.counted ∙ d.counted;
      summarized = summarized_up;
      revealed = revealed_up;
      lines_so = lines_up;
    },
  )
