-- Groups that are decided in waves are decided as they are one after another.
use Rattle.std.proofs.Common.{◌≡◌, ℕ, zero, suc, ◌-◌, ◌<◌, ◌≤◌, Bool, true, false, cond, ◌||◌, ◌&&◌, List, []}
use Rattle.std.proofs.Common.{◌∷◌, ◌++◌, ◌⊎◌, inl, inr, Option, Some, None, refl, sym, ap, ap₂, ◌∙◌, subst, arith}
use Rattle.std.specs.Cmp.Lexicographic.{pointwise}
use Rattle.std.proofs.lemmas.Bool.{and_cases, and_left, and_right, cases_lt, or_left, or_right, or_cases, or_parts, false_from_ne_true}
use Rattle.std.proofs.lemmas.List.Folds.{list_any-append}
use Rattle.type_kinds.specs.declared.atom.Atom.{Atom}
use Rattle.core_ast.specs.declared.syntax.FunName.{FunName}
use Rattle.core_scope.specs.Names.{same_atom}
use Rattle.call_graph.specs.Outside.{Called}
use Rattle.cons_tree.specs.Codes.{callee_code}
use Rattle.cons_tree.specs.SameBy.{same_by}
use Rattle.cons_tree.specs.declared.parts.Callee.{Callee}
use Rattle.cons_tree.specs.declared.parts.Callee.TheVariants.{Unknown}
use Rattle.table_keep.specs.Model.{Source, Entry, source_of, is_there, is_in, picked, entry_of}
use Rattle.table_keep.specs.Groups.{has, Together, Groups, IsGroups, group_of}
use Rattle.table_keep.specs.Kept.{Standing, Results, Solves, is_candidate, calls_of, calls_by, is_old, all_stand, entry_stands, all_unchanged, unchanged, callee_by, callee_among, with_entries, handed, stands, is_kept}
use Rattle.sound_laws_kept.specs.Solving.{IsSolved, AreSources}
use Rattle.sound_laws_kept.specs.Waves.{any_in, used_homes, uses_any, entry_may_stand, touches, all_may_stand, stops, Wave, with_group, goes_on, wave_from, to_solve, after_wave, IsWave}
use Rattle.sound_laws_kept.specs.Laws.{WaveLaw}
use Rattle.sound_laws_kept.proofs.Solving.{SameSources, AgreeOutside, IsPart, Carries, GivesParts}
use Rattle.sound_laws_kept.proofs.Names.{clash, itself, name_is, called_has, there_is, picked_source, picked_from, picked_there, are_picked}
use Rattle.sound_laws_kept.proofs.Graphs as graphs
use Rattle.sound_laws_kept.proofs.Folds as folds

-- ---- names of modules that are to be solved

-- none of the names is to be solved where not any is
none_of : (todo xs : List Atom) → any_in todo xs ≡ false → (h : Atom) → has xs h ≡ true → has todo h ≡ false
none_of todo [] none h e = clash false e refl
none_of todo (x ∷ xs) none h e =
    let parts = or_parts (has todo x) (any_in todo xs) none in
    by (same_atom h x) refl parts.0 (none_of todo xs parts.1 h)
  where
    by : (b : Bool) → same_atom h x ≡ b → has todo x ≡ false → (has xs h ≡ true → has todo h ≡ false) → has todo h ≡ false
    by true is here rest = ap (has todo) (name_is h x is) ∙ here
    by false is here rest = rest (ap (λ b. b || has xs h) (sym is) ∙ e)

any_in_nothing : (xs : List Atom) → any_in [] xs ≡ false
any_in_nothing [] = refl
any_in_nothing (x ∷ xs) = any_in_nothing xs

-- ---- groups that touch nothing that is to be solved

-- no member's entry uses any of it
uses_none : (T : List Entry) (M : List Source) (todo hs : List Atom) → touches T M todo hs ≡ false → (h : Atom) → has hs h ≡ true → uses_any todo (entry_of T h) ≡ false
uses_none T M todo [] none h e = clash false e refl
uses_none T M todo (x ∷ xs) none h e =
    let calls = or_parts (any_in todo (calls_of T M x)) (uses_any todo (entry_of T x) || touches T M todo xs) none in
    let uses = or_parts (uses_any todo (entry_of T x)) (touches T M todo xs) calls.1 in
    by (same_atom h x) refl uses.0 (uses_none T M todo xs uses.1 h)
  where
    by : (b : Bool) → same_atom h x ≡ b → uses_any todo (entry_of T x) ≡ false → (has xs h ≡ true → uses_any todo (entry_of T h) ≡ false) → uses_any todo (entry_of T h) ≡ false
    by true is here rest = ap (λ z. uses_any todo (entry_of T z)) (name_is h x is) ∙ here
    by false is here rest = rest (ap (λ b. b || has xs h) (sym is) ∙ e)

pub touches_none : (T : List Entry) (M : List Source) (hs : List Atom) → touches T M [] hs ≡ false
touches_none T M [] = refl
touches_none T M (h ∷ hs) =
    ap (λ b. b || (uses_any [] (entry_of T h) || touches T M [] hs)) (any_in_nothing (calls_of T M h))
    ∙ ap (λ b. b || touches T M [] hs) (by (entry_of T h)) ∙ touches_none T M hs
  where
    by : (o : Option Entry) → uses_any [] o ≡ false
    by None = refl
    by (Some e) = any_in_nothing (used_homes e.used)

-- a wave doesn't stop while nothing is to be solved
never_first : (T : List Entry) (M : List Source) (group : List Atom) → stops T M [] group ≡ false
never_first T M group = and_right (all_may_stand T M group group) (touches T M [] group) (touches_none T M group)

-- ---- a group that can't be kept is changed, whatever stands

entry_falls : (group : List Atom) (K : Standing) (s : Option Source) (o : Option Entry) → entry_may_stand group s o ≡ false → entry_stands group K s o ≡ false
entry_falls group K s None e = refl
entry_falls group K s (Some x) e = elim (and_cases (is_old s x) (pointwise same_atom x.group group) e) [
  | inl a ↦ and_left (is_old s x) (pointwise same_atom x.group group && all_stand K x.used) a
  | inr b ↦ and_right (is_old s x) (pointwise same_atom x.group group && all_stand K x.used) (and_left (pointwise same_atom x.group group) (all_stand K x.used) b)
]

must_change : (T : List Entry) (M : List Source) (group : List Atom) (K : Standing) (hs : List Atom) → all_may_stand T M group hs ≡ false → all_unchanged T M group K hs ≡ false
must_change T M group K [] e = clash true refl e
must_change T M group K (h ∷ hs) e = elim (and_cases (entry_may_stand group (source_of M h) (entry_of T h)) (all_may_stand T M group hs) e) [
  | inl a ↦ and_left (entry_stands group K (source_of M h) (entry_of T h)) (all_unchanged T M group K hs) (entry_falls group K (source_of M h) (entry_of T h) a)
  | inr b ↦ and_right (entry_stands group K (source_of M h) (entry_of T h)) (all_unchanged T M group K hs) (must_change T M group K hs b)
]

-- ---- a group is decided the same where the same stands of what its entries use

-- the same stands of the functions of these modules
abbrev AgreeIn : (names : List Atom) → (K L : Standing) → Type 0
AgreeIn names K L = (h : Atom) (f : FunName) → has names h ≡ true → K h f ≡ L h f

all_same : (K L : Standing) (us : List (Called × Callee)) → AgreeIn (used_homes us) K L → all_stand K us ≡ all_stand L us
all_same K L [] same = refl
all_same K L (u ∷ us) same =
    ap₂ (λ k b. same_by callee_code u.1 k && b) (same u.0.0 u.0.1 (or_left (same_atom u.0.0 u.0.0) (has (used_homes us) u.0.0) (itself u.0.0)))
    (all_same K L us (λ h f e. same h f (or_right (same_atom h u.0.0) (has (used_homes us) h) e)))

unchanged_same : (T : List Entry) (M : List Source) (group : List Atom) (K L : Standing) (hs : List Atom)
    → ((h : Atom) (e : Entry) → has hs h ≡ true → entry_of T h ≡ Some e → AgreeIn (used_homes e.used) K L)
    → all_unchanged T M group K hs ≡ all_unchanged T M group L hs
unchanged_same T M group K L [] same = refl
unchanged_same T M group K L (h ∷ hs) same =
    ap₂ (λ a b. a && b) (by (entry_of T h) refl) (unchanged_same T M group K L hs (λ x e m. same x e (or_right (same_atom x h) (has hs x) m)))
  where
    by : (o : Option Entry) → entry_of T h ≡ o → entry_stands group K (source_of M h) o ≡ entry_stands group L (source_of M h) o
    by None e = refl
    by (Some x) e =
        ap (λ b. is_old (source_of M h) x && (pointwise same_atom x.group group && b))
        (all_same K L x.used (same h x (or_left (same_atom h h) (has hs h) (itself h)) e))

module _ (R : Results) (T : List Entry) (M : List Source) (sources : AreSources M)
    (g : Groups) (is : IsGroups (is_candidate T M) (calls_of T M) g) where
  -- what stands when so many groups are decided one after another
  abbrev pub Fold : ℕ → Standing
  Fold = stands R T M g

  node_at : (n : ℕ) (a : Atom) → has (g.members n) a ≡ true → is_candidate T M a ≡ true
  node_at n a e = graphs.member_is_node (is_candidate T M) (calls_of T M) g is n a e

  number_at : (n : ℕ) (a : Atom) → has (g.members n) a ≡ true → g.number a ≡ n
  number_at n a e = graphs.member_number (is_candidate T M) (calls_of T M) g is n a e

  own_member : (a : Atom) → is_candidate T M a ≡ true → has (group_of g a) a ≡ true
  own_member a node = graphs.in_own_group (is_candidate T M) (calls_of T M) g is a node

  -- What holds in a wave that began with the group n. Of a module that isn't to be solved the same stands as one after another. Of one
  -- that is to be solved nothing is known yet; it is a candidate, and its group is one of this wave and isn't kept. The wave is to solve
  -- all candidates of such groups.
  pub record InWave (n : ℕ) (w : Wave) : Type 0 where
    pub begun : n ≤ w.next
    pub ends : w.next ≤ g.count
    pub settled : (h : Atom) (f : FunName) → has w.todo h ≡ false → w.known h f ≡ Fold w.next h f
    pub not_known : (h : Atom) (f : FunName) → has w.todo h ≡ true → w.known h f ≡ Unknown
    pub node : (h : Atom) → has w.todo h ≡ true → is_candidate T M h ≡ true
    pub from : (h : Atom) → has w.todo h ≡ true → n ≤ g.number h
    pub below : (h : Atom) → has w.todo h ≡ true → g.number h < w.next
    pub changed : (h : Atom) → has w.todo h ≡ true → is_kept R T M g (g.number h) ≡ false
    pub all_there : (h : Atom) → is_candidate T M h ≡ true → n ≤ g.number h → g.number h < w.next → is_kept R T M g (g.number h) ≡ false → has w.todo h ≡ true

  -- ---- one group more

  module _ (n : ℕ) (w : Wave) (inv : InWave n w) (low : w.next < g.count) (free : stops T M w.todo (g.members w.next) ≡ false) where
    -- no member of the next group is to be solved yet
    not_in_todo : (h : Atom) → has (g.members w.next) h ≡ true → has w.todo h ≡ false
    not_in_todo h e = false_from_ne_true (has w.todo h) (λ t. absurd (omega (arith, inv.below h t, number_at w.next h e)))

    untouched_same : touches T M w.todo (g.members w.next) ≡ false → unchanged T M (g.members w.next) w.known ≡ unchanged T M (g.members w.next) (Fold w.next)
    untouched_same none =
        unchanged_same T M (g.members w.next) w.known (Fold w.next) (g.members w.next)
        (λ h e m at x f u. inv.settled x f (none_of w.todo (used_homes e.used) (entry_uses_none h e m at) x u))
      where
        entry_uses_none : (h : Atom) (e : Entry) → has (g.members w.next) h ≡ true → entry_of T h ≡ Some e → any_in w.todo (used_homes e.used) ≡ false
        entry_uses_none h e m at = subst (λ o. uses_any w.todo o ≡ false) at (uses_none T M w.todo (g.members w.next) none h m)

    -- the group is decided as it is one after another
    same_decision : unchanged T M (g.members w.next) w.known ≡ is_kept R T M g w.next
    unfolding is_kept
    same_decision = by (all_may_stand T M (g.members w.next) (g.members w.next)) refl
      where
        by : (b : Bool) → all_may_stand T M (g.members w.next) (g.members w.next) ≡ b → unchanged T M (g.members w.next) w.known ≡ unchanged T M (g.members w.next) (Fold w.next)
        by true may = untouched_same (ap (λ b. b && touches T M w.todo (g.members w.next)) (sym may) ∙ free)
        by false may =
            must_change T M (g.members w.next) w.known (g.members w.next) may
            ∙ sym (must_change T M (g.members w.next) (Fold w.next) (g.members w.next) may)

    -- where the group is kept
    in_kept : is_kept R T M g w.next ≡ true → InWave n (record { next = suc w.next; known = with_entries T (g.members w.next) w.known; todo = w.todo })
    in_kept k = record {
      begun = omega (arith, inv.begun);
      ends = omega (arith, low);
      settled = λ h f out. ap (λ c. cond (has (g.members w.next) h) (callee_by (entry_of T h) f) c) (inv.settled h f out) ∙ sym (folds.kept_step R T M g w.next h f k);
      not_known = λ h f t. ap (λ b. cond b (callee_by (entry_of T h) f) (w.known h f)) (not_here h t) ∙ inv.not_known h f t;
      node = inv.node;
      from = inv.from;
      below = λ h t. omega (arith, inv.below h t);
      changed = inv.changed;
      all_there = λ h c a b e. there h c a b e (cases_lt (g.number h) w.next);
    }
      where
        not_here : (h : Atom) → has w.todo h ≡ true → has (g.members w.next) h ≡ false
        not_here h t = false_from_ne_true (has (g.members w.next) h) (λ e. clash (has w.todo h) t (not_in_todo h e))

        there : (h : Atom) → is_candidate T M h ≡ true → n ≤ g.number h → g.number h < suc w.next → is_kept R T M g (g.number h) ≡ false
            → (g.number h < w.next) ⊎ (w.next ≤ g.number h) → has w.todo h ≡ true
        there h c a b e (inl less) = inv.all_there h c a less e
        there h c a b e (inr high) = let at : g.number h ≡ w.next = omega (arith, b, high) in clash (is_kept R T M g w.next) k (ap (is_kept R T M g) (sym at) ∙ e)

    -- where it is to be solved
    in_changed : is_kept R T M g w.next ≡ false → InWave n (record { next = suc w.next; known = w.known; todo = w.todo ++ g.members w.next })
    in_changed k = record {
      begun = omega (arith, inv.begun);
      ends = omega (arith, low);
      settled = λ h f out.
          let parts = or_parts (has w.todo h) (has (g.members w.next) h) (sym (has_either h) ∙ out) in
          inv.settled h f parts.0 ∙ sym (folds.stay R T M g w.next h f parts.1);
      not_known = λ h f t. elim (cases h t) [
        | inl a ↦ inv.not_known h f a
        | inr b ↦ inv.settled h f (not_in_todo h b) ∙ folds.not_yet R T M g is h f w.next (omega (arith, number_at w.next h b))
      ];
      node = λ h t. elim (cases h t) [
        | inl a ↦ inv.node h a
        | inr b ↦ node_at w.next h b
      ];
      from = λ h t. elim (cases h t) [
        | inl a ↦ inv.from h a
        | inr b ↦ omega (arith, inv.begun, number_at w.next h b)
      ];
      below = λ h t. elim (cases h t) [
        | inl a ↦ omega (arith, inv.below h a)
        | inr b ↦ omega (arith, number_at w.next h b)
      ];
      changed = λ h t. elim (cases h t) [
        | inl a ↦ inv.changed h a
        | inr b ↦ ap (is_kept R T M g) (number_at w.next h b) ∙ k
      ];
      all_there = λ h c a b e. there h c a b e (cases_lt (g.number h) w.next);
    }
      where
        has_either : (h : Atom) → has (w.todo ++ g.members w.next) h ≡ (has w.todo h || has (g.members w.next) h)
        has_either h = list_any-append (same_atom h) w.todo (g.members w.next)

        cases : (h : Atom) → has (w.todo ++ g.members w.next) h ≡ true → (has w.todo h ≡ true) ⊎ (has (g.members w.next) h ≡ true)
        cases h t = or_cases (has w.todo h) (has (g.members w.next) h) (sym (has_either h) ∙ t)

        there : (h : Atom) → is_candidate T M h ≡ true → n ≤ g.number h → g.number h < suc w.next → is_kept R T M g (g.number h) ≡ false
            → (g.number h < w.next) ⊎ (w.next ≤ g.number h) → has (w.todo ++ g.members w.next) h ≡ true
        there h c a b e (inl less) = has_either h ∙ or_left (has w.todo h) (has (g.members w.next) h) (inv.all_there h c a less e)
        there h c a b e (inr high) =
            let at : g.number h ≡ w.next = omega (arith, b, high) in
            has_either h ∙ or_right (has w.todo h) (has (g.members w.next) h) ((is.members w.next h).1 (c, at))

    one_more : InWave n (with_group T M g w)
    one_more = by (unchanged T M (g.members w.next) w.known) refl
      where
        by : (b : Bool) → unchanged T M (g.members w.next) w.known ≡ b
            → InWave n (cond {A = Wave} b (record { next = suc w.next; known = with_entries T (g.members w.next) w.known; todo = w.todo }) (record { next = suc w.next; known = w.known; todo = w.todo ++ g.members w.next }))
        by true e = in_kept (sym same_decision ∙ e)
        by false e = in_changed (sym same_decision ∙ e)

  -- ---- a whole wave

  next_one : (w : Wave) → (with_group T M g w).next ≡ suc w.next
  next_one w = by (unchanged T M (g.members w.next) w.known)
    where
      by : (b : Bool) → (cond {A = Wave} b (record { next = suc w.next; known = with_entries T (g.members w.next) w.known; todo = w.todo }) (record { next = suc w.next; known = w.known; todo = w.todo ++ g.members w.next })).next
          ≡ suc w.next
      by true = refl
      by false = refl

  goes : (n k : ℕ) (w : Wave) → InWave n w → k ≤ g.count - w.next → InWave n (goes_on T M g k w)
  goes n zero w inv low = inv
  goes n (suc k) w inv low =
      by (stops T M w.todo (g.members w.next)) refl (λ free. goes n k (with_group T M g w) (one_more n w inv (omega (arith, low)) free) (omega (arith, low, next_one w)))
    where
      by : (b : Bool) → stops T M w.todo (g.members w.next) ≡ b → (stops T M w.todo (g.members w.next) ≡ false → InWave n (goes_on T M g k (with_group T M g w)))
          → InWave n (cond {A = Wave} b w (goes_on T M g k (with_group T M g w)))
      by true e rest = inv
      by false e rest = rest e

  -- a wave never goes back
  never_back : (k : ℕ) (w : Wave) → w.next ≤ (goes_on T M g k w).next
  never_back zero w = omega arith
  never_back (suc k) w = by (stops T M w.todo (g.members w.next)) (never_back k (with_group T M g w))
    where
      by : (b : Bool) → (with_group T M g w).next ≤ (goes_on T M g k (with_group T M g w)).next → w.next ≤ (cond {A = Wave} b w (goes_on T M g k (with_group T M g w))).next
      by true rest = omega arith
      by false rest = omega (arith, rest, next_one w)

  -- ---- the end of a wave: what is to be solved is solved at once

  module _ (n : ℕ) (w : Wave) (inv : InWave n w) where
    abbrev now : List Source
    now = to_solve T M g w

    abbrev After : Standing
    After = after_wave R T M g w

    from_now : (x : Atom) → is_in now x ≡ true → (has w.todo x ≡ true) × (is_in M x ≡ true)
    from_now x e = picked_from (has w.todo) M x e

    -- what stands of a name when its group is decided stands later
    stood : (m : ℕ) (h : Atom) (f : FunName) → m ≤ w.next → g.number h < m → Fold w.next h f ≡ Fold m h f
    stood m h f low less =
        folds.steady R T M g h f m w.next low (λ j a b. false_from_ne_true (has (g.members j) h) (λ e. absurd (omega (arith, number_at j h e, a, less))))

    handed_now : (h : Atom) → has w.todo h ≡ true → is_in now h ≡ is_in (handed M g (g.number h)) h
    handed_now h t =
        ap is_there (picked_there (has w.todo) M h t)
        ∙ sym (ap is_there (picked_there (has (group_of g h)) M h (own_member h (inv.node h t))))

    wave_ends : (h : Atom) (f : FunName) → After h f ≡ Fold w.next h f
    wave_ends h f = by (has w.todo h) refl
      where
        by : (b : Bool) → has w.todo h ≡ b → After h f ≡ Fold w.next h f
        by false t =
            ap (λ b. cond b (callee_among (R h).exports f) (w.known h f)) (false_from_ne_true (is_in now h) (λ e. clash (has w.todo h) (from_now h e).0 t))
            ∙ inv.settled h f t
        by true t =
            ap₂ (λ b k. cond b (callee_among (R h).exports f) k) (handed_now h t) (inv.not_known h f t ∙ sym (folds.not_yet R T M g is h f (g.number h) (omega arith)))
            ∙ sym (folds.solved_step R T M g (g.number h) h f (inv.changed h t))
            ∙ sym (stood (suc (g.number h)) h f (inv.below h t) (omega arith))

    -- one group of those that are solved
    module _ (m : ℕ) (begun : n ≤ m) (low : m < w.next) (changed : is_kept R T M g m ≡ false) where
      abbrev member : Atom → Bool
      member = has (g.members m)

      all_in_todo : (x : Atom) → member x ≡ true → has w.todo x ≡ true
      all_in_todo x e =
          let number = number_at m x e in
          inv.all_there x (node_at m x e) (subst (λ k. n ≤ k) (sym number) begun) (subst (λ k. k < w.next) (sym number) low) (ap (is_kept R T M g) number ∙ changed)

      -- what is solved at once calls what it calls as a candidate
      same_calls : (x : Atom) → is_in now x ≡ true → calls_of [] now x ≡ calls_of T M x
      same_calls x e =
          let there = there_is (source_of now x) e in
          ap (λ o. calls_by o None) there.1 ∙ sym (ap (λ o. calls_by o (entry_of T x)) (sym (picked_there (has w.todo) M x (from_now x e).0) ∙ there.1))

      is_part : IsPart now member
      is_part a b here in_a in_b together =
          let up : Together (is_candidate T M) (calls_of T M) a b =
          graphs.together_over (is_in now) (calls_of [] now) (is_candidate T M) (calls_of T M) (λ x e. inv.node x (from_now x e).0) same_calls a b together in
          let node_b = inv.node b (from_now b in_b).0 in
          (is.members m b).1 (node_b, sym ((is.together a b (inv.node a (from_now a in_a).0) node_b).1 up) ∙ number_at m a here)

      same_handed : SameSources (picked member now) (handed M g m)
      same_handed x = picked_source member now x ∙ by (member x) refl ∙ sym (picked_source member M x)
        where
          by : (b : Bool) → member x ≡ b → cond b (source_of now x) None ≡ cond b (source_of M x) None
          by true e = picked_there (has w.todo) M x (all_in_todo x e)
          by false e = refl

      -- what stands of a candidate that the group calls outside of its members that are passed
      called_same : (c : Called) → is_in (picked member now) c.0 ≡ false → is_candidate T M c.0 ≡ true → (g.number c.0 < m) ⊎ (m ≤ g.number c.0) → g.number c.0 ≤ m
          → After c.0 c.1 ≡ Fold m c.0 c.1
      called_same c out node (inl less) no_more = wave_ends c.0 c.1 ∙ stood m c.0 c.1 (omega (arith, low)) less
      called_same c out node (inr high) no_more =
          let number : g.number c.0 ≡ m = omega (arith, high, no_more) in
          let in_group : member c.0 ≡ true = (is.members m c.0).1 (node, number) in
          let none : is_in now c.0 ≡ false = sym (ap is_there (picked_there member now c.0 in_group)) ∙ out in
          ap (λ b. cond b (callee_among (R c.0).exports c.1) (w.known c.0 c.1)) none
          ∙ inv.not_known c.0 c.1 (all_in_todo c.0 in_group) ∙ sym (folds.not_yet R T M g is c.0 c.1 m (omega (arith, number)))

      agree : AgreeOutside (picked member now) After (Fold m)
      agree y s c there call out = by (is_candidate T M c.0) refl
        where
          here : (member y ≡ true) × (is_in now y ≡ true)
          here = picked_from member now y (ap is_there there)

          in_todo : has w.todo y ≡ true
          in_todo = (from_now y here.1).0

          source : source_of M y ≡ Some s
          source = sym (picked_there (has w.todo) M y in_todo) ∙ sym (picked_there member now y here.0) ∙ there

          calls : has (calls_of T M y) c.0 ≡ true
          calls = ap (λ o. has (calls_by o (entry_of T y)) c.0) source ∙ called_has s.tree c call

          by : (b : Bool) → is_candidate T M c.0 ≡ b → After c.0 c.1 ≡ Fold m c.0 c.1
          by false none = wave_ends c.0 c.1 ∙ folds.not_candidate R T M g is c.0 c.1 w.next none ∙ sym (folds.not_candidate R T M g is c.0 c.1 m none)
          by true node =
              called_same c out node (cases_lt (g.number c.0) m)
              (omega (arith, is.downward y c.0 (inv.node y in_todo, node, calls), number_at m y here.0))

      group_solved : (solves : Solves) → Carries solves → GivesParts solves → solves now w.known R → solves (handed M g m) (Fold m) R
      group_solved solves carries gives_parts all =
          let now_are = are_picked (has w.todo) M sources in
          carries.over (picked member now) (handed M g m) After (Fold m) R R (are_picked member now now_are) (are_picked member M sources) same_handed agree (λ x e. refl)
          (gives_parts.part now w.known R member now_are is_part all)

  -- ---- a wave from its beginning

  module _ (n : ℕ) (K : Standing) (low : n < g.count) (stood_so : (h : Atom) (f : FunName) → K h f ≡ Fold n h f) where
    abbrev start : Wave
    start = record { next = n; known = K; todo = [] }

    abbrev wave : Wave
    wave = wave_from T M g n K

    starts : InWave n start
    starts = record {
      begun = omega arith;
      ends = omega (arith, low);
      settled = λ h f out. stood_so h f;
      not_known = λ h f t. clash false t refl;
      node = λ h t. clash false t refl;
      from = λ h t. clash false t refl;
      below = λ h t. clash false t refl;
      changed = λ h t. clash false t refl;
      all_there = λ h c a b e. absurd (omega (arith, a, b));
    }

    in_wave : InWave n wave
    in_wave = goes n (g.count - n) start starts (omega arith)

    -- it has its first group
    progress : n < wave.next
    progress = by (g.count - n) (omega (arith, low))
      where
        by : (k : ℕ) → 0 < k → n < (goes_on T M g k start).next
        by zero none = absurd (omega (arith, none))
        by (suc k) some =
            subst (λ (b : Bool). n < (cond {A = Wave} b start (goes_on T M g k (with_group T M g start))).next) (sym (never_first T M (g.members n)))
            (omega (arith, never_back k (with_group T M g start), next_one start))

    is_wave : (solves : Solves) → Carries solves → GivesParts solves → solves (to_solve T M g wave) wave.known R → IsWave R T M g solves n wave
    is_wave solves carries gives_parts all = record {
      more = progress;
      low = in_wave.ends;
      known = wave_ends n wave in_wave;
      solved = λ m a b changed. group_solved n wave in_wave m a b changed solves carries gives_parts all;
      todo = in_wave.all_there;
      changed = λ h t. (in_wave.node h t, in_wave.from h t, in_wave.below h t, in_wave.changed h t);
    }

module _ (carries : Carries IsSolved) (gives_parts : GivesParts IsSolved) where
  pub wave_law : WaveLaw
  wave_law R T M g sources is n K low stood_so all = is_wave R T M sources g is n K low stood_so IsSolved carries gives_parts all
