-- What stands of functions while the groups are decided one after another, and in the end.
use Rattle.std.proofs.Common.{◌≡◌, ℕ, zero, suc, ◌<◌, ◌≤◌, Bool, true, false, cond, ◌||◌, ◌&&◌, List, [], ◌∷◌, Contains, ◌⊎◌, inl, inr, Option, Some, None, refl, sym, ap, ap₂, ◌∙◌, subst, arith}
use Rattle.std.specs.Cmp.Lexicographic.{pointwise}
use Rattle.std.proofs.lemmas.Bool.{cases_lt, and_parts, false_from_ne_true}
use Rattle.type_kinds.proofs.Lists.{contains_none, contains_cases}
use Rattle.type_kinds.specs.declared.atom.Atom.{Atom}
use Rattle.core_ast.specs.declared.syntax.FunName.{FunName}
use Rattle.core_scope.specs.Names.{same_atom}
use Rattle.call_graph.specs.Outside.{Called}
use Rattle.cons_tree.specs.Codes.{callee_code}
use Rattle.cons_tree.specs.SameBy.{same_by}
use Rattle.cons_tree.specs.declared.parts.Callee.TheVariants.{Unknown}
use Rattle.table_keep.specs.Model.{Source, Entry, source_of, is_there, is_in, entry_of}
use Rattle.table_keep.specs.Groups.{Groups, IsGroups, has}
use Rattle.table_keep.specs.Kept.{Standing, Results, callee_among, is_candidate, calls_of, is_old, all_stand, entry_stands, all_unchanged, unchanged, callee_by, with_entries, with_results, handed, stands, is_kept, kept, finally}
use Rattle.table_keep.specs.Made.{used_of}
use Rattle.sound_laws_kept.proofs.Names.{clash, name_is, names_are, callee_is, picked_from, picked_there}
use Rattle.sound_laws_kept.proofs.Graphs.{in_own_group}

-- ---- what an unchanged group says of the entries of its members

pub record Stands (group : List Atom) (K : Standing) (s : Option Source) (e : Option Entry) : Type 0 where
  pub entry : Entry
  pub there : e ≡ Some entry
  pub old : is_old s entry ≡ true
  pub group_is : entry.group ≡ group
  pub used : all_stand K entry.used ≡ true

entry_facts : (group : List Atom) (K : Standing) (s : Option Source) (o : Option Entry) → entry_stands group K s o ≡ true → Stands group K s o
entry_facts group K s None e = clash false e refl
entry_facts group K s (Some x) e =
    let a = and_parts (is_old s x) (pointwise same_atom x.group group && all_stand K x.used) e in
    let b = and_parts (pointwise same_atom x.group group) (all_stand K x.used) a.1 in
    record { entry = x; there = refl; old = a.0; group_is = names_are x.group group b.0; used = b.1 }

unchanged_at : (T : List Entry) (M : List Source) (group : List Atom) (K : Standing) (hs : List Atom) → all_unchanged T M group K hs ≡ true
    → (h : Atom) → has hs h ≡ true → Stands group K (source_of M h) (entry_of T h)
unchanged_at T M group K [] all h e = clash false e refl
unchanged_at T M group K (x ∷ xs) all h e =
    let both = and_parts (entry_stands group K (source_of M x) (entry_of T x)) (all_unchanged T M group K xs) all in
    by (same_atom h x) refl both.0 (unchanged_at T M group K xs both.1 h)
  where
    by : (b : Bool) → same_atom h x ≡ b → entry_stands group K (source_of M x) (entry_of T x) ≡ true → (has xs h ≡ true → Stands group K (source_of M h) (entry_of T h))
        → Stands group K (source_of M h) (entry_of T h)
    by true is here rest = subst (λ z. Stands group K (source_of M z) (entry_of T z)) (sym (name_is h x is)) (entry_facts group K (source_of M x) (entry_of T x) here)
    by false is here rest = rest (ap (λ b. b || has xs h) (sym is) ∙ e)

-- what is used is all that is called outside of the group: so that stands where what is used does
pub used_stands : (group : List Atom) (K L : Standing) (cs : List Called) → all_stand K (used_of group L cs) ≡ true
    → (c : Called) → Contains cs c → has group c.0 ≡ false → L c.0 c.1 ≡ K c.0 c.1
used_stands group K L [] all c in_it out = absurd (contains_none c in_it)
used_stands group K L (x ∷ xs) all c in_it out = by (has group x.0) refl all (used_stands group K L xs) (contains_cases x c xs in_it)
  where
    parts : all_stand K ((x, L x.0 x.1) ∷ used_of group L xs) ≡ true → (same_by callee_code (L x.0 x.1) (K x.0 x.1) ≡ true) × (all_stand K (used_of group L xs) ≡ true)
    parts e = and_parts (same_by callee_code (L x.0 x.1) (K x.0 x.1)) (all_stand K (used_of group L xs)) e

    by : (b : Bool) → has group x.0 ≡ b → all_stand K (cond b (used_of group L xs) ((x, L x.0 x.1) ∷ used_of group L xs)) ≡ true
        → (all_stand K (used_of group L xs) ≡ true → (d : Called) → Contains xs d → has group d.0 ≡ false → L d.0 d.1 ≡ K d.0 d.1)
        → (x ≡ c) ⊎ Contains xs c → L c.0 c.1 ≡ K c.0 c.1
    by true is all rest (inl e) = clash (has group x.0) is (ap (λ (z : Called). has group z.0) e ∙ out)
    by true is all rest (inr more) = rest all c more out
    by false is all rest (inl e) = subst (λ (z : Called). L z.0 z.1 ≡ K z.0 z.1) e (callee_is (L x.0 x.1) (K x.0 x.1) (parts all).0)
    by false is all rest (inr more) = rest (parts all).1 c more out

module _ (R : Results) (T : List Entry) (M : List Source) (g : Groups) where
  -- ---- one group: what stands stays, but for its members

  stay_by : (b : Bool) (n : ℕ) (h : Atom) (f : FunName) → has (g.members n) h ≡ false
      → cond b (with_entries T (g.members n) (stands R T M g n)) (with_results (handed M g n) R (stands R T M g n)) h f ≡ stands R T M g n h f
  stay_by true n h f out = ap (λ c. cond c (callee_by (entry_of T h) f) (stands R T M g n h f)) out
  stay_by false n h f out =
      let none = false_from_ne_true (is_in (handed M g n) h) (λ e. clash (has (g.members n) h) (picked_from (has (g.members n)) M h e).0 out) in
      ap (λ c. cond c (callee_among (R h).exports f) (stands R T M g n h f)) none

  pub stay : (n : ℕ) (h : Atom) (f : FunName) → has (g.members n) h ≡ false → stands R T M g (suc n) h f ≡ stands R T M g n h f
  unfolding stands
  stay n h f out = stay_by (unchanged T M (g.members n) (stands R T M g n)) n h f out

  pub steady : (h : Atom) (f : FunName) (n m : ℕ) → n ≤ m → ((j : ℕ) → n ≤ j → j < m → has (g.members j) h ≡ false) → stands R T M g m h f ≡ stands R T M g n h f
  steady h f n zero low out = let e : zero ≡ n = omega (arith, low) in ap (λ k. stands R T M g k h f) e
  steady h f n (suc m) low out = by (cases_lt n (suc m)) (λ less. steady h f n m (omega (arith, less)) (λ j a b. out j a (omega (arith, b))))
    where
      by : (n < suc m) ⊎ (suc m ≤ n) → (n < suc m → stands R T M g m h f ≡ stands R T M g n h f) → stands R T M g (suc m) h f ≡ stands R T M g n h f
      by (inl less) rest = stay m h f (out m (omega (arith, less)) (omega arith)) ∙ rest less
      by (inr more) rest = let e : suc m ≡ n = omega (arith, low, more) in ap (λ k. stands R T M g k h f) e

  pub none_stands : (h : Atom) (f : FunName) → stands R T M g zero h f ≡ Unknown
  unfolding stands
  none_stands h f = refl

  pub kept_step : (n : ℕ) (h : Atom) (f : FunName) → is_kept R T M g n ≡ true → stands R T M g (suc n) h f ≡ with_entries T (g.members n) (stands R T M g n) h f
  unfolding stands is_kept
  kept_step n h f e = ap (λ b. cond b (with_entries T (g.members n) (stands R T M g n)) (with_results (handed M g n) R (stands R T M g n)) h f) e

  pub solved_step : (n : ℕ) (h : Atom) (f : FunName) → is_kept R T M g n ≡ false → stands R T M g (suc n) h f ≡ with_results (handed M g n) R (stands R T M g n) h f
  unfolding stands is_kept
  solved_step n h f e = ap (λ b. cond b (with_entries T (g.members n) (stands R T M g n)) (with_results (handed M g n) R (stands R T M g n)) h f) e

  pub kept_facts : (n : ℕ) (h : Atom) → is_kept R T M g n ≡ true → has (g.members n) h ≡ true → Stands (g.members n) (stands R T M g n) (source_of M h) (entry_of T h)
  unfolding is_kept
  kept_facts n h e in_it = unchanged_at T M (g.members n) (stands R T M g n) (g.members n) e h in_it

  pub kept_is : (h : Atom) → is_candidate T M h ≡ true → kept R T M g h ≡ is_kept R T M g (g.number h)
  unfolding kept
  kept_is h e = ap (λ b. b && is_kept R T M g (g.number h)) e

  pub kept_candidate : (h : Atom) → kept R T M g h ≡ true → is_candidate T M h ≡ true
  unfolding kept
  kept_candidate h e = (and_parts (is_candidate T M h) (is_kept R T M g (g.number h)) e).0

  pub finally_is : (h : Atom) (f : FunName) → finally R T M g h f ≡ stands R T M g g.count h f
  unfolding finally
  finally_is h f = refl

  -- ---- all groups

  module _ (is : IsGroups (is_candidate T M) (calls_of T M) g) where
    abbrev K : ℕ → Standing
    K = stands R T M g

    outside : (h : Atom) → is_candidate T M h ≡ false → (j : ℕ) → has (g.members j) h ≡ false
    outside h none j = false_from_ne_true (has (g.members j) h) (λ e. clash (is_candidate T M h) ((is.members j h).0 e).0 none)

    other : (h : Atom) (j : ℕ) → (g.number h ≡ j → ⊥) → has (g.members j) h ≡ false
    other h j apart = false_from_ne_true (has (g.members j) h) (λ e. apart ((is.members j h).0 e).1)

    -- of what is no candidate nothing is known, and of a candidate nothing before its group is decided
    pub not_candidate : (h : Atom) (f : FunName) (n : ℕ) → is_candidate T M h ≡ false → K n h f ≡ Unknown
    not_candidate h f n none = steady h f zero n (omega arith) (λ j a b. outside h none j) ∙ none_stands h f

    pub not_yet : (h : Atom) (f : FunName) (n : ℕ) → n ≤ g.number h → K n h f ≡ Unknown
    not_yet h f n low = steady h f zero n (omega arith) (λ j a b. other h j (λ e. omega (arith, e, b, low))) ∙ none_stands h f

    -- what stands of a name when its group is decided stands in the end
    pub settled : (h : Atom) (f : FunName) (n : ℕ) → g.number h < n → n ≤ g.count → finally R T M g h f ≡ K n h f
    settled h f n low high = finally_is h f ∙ steady h f n g.count high (λ j a b. other h j (λ e. omega (arith, e, a, low)))

    pub at_end : (h : Atom) (f : FunName) → is_candidate T M h ≡ true → finally R T M g h f ≡ K (suc (g.number h)) h f
    at_end h f node = settled h f (suc (g.number h)) (omega arith) (omega (arith, is.low h node))

    pub final_outside : (h : Atom) (f : FunName) → is_candidate T M h ≡ false → finally R T M g h f ≡ Unknown
    final_outside h f none = finally_is h f ∙ not_candidate h f g.count none

    pub final_kept : (h : Atom) (f : FunName) → is_candidate T M h ≡ true → is_kept R T M g (g.number h) ≡ true → finally R T M g h f ≡ callee_by (entry_of T h) f
    final_kept h f node e =
        at_end h f node ∙ kept_step (g.number h) h f e
        ∙ ap (λ c. cond c (callee_by (entry_of T h) f) (K (g.number h) h f)) (in_own_group (is_candidate T M) (calls_of T M) g is h node)

    in_handed : (h : Atom) → is_candidate T M h ≡ true → is_in (handed M g (g.number h)) h ≡ is_in M h
    in_handed h node = ap is_there (picked_there (has (g.members (g.number h))) M h (in_own_group (is_candidate T M) (calls_of T M) g is h node))

    pub final_solved : (h : Atom) (f : FunName) → is_candidate T M h ≡ true → is_kept R T M g (g.number h) ≡ false
        → finally R T M g h f ≡ cond (is_in M h) (callee_among (R h).exports f) Unknown
    final_solved h f node e =
        at_end h f node ∙ solved_step (g.number h) h f e
        ∙ ap₂ (λ c k. cond c (callee_among (R h).exports f) k) (in_handed h node) (not_yet h f (g.number h) (omega arith))

    -- what a member of a group calls is settled when the group is decided
    pub calls_settled : (h k : Atom) (f : FunName) → is_candidate T M h ≡ true → has (calls_of T M h) k ≡ true → finally R T M g k f ≡ K (suc (g.number h)) k f
    calls_settled h k f node call = by (is_candidate T M k) refl
      where
        by : (b : Bool) → is_candidate T M k ≡ b → finally R T M g k f ≡ K (suc (g.number h)) k f
        by true there =
            let low = is.downward h k (node, there, call) in
            settled k f (suc (g.number h)) (omega (arith, low)) (omega (arith, is.low h node))
        by false none = final_outside k f none ∙ sym (not_candidate k f (suc (g.number h)) none)

    -- and outside of the group it was so before
    pub calls_before : (h k : Atom) (f : FunName) → is_candidate T M h ≡ true → has (calls_of T M h) k ≡ true → has (g.members (g.number h)) k ≡ false → finally R T M g k f ≡ K (g.number h) k f
    calls_before h k f node call out = calls_settled h k f node call ∙ stay (g.number h) k f out
