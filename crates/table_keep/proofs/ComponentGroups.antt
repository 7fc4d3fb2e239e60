-- The components of places are the groups of names.
use Rattle.std.proofs.Common.{◌≡◌, ℕ, zero, suc, ◌<◌, ◌≤◌, ◌⊎◌, inl, inr, Bool, true, false, cond, ◌||◌, List, [], ◌∷◌, length, Some, slice_get, IsTrue, refl, sym, ap, ◌∙◌, subst, true≢false, arith}
use Rattle.std.specs.Cmp.Lexicographic.{bytes_decides}
use Rattle.std.proofs.lemmas.Bool.{cases_lt, false_from_ne_true}
use Rattle.std.proofs.lemmas.List.{get_or_past}
use Rattle.std.proofs.lemmas.Option.{slice_get_within}
use Rattle.type_kinds.specs.declared.atom.Atom.{Atom}
use Rattle.components.specs.Graph.{Leads, Reaches, by_pair, by_pairs, Together}
use Rattle.components.specs.Numbering.{Numbering, component_of_node, members_of, NumberingNodes, NumberingTogether, NumberingDownward, NumberingMembers, IsNumbering}
use Rattle.core_scope.specs.Names.{same_atom}
use Rattle.table_file.specs.Order.{rises, is_name_before}
use Rattle.table_keep.specs.Groups as g
use Rattle.table_keep.specs.Groups.{IsGroups, has, position_in, group_at, groups_in}
use Rattle.table_keep.specs.steps.Named.{IsGraphOf, NameLeads}
use Rattle.table_keep.proofs.RisingNames.{AreAt, some_is, has_at, stands_once, place_of_has, has_of_place, rises_at_places}

-- the first place of a name
abbrev place : List Atom → Atom → ℕ
place [] h = 0
place (x ∷ xs) h = cond (same_atom h x) 0 (suc (place xs h))

at_place : (names : List Atom) (h : Atom) → has names h ≡ true → slice_get names (place names h) ≡ Some h
at_place [] h e = absurd (true≢false (sym e))
at_place (x ∷ xs) h e = by (same_atom h x) refl (at_place xs h)
  where
    by : (b : Bool) → same_atom h x ≡ b → (has xs h ≡ true → slice_get xs (place xs h) ≡ Some h) → slice_get (x ∷ xs) (cond b 0 (suc (place xs h))) ≡ Some h
    by true is rest = ap Some (sym ((bytes_decides h x).0 is))
    by false is rest = rest (ap (λ b. b || has xs h) (sym is) ∙ e)

-- the first list that has the name
position_is : (lists : List (List Atom)) (a : Atom) (k : ℕ) → k < length lists → has (group_at lists k) a ≡ true → ((n : ℕ) → n < k → has (group_at lists n) a ≡ true → ⊥) → position_in lists a ≡ k
position_is [] a k low here none = absurd (omega (arith, low))
position_is (x ∷ xs) a zero low here none = ap (λ b. cond b 0 (suc (position_in xs a))) here
position_is (x ∷ xs) a (suc k) low here none =
    ap (λ b. cond b 0 (suc (position_in xs a))) (false_from_ne_true (has x a) (none 0 (omega arith)))
    ∙ ap suc (position_is xs a k (omega (arith, low)) here (λ n lt. none (suc n) (omega (arith, lt))))

-- the lists have the names at the members of the components
pub record AreListsBy (names : List Atom) (c : Numbering) (lists : List (List Atom)) : Type 0 where
  pub count : length lists ≡ c.count
  pub members : (n : ℕ) → n < c.count → AreAt names (members_of c n) (group_at lists n)

module _ (names : List Atom) (out : Atom → List Atom) (graph : List (List ℕ)) (c : Numbering) (lists : List (List Atom)) (up : rises is_name_before names ≡ true)
    (is : IsGraphOf names out graph) (nodes : NumberingNodes graph c) (together : NumberingTogether graph c) (downward : NumberingDownward graph c)
    (members : NumberingMembers graph c) (kept : IsNumbering c) (are : AreListsBy names c lists) where
  lead_up : (i j : ℕ) (a b : Atom) → slice_get names i ≡ Some a → slice_get names j ≡ Some b → Leads graph i j → g.Leads (has names) out a b
  lead_up i j a b at_i at_j l =
      let n : NameLeads names out i j = (is.pairs i j).0 l in
      let caller : n.caller ≡ a = some_is n.caller a (sym n.calling ∙ at_i) in
      let callee : n.callee ≡ b = some_is n.callee b (sym n.called ∙ at_j) in
      (has_at names i a at_i, has_at names j b at_j, subst (λ z. has (out z) b ≡ true) caller (subst (λ z. has (out n.caller) z ≡ true) callee n.stands))

  reach_up : (i j : ℕ) → Reaches graph i j → (a b : Atom) → slice_get names i ≡ Some a → slice_get names j ≡ Some b → g.Reaches (has names) out a b
  reach_up _ _ (by_pair i j l) a b at_i at_j = g.by_call a b (lead_up i j a b at_i at_j l)
  reach_up _ _ (by_pairs i m j l rest) a b at_i at_j =
      let n : NameLeads names out i m = (is.pairs i m).0 l in
      g.by_calls a n.callee b (lead_up i m a n.callee at_i n.called l) (reach_up m j rest n.callee b n.called at_j)

  lead_down : (a b : Atom) → g.Leads (has names) out a b → Leads graph (place names a) (place names b)
  lead_down a b l = (is.pairs (place names a) (place names b)).1 (record { caller = a; callee = b; calling = at_place names a l.0; called = at_place names b l.1; stands = l.2 })

  reach_down : (a b : Atom) → g.Reaches (has names) out a b → Reaches graph (place names a) (place names b)
  reach_down _ _ (g.by_call a b l) = by_pair (place names a) (place names b) (lead_down a b l)
  reach_down _ _ (g.by_calls a m b l rest) = by_pairs (place names a) (place names m) (place names b) (lead_down a m l) (reach_down m b rest)

  low_place : (a : Atom) → has names a ≡ true → place names a < length graph
  low_place a e = subst (λ n. place names a < n) (sym is.counted) (slice_get_within names (place names a) a (at_place names a e))

  together_up : (a b : Atom) → has names a ≡ true → has names b ≡ true → Together graph (place names a) (place names b) → g.Together (has names) out a b
  together_up a b ha hb (inl e) = inl (some_is a b (sym (at_place names a ha) ∙ ap (slice_get names) e ∙ at_place names b hb))
  together_up a b ha hb (inr both) =
      inr (reach_up (place names a) (place names b) both.0 a b (at_place names a ha) (at_place names b hb), reach_up (place names b) (place names a) both.1 b a (at_place names b hb) (at_place names a ha))

  together_down : (a b : Atom) → g.Together (has names) out a b → Together graph (place names a) (place names b)
  together_down a b (inl e) = inl (ap (place names) e)
  together_down a b (inr both) = inr (reach_down a b both.0, reach_down b a both.1)

  place_is : (i : ℕ) (a : Atom) → slice_get names i ≡ Some a → place names a ≡ i
  place_is i a e = stands_once names up (place names a) i a (at_place names a (has_at names i a e)) e

  -- the number of a name's component
  abbrev number : Atom → ℕ
  number a = component_of_node c (place names a)

  listed_up : (n : ℕ) (a : Atom) → n < c.count → has (group_at lists n) a ≡ true → (has names a ≡ true) × (number a ≡ n)
  listed_up n a low h =
      let m = place_of_has names (members_of c n) (group_at lists n) (are.members n low) a h in
      (has_at names m.0 a m.2, ap (component_of_node c) (place_is m.0 a m.2) ∙ ((members n m.0).0 m.1).1)

  low_number : (a : Atom) → has names a ≡ true → number a < c.count
  low_number a h = nodes.1 (place names a) (low_place a h)

  listed_down : (a : Atom) → has names a ≡ true → has (group_at lists (number a)) a ≡ true
  listed_down a h =
      has_of_place names (members_of c (number a)) (group_at lists (number a)) (are.members (number a) (low_number a h)) a (place names a) ((members (number a) (place names a)).1 (low_place a h, refl)) (at_place names a h)

  below_count : (n : ℕ) → n < c.count → n < length lists
  below_count n low = subst (λ k. n < k) (sym are.count) low

  -- what a list has is a group below the count
  listed_low : (n : ℕ) (a : Atom) → has (group_at lists n) a ≡ true → n < c.count
  listed_low n a h = by (cases_lt n c.count)
    where
      by : (n < c.count) ⊎ (c.count ≤ n) → n < c.count
      by (inl low) = low
      by (inr past) = absurd (true≢false (sym h ∙ ap (λ l. has l a) (get_or_past lists n [] (omega (arith, past, are.count)))))

  position_number : (a : Atom) → has names a ≡ true → position_in lists a ≡ number a
  position_number a h =
      position_is lists a (number a) (below_count (number a) (low_number a h)) (listed_down a h) (λ n lt e. let r = listed_up n a (listed_low n a e) e in omega (arith, lt, r.1))

  pub are_groups : IsGroups (has names) out (groups_in lists)
  are_groups = record {
    low = λ a h. subst (λ n. n < length lists) (sym (position_number a h)) (below_count (number a) (low_number a h));
    together = λ a b ha hb. (
      (λ e. together_up a b ha hb ((together (place names a) (place names b) (low_place a ha) (low_place b hb)).0 (sym (position_number a ha) ∙ e ∙ position_number b hb))),
      (λ t. position_number a ha ∙ (together (place names a) (place names b) (low_place a ha) (low_place b hb)).1 (together_down a b t) ∙ sym (position_number b hb)),
    );
    downward = λ a b l.
        subst (λ n. n ≤ position_in lists a) (sym (position_number b l.1)) (subst (λ n. number b ≤ n) (sym (position_number a l.0)) (downward (place names a) (place names b) (lead_down a b l)));
    members = λ n a. (from n a, λ both. to n a both.0 both.1);
    sorted = sorted;
  }
    where
      from : (n : ℕ) (a : Atom) → has (group_at lists n) a ≡ true → (has names a ≡ true) × (position_in lists a ≡ n)
      from n a e = let r = listed_up n a (listed_low n a e) e in (r.0, position_number a r.0 ∙ r.1)

      to : (n : ℕ) (a : Atom) → has names a ≡ true → position_in lists a ≡ n → has (group_at lists n) a ≡ true
      to n a h e = subst (λ k. has (group_at lists k) a ≡ true) (sym (position_number a h) ∙ e) (listed_down a h)

      sorted : (n : ℕ) → IsTrue (rises is_name_before (group_at lists n))
      sorted n = by (cases_lt n c.count)
        where
          by : (n < c.count) ⊎ (c.count ≤ n) → rises is_name_before (group_at lists n) ≡ true
          by (inl low) = rises_at_places names up (members_of c n) (group_at lists n) (kept.members_sorted n low) (are.members n low)
          by (inr past) = ap (rises is_name_before) (get_or_past lists n [] (omega (arith, past, are.count)))
