-- Graphs over names: what a graph reaches in a larger one and in a smaller one, and when two graphs have one group.
use Rattle.std.proofs.Common.{◌≡◌, ℕ, ◌≤◌, Bool, true, ◌||◌, List, [], ◌∷◌, inl, inr, IsTrue, refl, sym, ap₂, ◌∙◌, subst, arith}
use Rattle.std.specs.Cmp.Lexicographic.{texts_ties}
use Rattle.std.proofs.lemmas.Bool.{and_from}
use Rattle.type_kinds.proofs.Truths.{first, second, same_tests}
use Rattle.type_kinds.specs.declared.atom.Atom.{Atom}
use Rattle.type_kinds_sets.specs.Ascending.{is_below_all, is_ascending, has_item}
use Rattle.type_kinds_sets.specs.Names.{name_cmp}
use Rattle.type_kinds_sets.proofs.AscendingLaws as ascending
use Rattle.type_kinds_sets.proofs.NameLaws.{name_total, name_same}
use Rattle.table_file.specs.Order.{rises, rises_from, is_name_before}
use Rattle.table_keep.specs.Groups.{has, Leads, Reaches, Together, Groups, IsGroups, group_of}
use Rattle.table_keep.specs.Groups.Reaches.{by_call, by_calls}

-- ---- lists of names that rise

-- what stands before the first stands before all
pub below_all : (x : Atom) (xs : List Atom) → rises_from is_name_before x xs ≡ true → is_below_all name_cmp x xs ≡ true
below_all x [] up = refl
below_all x (y ∷ ys) up =
    let low = first (is_name_before x y) (rises_from is_name_before y ys) up in
    let rest = below_all y ys (second (is_name_before x y) (rises_from is_name_before y ys) up) in
    and_from (is_name_before x y) (is_below_all name_cmp x ys) low
    (ascending.below_all-from_items name_total name_same x ys
    (λ q there. ascending.below-below name_total name_same x y q low (ascending.below_all-item name_total name_same y q ys rest there)))

-- what is behind the first rises too
pub rises_behind : (x : Atom) (xs : List Atom) → rises_from is_name_before x xs ≡ true → rises is_name_before xs ≡ true
rises_behind x [] up = refl
rises_behind x (y ∷ ys) up = second (is_name_before x y) (rises_from is_name_before y ys) up

all_ascend : (xs : List Atom) → rises is_name_before xs ≡ true → is_ascending name_cmp xs ≡ true
all_ascend [] up = refl
all_ascend (x ∷ xs) up = and_from (is_below_all name_cmp x xs) (is_ascending name_cmp xs) (below_all x xs up) (all_ascend xs (rises_behind x xs up))

pub has_is_item : (xs : List Atom) (h : Atom) → has xs h ≡ has_item name_cmp xs h
has_is_item [] h = refl
has_is_item (x ∷ xs) h = ap₂ (λ a b. a || b) (texts_ties h x) (has_is_item xs h)

-- two of the same names are one
pub rising_same : (xs ys : List Atom) → IsTrue (rises is_name_before xs) → IsTrue (rises is_name_before ys)
    → ((h : Atom) → has xs h ≡ has ys h) → xs ≡ ys
rising_same xs ys a b same = ascending.same-items name_total name_same xs ys (all_ascend xs a) (all_ascend ys b)
    (λ q e. sym (has_is_item ys q) ∙ sym (same q) ∙ has_is_item xs q ∙ e)
    (λ q e. sym (has_is_item xs q) ∙ same q ∙ has_is_item ys q ∙ e)

-- ---- one graph

module _ (nodes : Atom → Bool) (out : Atom → List Atom) where
  pub joined : (a b c : Atom) → Reaches nodes out a b → Reaches nodes out b c → Reaches nodes out a c
  joined _ _ c (by_call a b leads) more = by_calls a b c leads more
  joined _ _ c (by_calls a b d leads rest) more = by_calls a b c leads (joined b d c rest more)

  pub starts_at_node : (a b : Atom) → Reaches nodes out a b → nodes a ≡ true
  starts_at_node _ _ (by_call a b leads) = leads.0
  starts_at_node _ _ (by_calls a b c leads rest) = leads.0

  pub ends_at_node : (a b : Atom) → Reaches nodes out a b → nodes b ≡ true
  ends_at_node _ _ (by_call a b leads) = leads.1
  ends_at_node _ _ (by_calls a b c leads rest) = ends_at_node b c rest

  module _ (g : Groups) (is : IsGroups nodes out g) where
    -- numbers never rise on a way
    pub falls : (a b : Atom) → Reaches nodes out a b → g.number b ≤ g.number a
    falls _ _ (by_call a b leads) = is.downward a b leads
    falls _ _ (by_calls a b c leads rest) = omega (arith, is.downward a b leads, falls b c rest)

    -- a node stands in its own group
    pub in_own_group : (h : Atom) → nodes h ≡ true → has (group_of g h) h ≡ true
    in_own_group h node = (is.members (g.number h) h).1 (node, refl)

    pub member_is_node : (n : ℕ) (a : Atom) → has (g.members n) a ≡ true → nodes a ≡ true
    member_is_node n a e = ((is.members n a).0 e).0

    pub member_number : (n : ℕ) (a : Atom) → has (g.members n) a ≡ true → g.number a ≡ n
    member_number n a e = ((is.members n a).0 e).1

    -- who stands in the group of a node is together with it, and the other way round
    pub member_together : (h a : Atom) → nodes h ≡ true → has (group_of g h) a ≡ true → Together nodes out h a
    member_together h a node e =
        (is.together h a node (member_is_node (g.number h) a e)).0 (sym (member_number (g.number h) a e))

    pub together_member : (h a : Atom) → nodes h ≡ true → nodes a ≡ true → Together nodes out h a → has (group_of g h) a ≡ true
    together_member h a node other e = (is.members (g.number h) a).1 (other, sym ((is.together h a node other).1 e))

-- ---- a larger graph: more nodes, and each node of the first calls what it called

module _ (nodes : Atom → Bool) (out : Atom → List Atom) (more : Atom → Bool) (over : Atom → List Atom)
    (node : (a : Atom) → nodes a ≡ true → more a ≡ true) (same : (a : Atom) → nodes a ≡ true → out a ≡ over a) where
  leads_over : (a b : Atom) → Leads nodes out a b → Leads more over a b
  leads_over a b l = (node a l.0, node b l.1, subst (λ xs. has xs b ≡ true) (same a l.0) l.2)

  pub reaches_over : (a b : Atom) → Reaches nodes out a b → Reaches more over a b
  reaches_over _ _ (by_call a b leads) = by_call a b (leads_over a b leads)
  reaches_over _ _ (by_calls a b c leads rest) = by_calls a b c (leads_over a b leads) (reaches_over b c rest)

  pub together_over : (a b : Atom) → Together nodes out a b → Together more over a b
  together_over a b (inl e) = inl e
  together_over a b (inr both) = inr (reaches_over a b both.0, reaches_over b a both.1)

-- ---- the same graph, by other tests of its nodes: its groups are the same

module _ (nodes : Atom → Bool) (out : Atom → List Atom) (others : Atom → Bool) (over : Atom → List Atom) (node : (a : Atom) → nodes a ≡ true → others a ≡ true)
    (back : (a : Atom) → others a ≡ true → nodes a ≡ true) (same : (a : Atom) → nodes a ≡ true → out a ≡ over a) where
  same_back : (a : Atom) → others a ≡ true → over a ≡ out a
  same_back a e = sym (same a (back a e))

  pub groups_over : (g : Groups) → IsGroups nodes out g → IsGroups others over g
  groups_over g is = record {
    low = λ a e. is.low a (back a e);
    together = λ a b e f. let r = is.together a b (back a e) (back b f) in (
      λ number. together_over nodes out others over node same a b (r.0 number),
      λ with_it. r.1 (together_over others over nodes out back same_back a b with_it),
    );
    downward = λ a b l. is.downward a b (back a l.0, back b l.1, subst (λ xs. has xs b ≡ true) (same_back a l.0) l.2);
    members = λ n a. let r = is.members n a in (
      λ e. let k = r.0 e in (node a k.0, k.1),
      λ k. r.1 (back a k.0, k.1),
    );
    sorted = is.sorted;
  }

-- ---- back into a smaller graph that has all members of a group: a way between two members never leaves the group

module _ (nodes : Atom → Bool) (out : Atom → List Atom) (more : Atom → Bool) (over : Atom → List Atom) (g : Groups) (is : IsGroups more over g)
    (n : ℕ) (inside : (a : Atom) → has (g.members n) a ≡ true → nodes a ≡ true) (same : (a : Atom) → has (g.members n) a ≡ true → over a ≡ out a) where
  stays_inside : (a b c : Atom) → has (g.members n) a ≡ true → Leads more over a b → Reaches more over b c → has (g.members n) c ≡ true → has (g.members n) b ≡ true
  stays_inside a b c here leads rest there =
      let low : g.number b ≤ g.number a = is.downward a b leads in
      let high : g.number c ≤ g.number b = falls more over g is b c rest in
      let first_is : g.number a ≡ n = member_number more over g is n a here in
      let last_is : g.number c ≡ n = member_number more over g is n c there in
      let between : g.number b ≡ n = omega (arith, low, high, first_is, last_is) in
      (is.members n b).1 (leads.1, between)

  leads_back : (a b : Atom) → has (g.members n) a ≡ true → has (g.members n) b ≡ true → Leads more over a b → Leads nodes out a b
  leads_back a b here there l = (inside a here, inside b there, subst (λ xs. has xs b ≡ true) (same a here) l.2)

  reaches_back : (a b : Atom) → Reaches more over a b → has (g.members n) a ≡ true → has (g.members n) b ≡ true → Reaches nodes out a b
  reaches_back _ _ (by_call a b leads) here there = by_call a b (leads_back a b here there leads)
  reaches_back _ _ (by_calls a b c leads rest) here there =
      let next = stays_inside a b c here leads rest there in
      by_calls a b c (leads_back a b here next leads) (reaches_back b c rest next there)

  pub together_back : (a b : Atom) → Together more over a b → has (g.members n) a ≡ true → has (g.members n) b ≡ true → Together nodes out a b
  together_back a b (inl e) here there = inl e
  together_back a b (inr both) here there = inr (reaches_back a b both.0 here there, reaches_back b a both.1 there here)

-- ---- two graphs: a name has one group in both where the same names are together with it

module _ (nodes : Atom → Bool) (out : Atom → List Atom) (g : Groups) (is : IsGroups nodes out g)
    (others : Atom → Bool) (over : Atom → List Atom) (k : Groups) (are : IsGroups others over k) where
  pub one_group : (h : Atom) → nodes h ≡ true → others h ≡ true
      → ((a : Atom) → nodes a ≡ true → Together nodes out h a → (others a ≡ true) × Together others over h a)
      → ((a : Atom) → others a ≡ true → Together others over h a → (nodes a ≡ true) × Together nodes out h a)
      → (a : Atom) → has (group_of g h) a ≡ has (group_of k h) a
  one_group h here there to from a = same_tests (has (group_of g h) a) (has (group_of k h) a) forth back
    where
      forth : has (group_of g h) a ≡ true → has (group_of k h) a ≡ true
      forth e =
          let r = to a (member_is_node nodes out g is (g.number h) a e) (member_together nodes out g is h a here e) in
          together_member others over k are h a there r.0 r.1

      back : has (group_of k h) a ≡ true → has (group_of g h) a ≡ true
      back e =
          let r = from a (member_is_node others over k are (k.number h) a e) (member_together others over k are h a there e) in
          together_member nodes out g is h a here r.0 r.1

  pub one_list : (h : Atom) → ((a : Atom) → has (group_of g h) a ≡ has (group_of k h) a) → group_of g h ≡ group_of k h
  one_list h same = rising_same (group_of g h) (group_of k h) (is.sorted (g.number h)) (are.sorted (k.number h)) same
