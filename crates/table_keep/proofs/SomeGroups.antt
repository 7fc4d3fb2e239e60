-- Names have groups, whatever each of them calls: their places are the nodes of a graph, which has a numbering.
use Rattle.std.proofs.Common.{◌≡◌, ◌↔◌, ◌<◌, inl, inr, ℕ, Bool, true, false, List, [], ◌∷◌, Contains, Option, Some, None, length, slice_get, refl, sym, ap, ap₂, ◌∙◌, subst, true≢false, arith}
use Rattle.std.proofs.lemmas.List.{map-id}
use Rattle.std.proofs.lemmas.Option.{slice_get_within}
use Rattle.type_kinds.specs.declared.atom.Atom.{Atom}
use Rattle.type_kinds.proofs.Lists.{contains_first, contains_later, item_at}
use Rattle.type_kinds.proofs.Truths.{same_tests}
use Rattle.type_kinds_sets.specs.Ascending.{is_ascending, merged}
use Rattle.type_kinds_sets.specs.Names.{name_cmp}
use Rattle.type_kinds_sets.proofs.NameLaws.{name_total, name_same}
use Rattle.type_kinds_sets.proofs.AscendingLaws.{ascending-merged}
use Rattle.components.specs.Graph.{Leads}
use Rattle.components.specs.Numbering.{Numbering, members_of}
use Rattle.components.specs.Ready.{IsReadyNumbering, SomeNumbering}
use Rattle.components.proofs.Bounded.{Decided, listed, graph_of}
use Rattle.table_file.specs.Order.{rises, is_name_before}
use Rattle.table_keep.specs.Groups.{Groups, IsGroups, has, groups_in}
use Rattle.table_keep.specs.steps.Named.{NameLeads}
use Rattle.table_keep.proofs.ComponentGroups.{AreListsBy, are_groups}
use Rattle.table_keep.proofs.MemberLaws.{has_contained, contained_has}
use Rattle.table_keep.proofs.Rises.{ascending_rises}
use Rattle.table_keep.proofs.RisingLaws.{in_merged, merged_in}
use Rattle.table_keep.proofs.RisingNames.{AreAt, some_is}

-- the names at places
names_at : (names : List Atom) (places : List ℕ) → ((i : ℕ) → Contains places i → i < length names) → (xs : List Atom) × AreAt names places xs
names_at names [] low = ([], refl)
names_at names (i ∷ is) low =
    let x = item_at names i (low i (contains_first i is)) in
    let rest = names_at names is (λ j has_it. low j (contains_later i j is has_it)) in
    (x.0 ∷ rest.0, ap₂ (λ y ys. y ∷ ys) (sym x.1) rest.1)

module _ (numbers : SomeNumbering) (names : List Atom) (out : Atom → List Atom) where
  -- whether the name at a place calls that at another
  calling : (i j : ℕ) → Decided (NameLeads names out i j)
  calling i j = by (slice_get names i) refl (slice_get names j) refl
    where
      by : (a : Option Atom) → slice_get names i ≡ a → (b : Option Atom) → slice_get names j ≡ b → Decided (NameLeads names out i j)
      by None e b d = inr (λ h. absurd (let bad = sym e ∙ h.calling in cc))
      by (Some x) e None d = inr (λ h. absurd (let bad = sym d ∙ h.called in cc))
      by (Some x) e (Some y) d = tested (has (out x) y) refl
        where
          tested : (t : Bool) → has (out x) y ≡ t → Decided (NameLeads names out i j)
          tested true is = inl (record { caller = x; callee = y; calling = e; called = d; stands = is })
          tested false is = inr (λ h.
              let from : h.caller ≡ x = some_is h.caller x (sym h.calling ∙ e) in
              let to : h.callee ≡ y = some_is h.callee y (sym h.called ∙ d) in
              true≢false (sym h.stands ∙ ap₂ (λ p q. has (out p) q) from to ∙ is))

  leads_low : (i j : ℕ) → NameLeads names out i j → (i < length names) × (j < length names)
  leads_low i j h = (slice_get_within names i h.caller h.calling, slice_get_within names j h.callee h.called)

  graph : (graph : List (List ℕ)) × (length graph ≡ length names) × ((i j : ℕ) → Leads graph i j ↔ NameLeads names out i j)
  graph = graph_of (NameLeads names out) calling (length names) leads_low

  numbering : (c : Numbering) × IsReadyNumbering graph.0 c
  numbering = numbers graph.0 (λ i j h. omega (arith, graph.1, (leads_low i j ((graph.2 i j).0 h)).1))

  members_low : (n i : ℕ) → Contains (members_of numbering.0 n) i → i < length names
  members_low n i h = omega (arith, graph.1, ((numbering.1.members n i).0 h).0)

  group : (n : ℕ) → (xs : List Atom) × AreAt names (members_of numbering.0 n) xs
  group n = names_at names (members_of numbering.0 n) (members_low n)

  groups : List (List Atom)
  groups = (listed (λ n. (group n).0) numbering.0.count).0

  groups_are : AreListsBy names numbering.0 groups
  unfolding groups
  groups_are = record {
    count = (listed (λ n. (group n).0) numbering.0.count).1;
    members = λ n low. subst (AreAt names (members_of numbering.0 n)) (sym ((listed (λ n. (group n).0) numbering.0.count).2 n [] low)) (group n).1;
  }

  rising_groups : rises is_name_before names ≡ true → (g : Groups) × IsGroups (has names) out g
  rising_groups up =
      let c = numbering.1 in
      (groups_in groups, are_groups names out graph.0 numbering.0 groups up (record { counted = graph.1; pairs = graph.2 }) c.nodes c.together c.downward c.members c.kept groups_are)

-- The nodes are these names, in whatever order and however often each stands there.
pub some_groups : SomeNumbering → (nodes : Atom → Bool) (out : Atom → List Atom) (names : List Atom) → ((a : Atom) → (nodes a ≡ true) ↔ Contains names a) → (g : Groups) × IsGroups nodes out g
some_groups numbers nodes out names are =
    subst (λ (test : Atom → Bool). (g : Groups) × IsGroups test out g) (λ i a. same a i) (rising_groups numbers rising out up)
  where
    rising : List Atom
    rising = merged name_cmp [] names

    up : rises is_name_before rising ≡ true
    up =
        ascending_rises name_cmp is_name_before (λ y. y) (λ y z h. h) rising
        (ap (is_ascending name_cmp) (map-id rising) ∙ ascending-merged name_total name_same [] names refl)

    same : (a : Atom) → has rising a ≡ nodes a
    same a =
        same_tests (has rising a) (nodes a) (λ h. (are a).1 (merged_in name_total name_same names a (has_contained rising a h)))
        (λ h. contained_has rising a (in_merged name_total name_same names a ((are a).0 h)))
