-- The members of components, as they are found among the candidates, are groups of names.
use Rattle.std.proofs.Common.{◌≡◌, ℕ, zero, suc, inl, inr, true, List, [], ◌∷◌, Some, Contains, map, slice_get, slice_index_or, refl, sym, ap, ◌∙◌, subst, arith}
use Rattle.std.specs.Map.{lookup, keys_of}
use Rattle.std.proofs.lemmas.List.{length-map}
use Rattle.std.proofs.lemmas.Option.{get_or_from_slice_get}
use Rattle.type_kinds.specs.declared.atom.Atom.{Atom}
use Rattle.type_kinds.proofs.Lists.{contains_none, contains_cases, position_of, same_head, same_tail}
use Rattle.components.specs.Numbering.{Numbering, members_of, NumberingNodes, NumberingTogether, NumberingDownward, NumberingMembers, IsNumbering}
use Rattle.core_scope.specs.Names.{same_atom}
use Rattle.table_file.specs.Order.{rises, is_name_before}
use Rattle.table_file.specs.declared.tables.Table.{Table}
use Rattle.table_keep.specs.declared.candidates.Positions.{Positions}
use Rattle.table_keep.specs.declared.group_list.GroupList.{GroupList}
use Rattle.table_keep.specs.declared.group_list.GroupMember.{GroupMember}
use Rattle.table_keep.specs.declared.source.Source.{Source}
use Rattle.table_keep.specs.Groups.{IsGroups, group_at, groups_in}
use Rattle.table_keep.specs.Kept.{calls_of, is_candidate}
use Rattle.table_keep.specs.Lists.{found_at, lists_of, member_names, IsListOf, IsMemberOf, IsWithin}
use Rattle.table_keep.specs.Model.{entries_so, sources_so}
use Rattle.table_keep.specs.steps.Candidates.{entry_names, place_of, source_names, standing}
use Rattle.table_keep.specs.steps.Members.{as_found, AreGroupsOf, AreMembers}
use Rattle.table_keep.specs.steps.Named.{IsGraphOf}
use Rattle.table_keep.proofs.ComponentGroups.{are_groups}
use Rattle.table_keep.proofs.RisingNames.{AreAt}
use Rattle.table_keep.proofs.StandingNames.{both_entry, both_source, candidates_are, entry_placed, entry_within, lookup_at, named_at, source_placed, source_within}

-- ---- members at places

names_at : (es : List (Atom × Positions)) (places : List ℕ) (ms : List GroupMember) → AreMembers es places ms → AreAt (keys_of es) places (member_names ms)
names_at es [] [] e = refl
names_at es [] (m ∷ ms) e = absurd cc
names_at es (i ∷ is) [] e = absurd cc
names_at es (i ∷ is) (m ∷ ms) e =
    let here : slice_get es i ≡ Some (as_found m) = sym (same_head (Some (as_found m)) (slice_get es i) (map (λ n. Some (as_found n)) ms) (map (slice_get es) is) e) in
    let head : Some m.name ≡ slice_get (keys_of es) i = sym (named_at (λ x. x.0) es i (as_found m) here) in
    let tail = names_at es is ms (same_tail (Some (as_found m)) (slice_get es i) (map (λ n. Some (as_found n)) ms) (map (slice_get es) is) e) in
    λ j. head j ∷ tail j

member_found : (es : List (Atom × Positions)) (places : List ℕ) (ms : List GroupMember) → AreMembers es places ms → (m : GroupMember) → Contains ms m → (i : ℕ) × (slice_get es i ≡ Some (as_found m))
member_found es places [] e m has = absurd (contains_none m has)
member_found es [] (n ∷ ms) e m has = absurd cc
member_found es (i ∷ is) (n ∷ ms) e m has = elim (contains_cases n m ms has) [
  | inl same ↦ (i, sym (same_head (Some (as_found n)) (slice_get es i) (map (λ k. Some (as_found k)) ms) (map (slice_get es) is) e) ∙ ap (λ k. Some (as_found k)) same)
  | inr later ↦ member_found es is ms (same_tail (Some (as_found n)) (slice_get es i) (map (λ k. Some (as_found k)) ms) (map (slice_get es) is) e) m later
]

-- ---- groups

names_of : (gs : List (List GroupMember)) (n : ℕ) → group_at (map member_names gs) n ≡ member_names (slice_index_or gs n [])
names_of [] n = refl
names_of (g ∷ gs) zero = refl
names_of (g ∷ gs) (suc n) = names_of gs n

module _ (table : Table) (sources : List Source) (es : List (Atom × Positions)) (up : rises is_name_before (keys_of es) ≡ true)
    (stands : (q : Atom) → lookup (same_atom q) es ≡ standing (source_names sources) (entry_names table.entries) q) (c : Numbering) (list : GroupList) (so : AreGroupsOf es c list.groups c.count) where
  names_of_group : (n : ℕ) → group_at (lists_of list) n ≡ member_names (slice_index_or list.groups n [])
  names_of_group n = names_of list.groups n

  pub groups_law : (graph : List (List ℕ)) → IsGraphOf (keys_of es) (calls_of (entries_so table) (sources_so sources)) graph → NumberingNodes graph c → NumberingTogether graph c → NumberingDownward graph c
      → NumberingMembers graph c → IsNumbering c
      → IsGroups (is_candidate (entries_so table) (sources_so sources)) (calls_of (entries_so table) (sources_so sources)) (groups_in (lists_of list))
  groups_law graph is nodes together downward members kept =
      subst (λ some. IsGroups some (calls_of (entries_so table) (sources_so sources)) (groups_in (lists_of list))) (candidates_are table sources es stands)
      (are_groups (keys_of es) (calls_of (entries_so table) (sources_so sources)) graph c (lists_of list) up is nodes together downward members kept (record {
        count = length-map list.groups member_names ∙ so.counted;
        members = λ n low. subst (AreAt (keys_of es) (members_of c n)) (sym (names_of_group n)) (names_at es (members_of c n) (slice_index_or list.groups n []) (so.members n low));
      }))

  member_law : (m : GroupMember) (i : ℕ) → slice_get es i ≡ Some (as_found m) → IsMemberOf table sources m
  member_law m i at =
      let told = sym (stands m.name) ∙ lookup_at es up i m.name (record { source = m.source; entry = m.entry }) at in
      let a = place_of (source_names sources) m.name in
      let b = place_of (entry_names table.entries) m.name in
      let source : m.source ≡ a = both_source a b (record { source = m.source; entry = m.entry }) told in
      let entry : m.entry ≡ b = both_entry a b (record { source = m.source; entry = m.entry }) told in
      record {
        source_within = subst (IsWithin sources) (sym source) (source_within sources m.name);
        source_is = source_placed sources m.name ∙ ap (found_at (sources_so sources)) (sym source);
        entry_within = subst (IsWithin table.entries) (sym entry) (entry_within table.entries m.name);
        entry_is = entry_placed table.entries m.name ∙ ap (found_at (entries_so table)) (sym entry);
      }

  pub list_law : IsListOf table sources list
  list_law group m among has =
      let at = position_of list.groups group among in
      let is : slice_index_or list.groups at.0 [] ≡ group = get_or_from_slice_get list.groups at.0 group [] at.2 in
      let r = member_found es (members_of c at.0) group (subst (AreMembers es (members_of c at.0)) is (so.members at.0 (omega (arith, at.1, so.counted)))) m has in
      member_law m r.0 r.1
