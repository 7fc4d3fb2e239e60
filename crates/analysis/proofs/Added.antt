-- The entries of the new table are added member by member, and group by group.
use Rattle.std.proofs.Common.{◌≡◌, ℕ, ◌+◌, ◌<◌, ◌≤◌, Bool, true, false, cond, ◌||◌, List, [], ◌∷◌, ◌++◌, ◌⊎◌, inl, inr, map}
use Rattle.std.proofs.Common.{get_or, slice_get, Contains, Option, Some, None, refl, sym, ap, ◌∙◌, subst, arith}
use Rattle.std.proofs.lemmas.Bool.{cases_lt, or_cases, or_left, or_right}
use Rattle.std.proofs.lemmas.List.Folds.{list_any-append}
use Rattle.std.proofs.lemmas.Option.{slice_get-map, slice_get-get_or}
use Rattle.std.specs.Prelude.{option_map}
use Rattle.std.proofs.Math.Bool.{or-false}
use Rattle.type_kinds.proofs.Lists.{contains_none, contains_at, contains_cases}
use Rattle.type_kinds.specs.declared.atom.Atom.{Atom}
use Rattle.core_scope.specs.Names.{Distinct, same_atom}
use Rattle.analysis_summaries.specs.Known.{module_names}
use Rattle.comp_rounds.specs.Rounds.{Callees}
use Rattle.table_file.specs.declared.entries.Entry.{Entry as StoredEntry}
use Rattle.table_keep.specs.declared.source.Source.{Source as HandedIn}
use Rattle.table_keep.specs.declared.group_list.GroupMember.{GroupMember}
use Rattle.table_keep.specs.Lists.{found_at, member_names, IsWithin}
use Rattle.table_keep.specs.Model.{Source, Entry, source_so, sources_so, entry_so, trees, source_of, is_there, is_in, entry_of}
use Rattle.table_keep.specs.Groups.{Groups, IsGroups, has, group_of}
use Rattle.table_keep.specs.Kept.{is_candidate, calls_of}
use Rattle.table_keep.specs.Made.{made, exported, AreSummarized}
use Rattle.sound_laws_kept.proofs.Names.{clash, itself, name_is, some_is, none_some, contained_in}
use Rattle.analysis.specs.steps.Deciding.{seen}
use Rattle.analysis.specs.steps.Making.{IsMade, AreNew}
use Rattle.analysis.specs.steps.Adding.{Adds, AreAdded}
use Rattle.analysis.proofs.Handed.{one_position, source_at}

-- ---- positions

pub found_source : (ss : List HandedIn) (o : Option ℕ) (i : ℕ) (s : HandedIn) → o ≡ Some i → IsWithin ss o → s ≡ get_or ss i s → slice_get ss i ≡ Some s
found_source ss o i s is within at = slice_get-get_or ss i s (subst (IsWithin ss) is within) ∙ ap Some (sym at)

pub member_source : (ss : List HandedIn) (name : Atom) (o : Option ℕ) (i : ℕ) (s : HandedIn) → source_of (sources_so ss) name ≡ found_at (sources_so ss) o → o ≡ Some i → slice_get ss i ≡ Some s
    → source_of (sources_so ss) name ≡ Some (source_so s)
member_source ss name o i s found is at = found ∙ ap (found_at (sources_so ss)) is ∙ source_at ss i s at

pub member_entry : (es : List StoredEntry) (name : Atom) (o : Option ℕ) (i : ℕ) (e copy : StoredEntry) → entry_of (map entry_so es) name ≡ found_at (map entry_so es) o → o ≡ Some i → slice_get es i ≡ Some e
    → copy ≡ e → entry_of (map entry_so es) name ≡ Some (entry_so copy)
member_entry es name o i e copy found is at same =
    found ∙ ap (found_at (map entry_so es)) is ∙ slice_get-map entry_so es i ∙ ap (option_map entry_so) at ∙ ap (λ x. Some (entry_so x)) (sym same)

pub member_has : (members : List GroupMember) (m : GroupMember) → Contains members m → has (member_names members) m.name ≡ true
member_has [] m there = absurd (contains_none m there)
member_has (x ∷ xs) m there = elim (contains_cases x m xs there) [
  | inl same ↦ or_left (same_atom m.name x.name) (has (member_names xs) m.name) (ap (λ (z : GroupMember). same_atom m.name z.name) same ∙ itself m.name)
  | inr more ↦ or_right (same_atom m.name x.name) (has (member_names xs) m.name) (member_has xs m more)
]

module _ (K : List Entry) (M : List Source) (known : Callees) (lines : List (List ℕ)) where
  -- ---- member by member

  pub adds_no_name : (group : List Atom) (entry : Atom → Option Entry) → Adds K M known lines group [] entry entry
  adds_no_name group entry = record {
    kept = λ h e is. clash false is refl;
    made = λ i s at is. clash false is refl;
    others = λ h none. refl;
  }

  one_of : (name h : Atom) → has (name ∷ []) h ≡ true → h ≡ name
  one_of name h e = name_is h name (sym (or-false (same_atom h name)) ∙ e)

  pub adds_one_more : (group names : List Atom) (name : Atom) (before now after : Atom → Option Entry) → Adds K M known lines group names before now → Adds K M known lines group (name ∷ []) now after
      → Adds K M known lines group (names ++ name ∷ []) before after
  adds_one_more group names name before now after first last = record {
    kept = λ h e is at. kept_by h e at (has (name ∷ []) h) refl (parts h is);
    made = λ i s at is none. made_by i s at none (has (name ∷ []) s.tree.name) refl (parts s.tree.name is);
    others = λ h none.
        last.others h (λ e. none (list_any-append (same_atom h) names (name ∷ []) ∙ or_right (has names h) (has (name ∷ []) h) e))
        ∙ first.others h (λ e. none (list_any-append (same_atom h) names (name ∷ []) ∙ or_left (has names h) (has (name ∷ []) h) e));
  }
    where
      parts : (h : Atom) → has (names ++ name ∷ []) h ≡ true → (has names h ≡ true) ⊎ (has (name ∷ []) h ≡ true)
      parts h is = or_cases (has names h) (has (name ∷ []) h) (sym (list_any-append (same_atom h) names (name ∷ [])) ∙ is)

      stays : (h : Atom) → has (name ∷ []) h ≡ false → after h ≡ now h
      stays h out = last.others h (λ e. clash (has (name ∷ []) h) e out)

      kept_by : (h : Atom) (e : Entry) → entry_of K h ≡ Some e → (b : Bool) → has (name ∷ []) h ≡ b → (has names h ≡ true) ⊎ (has (name ∷ []) h ≡ true) → after h ≡ Some e
      kept_by h e at true is p = last.kept h e is at
      kept_by h e at false is (inl old) = stays h is ∙ first.kept h e old at
      kept_by h e at false is (inr new) = clash (has (name ∷ []) h) new is

      made_by : (i : ℕ) (s : Source) → slice_get M i ≡ Some s → entry_of K s.tree.name ≡ None → (b : Bool) → has (name ∷ []) s.tree.name ≡ b
          → (has names s.tree.name ≡ true) ⊎ (has (name ∷ []) s.tree.name ≡ true) → IsMade s group known (slice_get lines i) (after s.tree.name)
      made_by i s at none true is p = last.made i s at is none
      made_by i s at none false is (inl old) = subst (IsMade s group known (slice_get lines i)) (sym (stays s.tree.name is)) (first.made i s at old none)
      made_by i s at none false is (inr new) = clash (has (name ∷ []) s.tree.name) new is

  -- ---- one member

  -- where an entry is put under a name
  abbrev PutsEntry : (before after : Atom → Option Entry) → Entry → Type 0
  PutsEntry before after e = (h : Atom) → after h ≡ cond (same_atom h e.name) (Some e) (before h)

  put_there : (before after : Atom → Option Entry) (e : Entry) → PutsEntry before after e → (h : Atom) → h ≡ e.name → after h ≡ Some e
  put_there before after e puts h is = puts h ∙ ap (λ b. cond b (Some e) (before h)) (ap (same_atom h) (sym is) ∙ itself h)

  put_beside : (before after : Atom → Option Entry) (e : Entry) → PutsEntry before after e → (h : Atom) → same_atom h e.name ≡ false → after h ≡ before h
  put_beside before after e puts h out = puts h ∙ ap (λ b. cond b (Some e) (before h)) out

  named : (T : List Entry) (h : Atom) (e : Entry) → entry_of T h ≡ Some e → e.name ≡ h
  named [] h e at = none_some at
  named (x ∷ xs) h e at = by (same_atom h x.name) refl at (named xs h e)
    where
      by : (b : Bool) → same_atom h x.name ≡ b → cond b (Some x) (entry_of xs h) ≡ Some e → (entry_of xs h ≡ Some e → e.name ≡ h) → e.name ≡ h
      by true is a rest = ap (λ (z : Entry). z.name) (sym (some_is a)) ∙ sym (name_is h x.name is)
      by false is a rest = rest a

  pub adds_kept : (group : List Atom) (name : Atom) (e : Entry) (before after : Atom → Option Entry) → entry_of K name ≡ Some e → PutsEntry before after e
      → Adds K M known lines group (name ∷ []) before after
  adds_kept group name e before after at puts = record {
    kept = λ h x is there.
        let q = one_of name h is in
        put_there before after e puts h (q ∙ sym (named K name e at)) ∙ sym at ∙ ap (entry_of K) (sym q) ∙ there;
    made = λ i s there is none. none_some (sym none ∙ ap (entry_of K) (one_of name s.tree.name is) ∙ at);
    others = λ h none. by h none (same_atom h e.name) refl;
  }
    where
      by : (h : Atom) → (has (name ∷ []) h ≡ true → (is_in M h ≡ false) × (entry_of K h ≡ None)) → (b : Bool) → same_atom h e.name ≡ b → after h ≡ before h
      by h none false out = put_beside before after e puts h out
      by h none true is =
          let q : h ≡ name = name_is h e.name is ∙ named K name e at in
          none_some (sym (none (or_left (same_atom h name) false (ap (same_atom h) (sym q) ∙ itself h))).1 ∙ ap (entry_of K) q ∙ at)

  pub adds_made : (once : Distinct (module_names (trees M))) (group : List Atom) (name : Atom) (i : ℕ) (s : Source) (e : Entry) (text : List ℕ) (before after : Atom → Option Entry)
      → slice_get M i ≡ Some s → s.tree.name ≡ name → entry_of K name ≡ None → e ≡ made s group (seen known) e.result
      → AreSummarized known s.tree.name (exported s.tree) e.result.exports → slice_get lines i ≡ Some text → e.result.lines ≡ text → PutsEntry before after e
      → Adds K M known lines group (name ∷ []) before after
  adds_made once group name i s e text before after at is none so summarized line told puts = record {
    kept = λ h x there stored. none_some (sym none ∙ ap (entry_of K) (sym (one_of name h there)) ∙ stored);
    made = λ j t at_t there none_t. made_here j t at_t (one_of name t.tree.name there);
    others = λ h out. by h out (same_atom h e.name) refl;
  }
    where
      own : e.name ≡ s.tree.name
      own = ap (λ (z : Entry). z.name) so

      here : IsMade s group known (slice_get lines i) (after s.tree.name)
      here = (e.result, put_there before after e puts s.tree.name (sym own) ∙ ap Some so, summarized, line ∙ ap Some (sym told))

      name_at : (k : ℕ) (z : Source) → slice_get M k ≡ Some z → slice_get (module_names (trees M)) k ≡ Some z.tree.name
      name_at k z there =
          slice_get-map (λ (x : _). x.name) (trees M) k ∙ ap (option_map (λ (x : _). x.name)) (slice_get-map (λ (y : Source). y.tree) M k ∙ ap (option_map (λ (y : Source). y.tree)) there)

      made_here : (j : ℕ) (t : Source) → slice_get M j ≡ Some t → t.tree.name ≡ name → IsMade t group known (slice_get lines j) (after t.tree.name)
      made_here j t at_t named_t =
          let position : i ≡ j = one_position (module_names (trees M)) once i j s.tree.name (name_at i s at) (name_at j t at_t ∙ ap Some (named_t ∙ sym is)) in
          let same : s ≡ t = some_is (sym at ∙ ap (slice_get M) position ∙ at_t) in
          subst (λ k. IsMade t group known (slice_get lines k) (after t.tree.name)) position (subst (λ (z : Source). IsMade z group known (slice_get lines i) (after z.tree.name)) same here)

      by : (h : Atom) → (has (name ∷ []) h ≡ true → (is_in M h ≡ false) × (entry_of K h ≡ None)) → (b : Bool) → same_atom h e.name ≡ b → after h ≡ before h
      by h out false apart = put_beside before after e puts h apart
      by h out true same =
          let q : h ≡ name = name_is h e.name same ∙ own ∙ is in
          let lacks = (out (or_left (same_atom h name) false (ap (same_atom h) (sym q) ∙ itself h))).0 in
          clash (is_in M s.tree.name) (contained_in M s (contains_at M i s at)) (ap (is_in M) (is ∙ sym q) ∙ lacks)

  pub adds_nothing : (group : List Atom) (name : Atom) (entry : Atom → Option Entry) → source_of M name ≡ None → entry_of K name ≡ None → Adds K M known lines group (name ∷ []) entry entry
  adds_nothing group name entry no_source no_entry = record {
    kept = λ h x there stored. none_some (sym no_entry ∙ ap (entry_of K) (sym (one_of name h there)) ∙ stored);
    made = λ i s at there none.
        clash (is_in M s.tree.name) (contained_in M s (contains_at M i s at)) (ap (λ k. is_there (source_of M k)) (one_of name s.tree.name there) ∙ ap is_there no_source);
    others = λ h none. refl;
  }

  -- ---- group by group

  pub none_added : (g : Groups) (entry : Atom → Option Entry) → ((h : Atom) → entry h ≡ None) → AreAdded K M known lines g 0 entry
  none_added g entry none = record {
    kept = λ h e low. absurd (omega (arith, low));
    made = λ i s at low. absurd (omega (arith, low));
    others = λ h a b. none h;
  }

  module _ (g : Groups) (is : IsGroups (is_candidate K M) (calls_of K M) g) where
    in_candidate : (h : Atom) → is_in M h ≡ true → is_candidate K M h ≡ true
    in_candidate h e = ap (λ b. b || is_there (entry_of K h)) e

    stored_candidate : (h : Atom) (e : Entry) → entry_of K h ≡ Some e → is_candidate K M h ≡ true
    stored_candidate h e at = or_right (is_in M h) (is_there (entry_of K h)) (ap is_there at)

    pub added_more : (n : ℕ) (before after : Atom → Option Entry) → AreAdded K M known lines g n before → Adds K M known lines (g.members n) (g.members n) before after
        → AreAdded K M known lines g (n + 1) after
    added_more n before after inv adds = record {
      kept = λ h e low at. kept_by h e at (cases_lt (g.number h) n) low;
      made = λ i s at low none. made_by i s at none (cases_lt (g.number s.tree.name) n) low;
      others = λ h out none. adds.others h (λ e. (out, none)) ∙ inv.others h out none;
    }
      where
        beyond : (h : Atom) → g.number h < n → after h ≡ before h
        beyond h low = adds.others h (λ e. let number = ((is.members n h).0 e).1 in absurd (omega (arith, low, number)))

        kept_by : (h : Atom) (e : Entry) → entry_of K h ≡ Some e → (g.number h < n) ⊎ (n ≤ g.number h) → g.number h < n + 1 → after h ≡ Some e
        kept_by h e at (inl less) low = beyond h less ∙ inv.kept h e less at
        kept_by h e at (inr high) low = adds.kept h e ((is.members n h).1 (stored_candidate h e at, omega (arith, high, low))) at

        made_by : (i : ℕ) (s : Source) → slice_get M i ≡ Some s → entry_of K s.tree.name ≡ None → (g.number s.tree.name < n) ⊎ (n ≤ g.number s.tree.name) → g.number s.tree.name < n + 1
            → IsMade s (group_of g s.tree.name) known (slice_get lines i) (after s.tree.name)
        made_by i s at none (inl less) low = subst (IsMade s (group_of g s.tree.name) known (slice_get lines i)) (sym (beyond s.tree.name less)) (inv.made i s at less none)
        made_by i s at none (inr high) low =
            let number : n ≡ g.number s.tree.name = omega (arith, high, low) in
            let node = in_candidate s.tree.name (contained_in M s (contains_at M i s at)) in
            subst (λ k. IsMade s (g.members k) known (slice_get lines i) (after s.tree.name)) number (adds.made i s at ((is.members n s.tree.name).1 (node, sym number)) none)

    pub all_added : (n : ℕ) (entry : Atom → Option Entry) → g.count ≤ n → AreAdded K M known lines g n entry → AreNew K M known lines entry
    all_added n entry high inv = record {
      groups = g;
      grouped = is;
      kept = λ h e at. inv.kept h e (let low = is.low h (stored_candidate h e at) in omega (arith, high, low)) at;
      made = λ i s at none. inv.made i s at (let low = is.low s.tree.name (in_candidate s.tree.name (contained_in M s (contains_at M i s at))) in omega (arith, high, low)) none;
      others = inv.others;
    }
