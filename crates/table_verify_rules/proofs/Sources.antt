-- Sources that are passed, their names, and the entries under these.
use Rattle.std.proofs.Common.{◌≡◌, ℕ, zero, suc, ◌<◌, Bool, true, false, cond, ◌||◌, List, [], ◌∷◌, Contains, length, map, get_or, slice_get, Option, Some, None, refl, sym, ap, ◌∙◌, subst, true≢false}
use Rattle.std.specs.Prelude.{MatchOption, Result, Ok, Err, option_map}
use Rattle.std.specs.List.Sorted.{IsBinarySearchResult, IsSearchInRange}
use Rattle.std.specs.Ordering.{eq_by_cmp}
use Rattle.std.specs.Result.{is_ok, result_ok}
use Rattle.std.proofs.lemmas.Bool.{false_from_ne_true, or_left}
use Rattle.std.proofs.lemmas.List.{length-map, map-id}
use Rattle.std.proofs.lemmas.Option.{slice_get-get_or, slice_get-map, slice_get_read, slice_get_within}
use Rattle.type_kinds.proofs.Lists.{contains_at}
use Rattle.type_kinds.specs.declared.atom.Atom.{Atom}
use Rattle.type_kinds_sets.specs.Ascending.{is_ascending, merged}
use Rattle.type_kinds_sets.specs.Names.{name_cmp}
use Rattle.type_kinds_sets.proofs.AscendingLaws as ascending
use Rattle.type_kinds_sets.proofs.AscendingLaws.{ascending-merged}
use Rattle.type_kinds_sets.proofs.NameLaws.{name_total, name_same}
use Rattle.core_ast.specs.Model as m
use Rattle.core_scope.specs.Checked.{module_of, tree_of}
use Rattle.core_scope.specs.Names.{Distinct, same_atom}
use Rattle.core_scope.specs.Sets.{StandsEarlier}
use Rattle.core_scope.proofs.NameLaws.{none_earlier}
use Rattle.analysis_summaries.specs.Known.{module_names}
use Rattle.table_file.specs.Order.{rises, has_name, is_name_before}
use Rattle.table_file.proofs.RiseLaws.{search_has}
use Rattle.table_file.specs.declared.entries.Entry.{Entry as StoredEntry}
use Rattle.table_file.specs.declared.tables.Table.{Table}
use Rattle.table_keep.specs.Model.{Entry, source_so, sources_so, trees, source_of, entry_of, entry_so, entries_so}
use Rattle.table_keep.specs.declared.source.Source.{Source as HandedIn}
use Rattle.table_keep.proofs.RisingLaws.{in_merged, merged_in}
use Rattle.table_keep.proofs.RisingNames.{first_before, rest_rises, not_itself}
use Rattle.table_keep.proofs.Rises.{ascending_rises}
use Rattle.sound_laws_kept.specs.Solving.{AreSources}
use Rattle.sound_laws_kept.proofs.Names.{accepted_sources, in_named, itself, name_is, named_in, none_some, some_is}
use Rattle.sound_laws_kept.proofs.Trees.{own_source}
use Rattle.table_verify_laws.specs.Lined.{entry_names, AreModuleNames}

-- ---- sources with distinct names

abbrev pub names_of : List HandedIn → List Atom
names_of ss = map (λ s. (module_of s.checked).name) ss

pub names_so : (ss : List HandedIn) → names_of ss ≡ module_names (trees (sources_so ss))
names_so [] = refl
names_so (s ∷ ss) = ap (λ hs. (module_of s.checked).name ∷ hs) (names_so ss)

-- none has the name of an earlier one
abbrev pub OwnNames : List HandedIn → Type 0
OwnNames ss = (j : ℕ) → j < length ss → StandsEarlier (names_of ss) j → ⊥

pub handed : (ss : List HandedIn) → OwnNames ss → AreSources (sources_so ss)
handed ss own = record {
  accepted = accepted_sources ss;
  distinct = subst Distinct (names_so ss) (none_earlier (names_of ss) (λ j low. own j (subst (λ n. j < n) (length-map ss (λ s. (module_of s.checked).name)) low)));
}

-- the modules of what is passed
abbrev pub handed_trees : List HandedIn → List m.Module
handed_trees ss = map (λ s. tree_of s.checked) ss

pub trees_so : (ss : List HandedIn) → handed_trees ss ≡ trees (sources_so ss)
trees_so [] = refl
trees_so (s ∷ ss) = ap (λ xs. tree_of s.checked ∷ xs) (trees_so ss)

-- each is found under its name
pub found_at : (ss : List HandedIn) → OwnNames ss → (i : ℕ) (s : HandedIn) → i < length ss → s ≡ get_or ss i s → source_of (sources_so ss) (source_so s).tree.name ≡ Some (source_so s)
found_at ss own i s low is =
    own_source (sources_so ss) (handed ss own).distinct (source_so s)
    (contains_at (sources_so ss) i (source_so s) (slice_get-map source_so ss i ∙ ap (option_map source_so) (slice_get_read ss (length ss) i s refl low is)))

-- ---- the names of sources, each once, rising

up : (all : List Atom) → rises is_name_before (merged name_cmp [] all) ≡ true
up all =
    ascending_rises name_cmp is_name_before (λ x. x) (λ x y e. e) (merged name_cmp [] all)
    (ap (is_ascending name_cmp) (map-id (merged name_cmp [] all)) ∙ ascending-merged name_total name_same [] all refl)

pub merged_names : (ss : List HandedIn) (names : List Atom) → names ≡ merged name_cmp [] (names_of ss) → AreModuleNames (sources_so ss) names
merged_names ss names is = record {
  rising = subst (λ ns. rises is_name_before ns ≡ true) (sym is) (up (names_of ss));
  exactly = λ h. (
    λ t. subst (λ ns. Contains ns h) (sym is) (in_merged name_total name_same (names_of ss) h (subst (λ ns. Contains ns h) (sym (names_so ss)) (in_named (sources_so ss) h t))),
    λ has. named_in (sources_so ss) h (subst (λ ns. Contains ns h) (names_so ss) (merged_in name_total name_same (names_of ss) h (subst (λ ns. Contains ns h) is has))),
  );
}

-- ---- entries by their names

-- the one that stands where its name does among the names, which rise
pub entry_at : (es : List Entry) (k : ℕ) (h : Atom) → rises is_name_before (entry_names es) ≡ true → slice_get (entry_names es) k ≡ Some h → entry_of es h ≡ slice_get es k
entry_at [] k h up at = none_some at
entry_at (e ∷ es) zero h up at = ap (λ b. cond b (Some e) (entry_of es h)) (subst (λ x. same_atom x e.name ≡ true) (some_is at) (itself e.name))
entry_at (e ∷ es) (suc k) h up at = ap (λ b. cond b (Some e) (entry_of es h)) other ∙ entry_at es k h (rest_rises e.name (entry_names es) up) at
  where
    other : same_atom h e.name ≡ false
    other = false_from_ne_true (same_atom h e.name) (λ t. not_itself h (subst (λ x. is_name_before x h ≡ true) (sym (name_is h e.name t)) (first_before e.name (entry_names es) up k h at)))

-- and none where the name isn't there
pub no_entry : (es : List Entry) (h : Atom) → has_name (entry_names es) h ≡ false → entry_of es h ≡ None
no_entry [] h e = refl
no_entry (x ∷ es) h e = by (same_atom h x.name) refl (no_entry es h)
  where
    later : (a b : Bool) → (a || b) ≡ false → b ≡ false
    later true b f = absurd (true≢false f)
    later false b f = f

    by : (b : Bool) → same_atom h x.name ≡ b → (has_name (entry_names es) h ≡ false → entry_of es h ≡ None) → cond b (Some x) (entry_of es h) ≡ None
    by true is rest =
        let here : eq_by_cmp name_cmp h x.name ≡ true = ap (eq_by_cmp name_cmp h) (sym (name_is h x.name is)) ∙ ascending.itself name_total name_same h in
        absurd (true≢false (sym (or_left (eq_by_cmp name_cmp h x.name) (has_name (entry_names es) h) here) ∙ e))
    by false is rest = rest (later (eq_by_cmp name_cmp h x.name) (has_name (entry_names es) h) e)

-- ---- the entries of a table, which has these names

names_long : (es : List StoredEntry) → length (entry_names (map entry_so es)) ≡ length es
names_long [] = refl
names_long (e ∷ es) = ap suc (names_long es)

module _ (T : Table) (names : List Atom) (is : entry_names (entries_so T) ≡ names) (at : ℕ) (h : Atom) (there : slice_get names at ≡ Some h) where
  there_in : slice_get (entry_names (entries_so T)) at ≡ Some h
  there_in = ap (λ ns. slice_get ns at) is ∙ there

  pub entry_within : at < length T.entries
  entry_within = subst (λ n. at < n) (names_long T.entries) (slice_get_within (entry_names (entries_so T)) at h there_in)

  pub entry_is : rises is_name_before names ≡ true → (e : StoredEntry) → slice_get T.entries at ≡ Some e → entry_of (entries_so T) h ≡ Some (entry_so e)
  entry_is up e stands =
      entry_at (entries_so T) at h (subst (λ ns. rises is_name_before ns ≡ true) (sym is) up) there_in
      ∙ slice_get-map entry_so T.entries at ∙ ap (option_map entry_so) stands

pub no_entry_of : (T : Table) (names : List Atom) → entry_names (entries_so T) ≡ names → (h : Atom) → has_name names h ≡ false → entry_of (entries_so T) h ≡ None
no_entry_of T names is h e = no_entry (entries_so T) h (ap (λ ns. has_name ns h) is ∙ e)

-- ---- a name among names that rise

pub searched : (names : List Atom) (q : Atom) → rises is_name_before names ≡ true → (r : Result ℕ ℕ) (o : Option ℕ) → IsSearchInRange r (length names) → IsBinarySearchResult (λ y. name_cmp y q) names r → o ≡ result_ok r
    → MatchOption o (has_name names q ≡ false) (λ i. slice_get names i ≡ Some q)
searched names q up r o range at is = subst (λ p. MatchOption p (has_name names q ≡ false) (λ i. slice_get names i ≡ Some q)) (sym is) (by r range at (search_has names q r up range at))
  where
    by : (r : Result ℕ ℕ) → IsSearchInRange r (length names) → IsBinarySearchResult (λ y. name_cmp y q) names r → is_ok r ≡ has_name names q
        → MatchOption (result_ok r) (has_name names q ≡ false) (λ i. slice_get names i ≡ Some q)
    by (Ok i) range at found = slice_get-get_or names i q range ∙ ap Some (name_same (get_or names i q) q (at q))
    by (Err i) range at found = sym found
